use Rattle.std.proofs.Common.{◌≡◌, ◌∙◌, [], ◌∷◌, ◌++◌, true, false, None, Result, Ok, Err, sym, ap, subst}
use Rattle.std.specs.Prelude.{◌&&◌, IfOk, map}
use Rattle.btree_family.specs.Rising.{Rises}
use Rattle.bucket_state.specs.declared.tree.Inner.{Inner}
use Rattle.bucket_state.specs.Trees.{separators_of}
use Rattle.btree_shapes.specs.declared.node.Node.TheVariants as node
use Rattle.btree_shapes.specs.declared.path.Step.{Step}
use Rattle.btree_shapes.specs.Nodes.{Holds, child_for, node_suits, objects_of}
use Rattle.btree_shapes.specs.Ways.{Answers, reads, step_oid}
use Rattle.btree_shapes.specs.Steps.{root_bad_key, root_lone, root_leaf}
use Rattle.btree_shapes.proofs.Goings.{root_inner}
use Rattle.btree_shapes.specs.MetLaws.{root_read}
use Rattle.btree_shapes.proofs.Meeting.{root_onward}
use Rattle.btree_shapes.specs.RiseLaws.{held_rises}
use Rattle.btree_shapes.proofs.way.follow_root.Goals as goal

pub child_for-next-requires : goal.child_for-next-requires
child_for-next-requires g c =
    let h : objects_of (g.S.Space.contents c.args.space.now) c.args.tree.now.root c.args.tree.now.root ≡ Holds c.args.entry.class (node.Inner c.in-Inner.inner) = cc c.requires.entry in
    record { rises = subst (λ (i : Inner). Rises None (separators_of i.tail)) (sym c.deref.ensures) (held_rises (g.S.Space.contents c.args.space.now) c.args.tree.now.root c.args.tree.now.root c.args.entry.class c.in-Inner.inner h) }

pub returns-then-not-suits-clause-answer : goal.returns-then-not-suits-clause-answer
returns-then-not-suits-clause-answer g c =
    let t : (c.args.fits && node_suits c.args.key.now c.args.entry.node) ≡ false = cc in
    root_bad_key _ _ _ _ _ _ c.requires.entry t

pub returns-in_ok-push-in-Inner-clause-answer : goal.returns-in_ok-push-in-Inner-clause-answer
returns-in_ok-push-in-Inner-clause-answer g c =
    let t : (c.args.fits && node_suits c.args.key.now (node.Inner c.in-Inner.inner)) ≡ true = cc in
    let h : objects_of (g.S.Space.contents c.args.space.now) c.args.tree.now.root c.args.tree.now.root ≡ Holds c.args.entry.class (node.Inner c.in-Inner.inner) = cc c.requires.entry in
    let step : Step = record { oid = c.args.tree.now.root; class = c.args.entry.class; inner = c.in-Inner.inner } in
    let path = c.in_ok-push-in-Inner.ensures.ok ∙ ap (λ steps. steps ++ step ∷ []) c.new-path.ensures in
    subst (Answers c.follow.result) (root_inner _ _ _ _ _ _ _ _ h t (c.child_for-next.ensures ∙ ap (λ (i : Inner). child_for i.head i.tail c.args.key.now) c.deref.ensures) path) c.follow.ensures.answer

pub returns-in-Lone-clause-answer : goal.returns-in-Lone-clause-answer
returns-in-Lone-clause-answer g c =
    let t : (c.args.fits && node_suits c.args.key.now (node.Lone c.in-Lone.bucket)) ≡ true = cc in
    let h : objects_of (g.S.Space.contents c.args.space.now) c.args.tree.now.root c.args.tree.now.root ≡ Holds c.args.entry.class (node.Lone c.in-Lone.bucket) = cc c.requires.entry in
    root_lone c.args.fits c.args.key.now (objects_of (g.S.Space.contents c.args.space.now) c.args.tree.now.root) c.args.tree.now.root c.args.entry.class c.in-Lone.bucket h t
    ∙ ap (λ steps. Ok (record { path = steps; oid = c.args.tree.now.root; class = c.args.entry.class; node = node.Lone c.in-Lone.bucket })) (sym c.new-path.ensures)

pub returns-in-Leaf-clause-answer : goal.returns-in-Leaf-clause-answer
returns-in-Leaf-clause-answer g c =
    let t : (c.args.fits && node_suits c.args.key.now (node.Leaf c.in-Leaf.bucket)) ≡ true = cc in
    let h : objects_of (g.S.Space.contents c.args.space.now) c.args.tree.now.root c.args.tree.now.root ≡ Holds c.args.entry.class (node.Leaf c.in-Leaf.bucket) = cc c.requires.entry in
    root_leaf c.args.fits c.args.key.now (objects_of (g.S.Space.contents c.args.space.now) c.args.tree.now.root) c.args.tree.now.root c.args.entry.class c.in-Leaf.bucket h t
    ∙ ap (λ steps. Ok (record { path = steps; oid = c.args.tree.now.root; class = c.args.entry.class; node = node.Leaf c.in-Leaf.bucket })) (sym c.new-path.ensures)

-- ---- what is logged

if_ok_more : {X E : Type 0} (P Q : X → Type 0) (r : Result X E) → ((x : X) → P x → Q x) → IfOk r P → IfOk r Q
if_ok_more P Q (Ok x) f p = f x p
if_ok_more P Q (Err e) f p = tt

pub returns-in_ok-push-in-Inner-clause-log : goal.returns-in_ok-push-in-Inner-clause-log
returns-in_ok-push-in-Inner-clause-log g c =
    let step : Step = record { oid = c.args.tree.now.root; class = c.args.entry.class; inner = c.in-Inner.inner } in
    let path = c.in_ok-push-in-Inner.ensures.ok ∙ ap (λ steps. steps ++ step ∷ []) c.new-path.ensures in
    if_ok_more _ _ c.follow.result (λ found logged. λ t base e. logged t base (e ∙ ap (λ steps. base ++ reads (map step_oid steps)) (sym path))) c.follow.ensures.log

-- ---- what is met

pub returns-in_ok-push-in-Inner-clause-met : goal.returns-in_ok-push-in-Inner-clause-met
returns-in_ok-push-in-Inner-clause-met g c =
    let h : objects_of (g.S.Space.contents c.args.space.now) c.args.tree.now.root c.args.tree.now.root ≡ Holds c.args.entry.class (node.Inner c.in-Inner.inner) = cc c.requires.entry in
    let step : Step = record { oid = c.args.tree.now.root; class = c.args.entry.class; inner = c.in-Inner.inner } in
    let path = c.in_ok-push-in-Inner.ensures.ok ∙ ap (λ steps. steps ++ step ∷ []) c.new-path.ensures in
    λ t base e. root_onward c.args.key.now (objects_of (g.S.Space.contents c.args.space.now) c.args.tree.now.root) c.args.tree.now.root _ base _ _ _ _ _ e h (c.child_for-next.ensures ∙ ap (λ (i : Inner). child_for i.head i.tail c.args.key.now) c.deref.ensures) path (c.follow.ensures.met t)

pub returns-then-not-suits-clause-met : goal.returns-then-not-suits-clause-met
returns-then-not-suits-clause-met g c = λ t base e. root_read c.args.key.now (objects_of (g.S.Space.contents c.args.space.now) c.args.tree.now.root) c.args.tree.now.root base _ e

pub returns-in_err-push-in-Inner-clause-met : goal.returns-in_err-push-in-Inner-clause-met
returns-in_err-push-in-Inner-clause-met g c = λ t base e. root_read c.args.key.now (objects_of (g.S.Space.contents c.args.space.now) c.args.tree.now.root) c.args.tree.now.root base _ e

pub returns-in-Lone-clause-met : goal.returns-in-Lone-clause-met
returns-in-Lone-clause-met g c = λ t base e. root_read c.args.key.now (objects_of (g.S.Space.contents c.args.space.now) c.args.tree.now.root) c.args.tree.now.root base _ e

pub returns-in-Leaf-clause-met : goal.returns-in-Leaf-clause-met
returns-in-Leaf-clause-met g c = λ t base e. root_read c.args.key.now (objects_of (g.S.Space.contents c.args.space.now) c.args.tree.now.root) c.args.tree.now.root base _ e
