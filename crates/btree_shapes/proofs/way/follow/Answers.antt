use Rattle.std.proofs.Common.{◌≡◌, ◌∙◌, true, false, None, append-nil, arith, refl, sym, ap, subst}
use Rattle.std.specs.Prelude.{map, ◌&&◌}
use Rattle.btree_shapes.specs.declared.node.Node.TheVariants as node
use Rattle.btree_shapes.specs.declared.path.Step.{Step}
use Rattle.btree_family.specs.Rising.{Rises}
use Rattle.bucket_state.specs.declared.tree.Inner.{Inner}
use Rattle.bucket_state.specs.Trees.{separators_of}
use Rattle.btree_shapes.specs.Nodes.{Holds, child_for, node_suits, objects_of}
use Rattle.btree_shapes.specs.Ways.{stands_in, step_oid}
use Rattle.btree_shapes.proofs.Goings.{twice, bad_key, ends_lone, ends_leaf, onward, read_last, reads_onward}
use Rattle.btree_shapes.specs.MetLaws.{up_to_end}
use Rattle.btree_shapes.proofs.Meeting.{logged_here, met_onward, read_here}
use Rattle.btree_shapes.specs.RiseLaws.{held_rises}
use Rattle.btree_shapes.proofs.way.follow.Goals as goal

pub child_for-next-requires : goal.child_for-next-requires
child_for-next-requires g c =
    let h : objects_of (g.S.Space.contents c.down.space) c.args.tree.now.root c.down.oid ≡ Holds c.in_ok-class.field-0.class (node.Inner c.in-Inner.inner) = cc c.in_ok-class.ensures.entry in
    record { rises = subst (λ (i : Inner). Rises None (separators_of i.tail)) (sym c.deref.ensures) (held_rises (g.S.Space.contents c.down.space) c.args.tree.now.root c.down.oid c.in_ok-class.field-0.class c.in-Inner.inner h) }

pub returns-then-contains-clause-answer : goal.returns-then-contains-clause-answer
returns-then-contains-clause-answer g c =
    let s : stands_in (map step_oid c.down.path) c.down.oid ≡ true = cc in
    twice _ _ _ _ _ _ c.down.invariant.gives c.down.invariant.room s

pub returns-then-not-suits-clause-answer : goal.returns-then-not-suits-clause-answer
returns-then-not-suits-clause-answer g c =
    let s : stands_in (map step_oid c.down.path) c.down.oid ≡ false = cc in
    let t : (c.args.fits && node_suits c.args.key.now c.in_ok-class.field-0.node) ≡ false = cc in
    let h = rw c.down.invariant.contents at c.in_ok-class.ensures.entry in
    bad_key _ _ _ _ _ _ _ _ c.down.invariant.gives c.down.invariant.room s h t

pub down-preserved : goal.down-preserved
down-preserved g c =
    let s : stands_in (map step_oid c.down.path) c.down.oid ≡ false = cc in
    let t : (c.args.fits && node_suits c.args.key.now (node.Inner c.in-Inner.inner)) ≡ true = cc in
    let h : objects_of (g.S.Space.contents c.args.space.now) c.args.tree.now.root c.down.oid ≡ Holds c.in_ok-class.field-0.class (node.Inner c.in-Inner.inner) =
    cc (rw c.down.invariant.contents at c.in_ok-class.ensures.entry) in
    let step : Step = record { oid = c.down.oid; class = c.in_ok-class.field-0.class; inner = c.in-Inner.inner } in
    let pushed = c.in_ok-push-in-Inner.ensures.ok in
    let next = c.child_for-next.ensures ∙ ap (λ (i : Inner). child_for i.head i.tail c.args.key.now) c.deref.ensures in
    record {
      room = let r = c.in_ok-push-in-Inner.ensures.room in omega (arith, r);
      gives = onward _ _ _ _ _ _ _ _ _ _ c.down.invariant.gives c.down.invariant.room s h t next pushed;
      log = λ t base e. reads_onward base _ _ _ _ step (c.down.invariant.log t base e) (c.in_ok-class.ensures.log t) pushed;
      met = λ t. met_onward c.args.key.now (objects_of (g.S.Space.contents c.args.space.now) c.args.tree.now.root) c.down.path _ c.down.oid _ _ _ _ _ _ _ (c.down.invariant.met t) c.down.invariant.room s h next pushed (c.in_ok-class.ensures.log t);
      contents = c.in_ok-class.ensures.contents ∙ c.down.invariant.contents;
      refusals = λ t. c.in_ok-class.ensures.refusals t ∙ append-nil _ ∙ c.down.invariant.refusals t;
    }

pub returns-in-Lone-clause-answer : goal.returns-in-Lone-clause-answer
returns-in-Lone-clause-answer g c =
    let s : stands_in (map step_oid c.down.path) c.down.oid ≡ false = cc in
    let t : (c.args.fits && node_suits c.args.key.now (node.Lone c.in-Lone.bucket)) ≡ true = cc in
    let h : objects_of (g.S.Space.contents c.args.space.now) c.args.tree.now.root c.down.oid ≡ Holds c.in_ok-class.field-0.class (node.Lone c.in-Lone.bucket) =
    cc (rw c.down.invariant.contents at c.in_ok-class.ensures.entry) in
    let e = ends_lone _ _ _ _ _ _ _ _ c.down.invariant.gives c.down.invariant.room s h t in
    cc (e, c.in_ok-class.class-is)

pub returns-in-Lone-clause-log : goal.returns-in-Lone-clause-log
returns-in-Lone-clause-log g c = λ t base e. read_last base _ _ _ _ (c.down.invariant.log t base e) (c.in_ok-class.ensures.log t)

pub returns-in-Leaf-clause-answer : goal.returns-in-Leaf-clause-answer
returns-in-Leaf-clause-answer g c =
    let s : stands_in (map step_oid c.down.path) c.down.oid ≡ false = cc in
    let t : (c.args.fits && node_suits c.args.key.now (node.Leaf c.in-Leaf.bucket)) ≡ true = cc in
    let h : objects_of (g.S.Space.contents c.args.space.now) c.args.tree.now.root c.down.oid ≡ Holds c.in_ok-class.field-0.class (node.Leaf c.in-Leaf.bucket) =
    cc (rw c.down.invariant.contents at c.in_ok-class.ensures.entry) in
    let e = ends_leaf _ _ _ _ _ _ _ _ c.down.invariant.gives c.down.invariant.room s h t in
    cc (e, c.in_ok-class.class-is)

pub returns-in-Leaf-clause-log : goal.returns-in-Leaf-clause-log
returns-in-Leaf-clause-log g c = λ t base e. read_last base _ _ _ _ (c.down.invariant.log t base e) (c.in_ok-class.ensures.log t)

-- ---- what is met

pub returns-then-contains-clause-met : goal.returns-then-contains-clause-met
returns-then-contains-clause-met g c = λ t. up_to_end _ _ _ _ _ (c.down.invariant.met t) refl

pub returns-in_err-class-clause-met : goal.returns-in_err-class-clause-met
returns-in_err-class-clause-met g c =
    let s : stands_in (map step_oid c.down.path) c.down.oid ≡ false = cc in
    λ t. logged_here c.args.key.now (objects_of (g.S.Space.contents c.args.space.now) c.args.tree.now.root) c.down.path c.down.oid _ _ _ _ _ (c.down.invariant.met t) c.down.invariant.room s (c.in_err-class.ensures.log t)

pub returns-then-not-suits-clause-met : goal.returns-then-not-suits-clause-met
returns-then-not-suits-clause-met g c =
    let s : stands_in (map step_oid c.down.path) c.down.oid ≡ false = cc in
    λ t. read_here c.args.key.now (objects_of (g.S.Space.contents c.args.space.now) c.args.tree.now.root) c.down.path c.down.oid _ _ _ _ (c.down.invariant.met t) c.down.invariant.room s (c.in_ok-class.ensures.log t)

pub returns-in_err-push-in-Inner-clause-met : goal.returns-in_err-push-in-Inner-clause-met
returns-in_err-push-in-Inner-clause-met g c =
    let s : stands_in (map step_oid c.down.path) c.down.oid ≡ false = cc in
    λ t. read_here c.args.key.now (objects_of (g.S.Space.contents c.args.space.now) c.args.tree.now.root) c.down.path c.down.oid _ _ _ _ (c.down.invariant.met t) c.down.invariant.room s (c.in_ok-class.ensures.log t)

pub returns-in-Lone-clause-met : goal.returns-in-Lone-clause-met
returns-in-Lone-clause-met g c =
    let s : stands_in (map step_oid c.down.path) c.down.oid ≡ false = cc in
    λ t. read_here c.args.key.now (objects_of (g.S.Space.contents c.args.space.now) c.args.tree.now.root) c.down.path c.down.oid _ _ _ _ (c.down.invariant.met t) c.down.invariant.room s (c.in_ok-class.ensures.log t)

pub returns-in-Leaf-clause-met : goal.returns-in-Leaf-clause-met
returns-in-Leaf-clause-met g c =
    let s : stands_in (map step_oid c.down.path) c.down.oid ≡ false = cc in
    λ t. read_here c.args.key.now (objects_of (g.S.Space.contents c.args.space.now) c.args.tree.now.root) c.down.path c.down.oid _ _ _ _ (c.down.invariant.met t) c.down.invariant.room s (c.in_ok-class.ensures.log t)
