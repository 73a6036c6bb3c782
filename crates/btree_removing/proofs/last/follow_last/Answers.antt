use Rattle.std.proofs.Common.{◌≡◌, ◌∙◌, true, false, append-nil, arith, refl, ap}
use Rattle.bucket_state.specs.declared.tree.Inner.{Inner}
use Rattle.btree_shapes.specs.declared.node.Node.TheVariants as node
use Rattle.btree_shapes.specs.Nodes.{Holds, node_suits, objects_of}
use Rattle.btree_shapes.specs.Ways.{stands_in}
use Rattle.btree_shapes.specs.MetLaws.{up_to_end}
use Rattle.btree_removing.specs.Lasts.{last_child}
use Rattle.btree_removing.proofs.Lasting.{twice, bad_key, ends_lone, ends_leaf, onward, read_start, read_step, read_end, logged_here, met_onward, read_here}
use Rattle.btree_removing.proofs.last.follow_last.Goals as goal

pub returns-then-stands_in-clause-answer : goal.returns-then-stands_in-clause-answer
returns-then-stands_in-clause-answer g c =
    let s : stands_in c.down.above c.down.oid ≡ true = cc in
    twice _ _ _ _ _ c.down.invariant.gives c.stands_in.ensures.room s

pub returns-then-not-suits-clause-answer : goal.returns-then-not-suits-clause-answer
returns-then-not-suits-clause-answer g c =
    let s : stands_in c.down.above c.down.oid ≡ false = cc in
    let t : node_suits c.args.key.now c.in_ok-class.field-0.node ≡ false = cc in
    let h = rw c.down.invariant.contents at c.in_ok-class.ensures.entry in
    bad_key _ _ _ _ _ _ _ c.down.invariant.gives c.stands_in.ensures.room s h t

pub down-preserved : goal.down-preserved
down-preserved g c =
    let s : stands_in c.down.above c.down.oid ≡ false = cc in
    let t : node_suits c.args.key.now (node.Inner c.in-Inner.inner) ≡ true = cc in
    let h : objects_of (g.S.Space.contents c.args.space.now) c.args.tree.now.root c.down.oid ≡ Holds c.in_ok-class.field-0.class (node.Inner c.in-Inner.inner) =
    cc (rw c.down.invariant.contents at c.in_ok-class.ensures.entry) in
    let pushed = c.in_ok-push-in-Inner.ensures.ok in
    let next = c.last_child-next.ensures ∙ ap (λ (i : Inner). last_child i.head i.tail) c.deref.ensures in
    record {
      gives = onward _ _ _ _ _ _ _ _ _ c.down.invariant.gives c.stands_in.ensures.room s h t next pushed;
      log = λ t. read_step _ _ _ _ _ _ _ (c.down.invariant.log t) (c.in_ok-class.ensures.log t) pushed;
      met = λ t. met_onward (objects_of (g.S.Space.contents c.args.space.now) c.args.tree.now.root) c.down.above _ c.down.oid _ _ _ _ _ _ _ (c.down.invariant.met t) c.stands_in.ensures.room s h next pushed (c.in_ok-class.ensures.log t);
      contents = c.in_ok-class.ensures.contents ∙ c.down.invariant.contents;
      refusals = λ t. c.in_ok-class.ensures.refusals t ∙ append-nil _ ∙ c.down.invariant.refusals t;
    }

pub returns-in-Lone-clause-answer : goal.returns-in-Lone-clause-answer
returns-in-Lone-clause-answer g c =
    let s : stands_in c.down.above c.down.oid ≡ false = cc in
    let t : node_suits c.args.key.now (node.Lone c.in-Lone.leaf) ≡ true = cc in
    let h : objects_of (g.S.Space.contents c.args.space.now) c.args.tree.now.root c.down.oid ≡ Holds c.in_ok-class.field-0.class (node.Lone c.in-Lone.leaf) =
    cc (rw c.down.invariant.contents at c.in_ok-class.ensures.entry) in
    let e = ends_lone _ _ _ _ _ _ _ c.down.invariant.gives c.stands_in.ensures.room s h t in
    cc (e, c.in_ok-class.class-is)

pub returns-in-Lone-clause-log : goal.returns-in-Lone-clause-log
returns-in-Lone-clause-log g c = λ t. read_end _ _ _ _ _ _ c.in_ok-class.field-0.class (node.Lone c.in-Lone.leaf) (c.down.invariant.log t) (c.in_ok-class.ensures.log t)

pub returns-in-Leaf-clause-answer : goal.returns-in-Leaf-clause-answer
returns-in-Leaf-clause-answer g c =
    let s : stands_in c.down.above c.down.oid ≡ false = cc in
    let t : node_suits c.args.key.now (node.Leaf c.in-Leaf.leaf) ≡ true = cc in
    let h : objects_of (g.S.Space.contents c.args.space.now) c.args.tree.now.root c.down.oid ≡ Holds c.in_ok-class.field-0.class (node.Leaf c.in-Leaf.leaf) =
    cc (rw c.down.invariant.contents at c.in_ok-class.ensures.entry) in
    let e = ends_leaf _ _ _ _ _ _ _ c.down.invariant.gives c.stands_in.ensures.room s h t in
    cc (e, c.in_ok-class.class-is)

pub returns-in-Leaf-clause-log : goal.returns-in-Leaf-clause-log
returns-in-Leaf-clause-log g c = λ t. read_end _ _ _ _ _ _ c.in_ok-class.field-0.class (node.Leaf c.in-Leaf.leaf) (c.down.invariant.log t) (c.in_ok-class.ensures.log t)

pub returns-then-stands_in-clause-met : goal.returns-then-stands_in-clause-met
returns-then-stands_in-clause-met g c = λ t. up_to_end _ _ _ _ _ (c.down.invariant.met t) refl

pub returns-in_err-class-clause-met : goal.returns-in_err-class-clause-met
returns-in_err-class-clause-met g c =
    let s : stands_in c.down.above c.down.oid ≡ false = cc in
    λ t. logged_here (objects_of (g.S.Space.contents c.args.space.now) c.args.tree.now.root) c.down.above c.down.oid _ _ _ _ _ (c.down.invariant.met t) c.stands_in.ensures.room s (c.in_err-class.ensures.log t)

pub returns-then-not-suits-clause-met : goal.returns-then-not-suits-clause-met
returns-then-not-suits-clause-met g c =
    let s : stands_in c.down.above c.down.oid ≡ false = cc in
    λ t. read_here (objects_of (g.S.Space.contents c.args.space.now) c.args.tree.now.root) c.down.above c.down.oid _ _ _ _ (c.down.invariant.met t) c.stands_in.ensures.room s (c.in_ok-class.ensures.log t)

pub returns-in_err-push-in-Inner-clause-met : goal.returns-in_err-push-in-Inner-clause-met
returns-in_err-push-in-Inner-clause-met g c =
    let s : stands_in c.down.above c.down.oid ≡ false = cc in
    λ t. read_here (objects_of (g.S.Space.contents c.args.space.now) c.args.tree.now.root) c.down.above c.down.oid _ _ _ _ (c.down.invariant.met t) c.stands_in.ensures.room s (c.in_ok-class.ensures.log t)

pub returns-in-Lone-clause-met : goal.returns-in-Lone-clause-met
returns-in-Lone-clause-met g c =
    let s : stands_in c.down.above c.down.oid ≡ false = cc in
    λ t. read_here (objects_of (g.S.Space.contents c.args.space.now) c.args.tree.now.root) c.down.above c.down.oid _ _ _ _ (c.down.invariant.met t) c.stands_in.ensures.room s (c.in_ok-class.ensures.log t)

pub returns-in-Leaf-clause-met : goal.returns-in-Leaf-clause-met
returns-in-Leaf-clause-met g c =
    let s : stands_in c.down.above c.down.oid ≡ false = cc in
    λ t. read_here (objects_of (g.S.Space.contents c.args.space.now) c.args.tree.now.root) c.down.above c.down.oid _ _ _ _ (c.down.invariant.met t) c.stands_in.ensures.room s (c.in_ok-class.ensures.log t)
