use Rattle.std.proofs.Common.{◌≡◌, ◌∙◌, true, false, refl, append-nil}
use Rattle.std.specs.Prelude.{◌&&◌}
use Rattle.btree_shapes.specs.Nodes.{objects_of}
use Rattle.btree_maps.specs.Visits.{ends_suit}
use Rattle.btree_maps.proofs.Walks.{start_bad_key, start_gives, start_same, loop_child, loop_none, room_none, same_none}
use Rattle.btree_shapes.specs.MetLaws.{up_to_end}
use Rattle.btree_maps.proofs.Meeting.{child_met, child_refused, none_met, start_met, start_read}
use Rattle.btree_maps.proofs.walk.walk_all.Goals as goal

pub returns-then-not-suits-clause-answer : goal.returns-then-not-suits-clause-answer
returns-then-not-suits-clause-answer g c =
    let t : (c.args.fits && ends_suit c.args.span.now c.args.entry.node) ≡ false = cc in
    start_bad_key _ _ _ _ _ _ c.requires.entry t

pub walk-init : goal.walk-init
walk-init g c =
    let t : (c.args.fits && ends_suit c.args.span.now c.args.entry.node) ≡ true = cc in
    record {
      room = c.in_ok-walk.ensures.room;
      same = start_same _ _ _ _ _ _ _ c.new.ensures c.new-2.ensures c.in_ok-walk.ensures.walk;
      gives = start_gives _ _ _ _ _ _ _ _ _ _ c.requires.entry t c.new.ensures c.new-2.ensures c.new-3.ensures c.in_ok-walk.ensures.walk;
      met = λ t base e. start_met c.args.span.now (objects_of (g.S.Space.contents c.args.space.now) c.args.tree.now.root) _ _ _ _ c.args.tree.now.root _ _ base _ c.requires.entry c.new.ensures c.new-2.ensures c.new-3.ensures c.in_ok-walk.ensures.walk e;
      contents = refl;
      refusals = λ t. refl;
    }

pub walk-preserved-in-Some-pop : goal.walk-preserved-in-Some-pop
walk-preserved-in-Some-pop g c =
    let i = c.walk.invariant in
    let n = c.in_ok-walk-in-Some-pop.ensures in
    record {
      room = n.room;
      same = n.same;
      gives = (rw i.contents at n.gives) ∙ loop_child _ _ _ _ _ _ _ _ _ _ _ _ i.same c.in-Some.ensures c.in-Some-pop.ensures c.in_ok-push-in-Some-pop.ensures i.gives;
      met = λ t base e. child_met c.args.span.now (objects_of (g.S.Space.contents c.args.space.now) c.args.tree.now.root) _ _ _ _ _ _ _ _ _ base _ _ i.same c.in-Some.ensures c.in-Some-pop.ensures c.in_ok-push-in-Some-pop.ensures (i.met t base e) (rw i.contents at n.left) (n.read t);
      contents = n.contents ∙ i.contents;
      refusals = λ t. n.refusals t ∙ append-nil _ ∙ i.refusals t;
    }

pub walk-preserved : goal.walk-preserved
walk-preserved g c =
    let i = c.walk.invariant in
    record {
      room = room_none _ _ _ _ _ _ i.room i.same c.in-Some.ensures c.pop-in-None.ensures;
      same = same_none _ _ _ _ _ _ i.same c.in-Some.ensures c.pop-in-None.ensures;
      gives = loop_none _ _ _ _ _ _ _ _ _ _ _ i.same c.in-Some.ensures c.in-None.ensures.0 c.pop-in-None.ensures i.gives;
      met = λ t base e. none_met c.args.span.now (objects_of (g.S.Space.contents c.args.space.now) c.args.tree.now.root) _ _ _ _ _ _ _ base _ i.same c.in-Some.ensures c.in-None.ensures.0 c.pop-in-None.ensures (i.met t base e);
      contents = i.contents;
      refusals = i.refusals;
    }

pub returns-in_err-walk-in-Some-pop-clause-met : goal.returns-in_err-walk-in-Some-pop-clause-met
returns-in_err-walk-in-Some-pop-clause-met g c =
    let i = c.walk.invariant in
    let n = c.in_err-walk-in-Some-pop.ensures in
    λ t base e. child_refused c.args.span.now (objects_of (g.S.Space.contents c.args.space.now) c.args.tree.now.root) _ _ _ _ _ _ _ _ base _ _ i.same c.in-Some.ensures c.in-Some-pop.ensures c.in_ok-push-in-Some-pop.ensures (i.met t base e) (rw i.contents at (n.met t))

pub returns-in_err-push-in-Some-pop-clause-met : goal.returns-in_err-push-in-Some-pop-clause-met
returns-in_err-push-in-Some-pop-clause-met g c = λ t base e. up_to_end _ _ base _ _ (c.walk.invariant.met t base e) refl

pub returns-clause-met : goal.returns-clause-met
returns-clause-met g c = λ t base e. up_to_end _ _ base _ _ (c.walk.invariant.met t base e) refl

pub returns-then-not-suits-clause-met : goal.returns-then-not-suits-clause-met
returns-then-not-suits-clause-met g c = λ t base e. start_read c.args.span.now (objects_of (g.S.Space.contents c.args.space.now) c.args.tree.now.root) c.args.tree.now.root base _ e

pub returns-in_err-walk-clause-met : goal.returns-in_err-walk-clause-met
returns-in_err-walk-clause-met g c = λ t base e. start_read c.args.span.now (objects_of (g.S.Space.contents c.args.space.now) c.args.tree.now.root) c.args.tree.now.root base _ e
