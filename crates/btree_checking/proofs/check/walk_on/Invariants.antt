use Rattle.std.proofs.Common.{◌≡◌, ◌-◌, ◌^◌, length}
use Rattle.btree_shapes.specs.Nodes.{objects_of}
use Rattle.btree_shapes.specs.Ways.{OnlyReads}
use Rattle.btree_checking.specs.Walks.{oids_in}
use Rattle.btree_checking.specs.Steps.{AreHeld, IsSmall, ReadSince, rest_of}
use Rattle.btree_checking.proofs.check.walk_on.Given as goal

abbrev pub invariant-walk : goal.invariant-walk
invariant-walk g l = record {
  held : AreHeld (objects_of (g.S.Space.contents l.fn.space) l.fn.tree.root) l.walk.survey.visits;
  small : IsSmall l.walk.survey.visits;
  gives : rest_of (objects_of (g.S.Space.contents l.fn.space) l.fn.tree.root) l.walk ≡ rest_of (objects_of (g.S.Space.contents l.fn.space) l.fn.tree.root) l.fn.walk;
  read : g.S.Space.told → ReadSince (oids_in l.fn.walk.survey.visits) (oids_in l.walk.survey.visits) (g.S.Space.log l.fn.space) (g.S.Space.log l.space);
  only : g.S.Space.told → OnlyReads (g.S.Space.log l.fn.space) (g.S.Space.log l.space);
  contents : g.S.Space.contents l.space ≡ g.S.Space.contents l.fn.space;
  refusals : g.S.Space.told → g.S.Space.refusals l.space ≡ g.S.Space.refusals l.fn.space;
}

abbrev pub decreases-walk : goal.decreases-walk
decreases-walk g l = 2 ^ 63 - length l.walk.survey.visits
