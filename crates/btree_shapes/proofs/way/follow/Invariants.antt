use Rattle.std.proofs.Common.{◌≡◌, ◌-◌, ◌^◌, ◌<◌, ◌++◌, List, length}
use Rattle.std.specs.Prelude.{map}
use Rattle.btree_shapes.specs.declared.space.Call.{Call}
use Rattle.btree_shapes.specs.Nodes.{objects_of}
use Rattle.btree_shapes.specs.Ways.{step_oid, way_from, below_path, reads}
use Rattle.btree_shapes.specs.Met.{ReadsUpTo}
use Rattle.btree_shapes.proofs.Goings.{Gives}
use Rattle.btree_shapes.proofs.Meeting.{met_at}
use Rattle.btree_shapes.proofs.way.follow.Given as goal

abbrev pub invariant-down : goal.invariant-down
invariant-down g l = record {
  room : length l.path < 2 ^ 64;
  gives : Gives l.fn.fits l.fn.key (objects_of (g.S.Space.contents l.fn.space) l.fn.tree.root) l.path l.oid
      (below_path l.fn.path (way_from l.fn.fits l.fn.key (objects_of (g.S.Space.contents l.fn.space) l.fn.tree.root) (2 ^ 64 - length l.fn.path) (map step_oid l.fn.path) l.fn.oid));
  log : g.S.Space.told → (base : List Call) → g.S.Space.log l.fn.space ≡ base ++ reads (map step_oid l.fn.path) → g.S.Space.log l.space ≡ base ++ reads (map step_oid l.path);
  met : g.S.Space.told → ReadsUpTo (met_at l.fn.key (objects_of (g.S.Space.contents l.fn.space) l.fn.tree.root) l.fn.path l.fn.oid)
      (met_at l.fn.key (objects_of (g.S.Space.contents l.fn.space) l.fn.tree.root) l.path l.oid) (g.S.Space.log l.fn.space) (g.S.Space.log l.space);
  contents : g.S.Space.contents l.space ≡ g.S.Space.contents l.fn.space;
  refusals : g.S.Space.told → g.S.Space.refusals l.space ≡ g.S.Space.refusals l.fn.space;
}

abbrev pub decreases-down : goal.decreases-down
decreases-down g l = 2 ^ 64 - length l.path
