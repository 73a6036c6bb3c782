use Rattle.std.proofs.Common.{◌≡◌, [], length}
use Rattle.btree_shapes.specs.Nodes.{objects_of}
use Rattle.btree_shapes.specs.Met.{ReadsUpTo}
use Rattle.btree_setting.specs.Rungs.{settle, asked}
use Rattle.btree_setting.proofs.Beside.{SettledSo, ReadSo}
use Rattle.btree_setting.proofs.settling.settle.Given as goal

abbrev pub invariant-down : goal.invariant-down
invariant-down g l = record {
  settled : SettledSo (objects_of (g.S.Space.contents l.fn.space) l.tree.root) l.fits l.key
      (settle (objects_of (g.S.Space.contents l.fn.space) l.tree.root) l.fits l.key [] l.fn.rungs) l.above l.known l.left;
  contents : g.S.Space.contents l.space ≡ g.S.Space.contents l.fn.space;
  read : g.S.Space.told → ReadSo (g.S.Space.log l.fn.space) (g.S.Space.log l.space) l.fn.rungs l.left;
  met : g.S.Space.told → ReadsUpTo (asked l.fn.rungs) (asked l.left) (g.S.Space.log l.fn.space) (g.S.Space.log l.space);
  refusals : g.S.Space.told → g.S.Space.refusals l.space ≡ g.S.Space.refusals l.fn.space;
}

abbrev pub decreases-down : goal.decreases-down
decreases-down g l = length l.left
