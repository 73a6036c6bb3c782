use Rattle.std.proofs.Common.{◌≡◌, ◌-◌, ◌^◌, length}
use Rattle.btree_shapes.specs.Nodes.{objects_of}
use Rattle.btree_shapes.specs.Met.{ReadsUpTo}
use Rattle.btree_removing.specs.Lasts.{last_below}
use Rattle.btree_removing.proofs.Lasting.{Gives, ReadSo, met_at}
use Rattle.btree_removing.proofs.last.follow_last.Given as goal

abbrev pub invariant-down : goal.invariant-down
invariant-down g l = record {
  gives : Gives l.fn.key (objects_of (g.S.Space.contents l.fn.space) l.fn.tree.root) l.above l.oid
      (last_below l.fn.key (objects_of (g.S.Space.contents l.fn.space) l.fn.tree.root) l.fn.start);
  log : g.S.Space.told → ReadSo (g.S.Space.log l.fn.space) (g.S.Space.log l.space) l.fn.start.above l.above;
  met : g.S.Space.told → ReadsUpTo (met_at (objects_of (g.S.Space.contents l.fn.space) l.fn.tree.root) l.fn.start.above l.fn.start.child)
      (met_at (objects_of (g.S.Space.contents l.fn.space) l.fn.tree.root) l.above l.oid) (g.S.Space.log l.fn.space) (g.S.Space.log l.space);
  contents : g.S.Space.contents l.space ≡ g.S.Space.contents l.fn.space;
  refusals : g.S.Space.told → g.S.Space.refusals l.space ≡ g.S.Space.refusals l.fn.space;
}

abbrev pub decreases-down : goal.decreases-down
decreases-down g l = 2 ^ 64 - length l.above
