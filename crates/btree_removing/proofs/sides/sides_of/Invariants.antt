use Rattle.std.proofs.Common.{◌≤◌, ◌-◌, length}
use Rattle.btree_removing.proofs.Siding.{SidesSo}
use Rattle.btree_removing.proofs.sides.sides_of.Given as goal

abbrev pub invariant-down : goal.invariant-down
invariant-down l = record {
  within : l.place ≤ length l.rungs;
  so : SidesSo l.fn.key l.rungs l.down.above l.down.sides l.place;
}

abbrev pub decreases-down : goal.decreases-down
decreases-down l = length l.rungs - l.place
