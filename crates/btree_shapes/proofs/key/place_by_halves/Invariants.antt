use Rattle.std.proofs.Common.{◌≤◌, ◌-◌, length}
use Rattle.btree_shapes.specs.Nodes.{place_for}
use Rattle.btree_shapes.proofs.key.place_by_halves.Given as goal

abbrev pub invariant-halves : goal.invariant-halves
invariant-halves l = record {
  low : l.low ≤ place_for l.branches l.key;
  high : place_for l.branches l.key ≤ l.high;
  within : l.high ≤ length l.branches;
}

abbrev pub decreases-halves : goal.decreases-halves
decreases-halves l = l.high - l.low
