use Rattle.std.proofs.Common.{◌≤◌, ◌-◌, length}
use Rattle.btree_setting.specs.Inserting.{place_in}
use Rattle.btree_setting.proofs.inserting.place_in.Given as goal

abbrev pub invariant-halves : goal.invariant-halves
invariant-halves l = record {
  low : l.low ≤ place_in l.items l.key;
  high : place_in l.items l.key ≤ l.high;
  within : l.high ≤ length l.items;
}

abbrev pub decreases-halves : goal.decreases-halves
decreases-halves l = l.high - l.low
