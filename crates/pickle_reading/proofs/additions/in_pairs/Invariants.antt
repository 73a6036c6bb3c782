use Rattle.std.proofs.Common.{◌≡◌, ◌≤◌, ◌-◌, drop, length}
use Rattle.pickle_reading.specs.Additions.{pairs_of}
use Rattle.pickle_reading.proofs.Pairs.{behind_pairs}
use Rattle.pickle_reading.proofs.additions.in_pairs.Given as goal

abbrev pub invariant-loop-index : goal.invariant-loop-index
invariant-loop-index l = record {
  inside : l.index ≤ length l.values;
  same : behind_pairs l.pairs.items (pairs_of (drop l.index l.values)) ≡ pairs_of l.fn.values;
}

abbrev pub decreases-loop-index : goal.decreases-loop-index
decreases-loop-index l = length l.values - l.index
