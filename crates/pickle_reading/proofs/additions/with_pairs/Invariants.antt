use Rattle.std.proofs.Common.{◌≡◌, ◌++◌, drop}
use Rattle.pickle_reading.specs.Additions.{set_acts}
use Rattle.pickle_reading.proofs.additions.with_pairs.Given as goal

abbrev pub invariant-loop-pair : goal.invariant-loop-pair
invariant-loop-pair l = l.all.items ++ set_acts (drop l.pair-index l.pairs) ≡ l.fn.acts ++ set_acts l.fn.pairs
