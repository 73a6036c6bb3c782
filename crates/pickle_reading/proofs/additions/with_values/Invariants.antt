use Rattle.std.proofs.Common.{◌≡◌, ◌++◌, drop}
use Rattle.pickle_reading.specs.Additions.{append_acts}
use Rattle.pickle_reading.proofs.additions.with_values.Given as goal

abbrev pub invariant-loop-value : goal.invariant-loop-value
invariant-loop-value l = l.all.items ++ append_acts (drop l.value-index l.values) ≡ l.fn.acts ++ append_acts l.fn.values
