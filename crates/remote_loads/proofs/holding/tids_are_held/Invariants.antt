use Rattle.std.proofs.Common.{take}
use Rattle.zeo_values.specs.Values.{AreIds}
use Rattle.remote_loads.proofs.holding.tids_are_held.Given as goal

abbrev pub invariant-loop-tid : goal.invariant-loop-tid
invariant-loop-tid l = AreIds (take l.tid-index l.tids)
