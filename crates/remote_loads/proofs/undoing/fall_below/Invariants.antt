use Rattle.std.proofs.Common.{◌≡◌, drop}
use Rattle.zeo_messages.specs.Calls.{falls_below}
use Rattle.remote_loads.proofs.undoing.fall_below.Given as goal

abbrev pub invariant-loop-tid : goal.invariant-loop-tid
invariant-loop-tid l = falls_below l.bound (drop l.tid-index l.tids) ≡ falls_below l.fn.first l.tids
