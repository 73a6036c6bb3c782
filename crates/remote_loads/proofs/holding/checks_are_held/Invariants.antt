use Rattle.std.proofs.Common.{map, take}
use Rattle.zeo_client.specs.Asking.{check_call}
use Rattle.remote_loads.specs.Making.{AreHeld}
use Rattle.remote_loads.proofs.holding.checks_are_held.Given as goal

abbrev pub invariant-loop-check : goal.invariant-loop-check
invariant-loop-check l = AreHeld (map check_call (take l.check-index l.checks))
