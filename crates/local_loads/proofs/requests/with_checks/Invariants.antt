use Rattle.std.proofs.Common.{◌≡◌, take}
use Rattle.local_loads.proofs.requests.with_checks.Given as goal

abbrev pub invariant-loop-check : goal.invariant-loop-check
invariant-loop-check l = (l.pending.checks ≡ take l.check-index l.checks) × (l.pending.stores ≡ l.initial.pending.stores)
