use Rattle.zb_volume.specs.Kept.{log_of}
use Rattle.conformance.specs.Starts.{MayStart}
use Rattle.conformance.proofs.running.run_all.Given as goal

-- the next run may start
abbrev pub invariant-runs : goal.invariant-runs
invariant-runs g l = MayStart (log_of l.volume.done)
