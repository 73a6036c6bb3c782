use Rattle.std.proofs.Common.{◌≡◌}
use Rattle.zb_volume.specs.Kept.{log_of}
use Rattle.run_cases.proofs.memory.spend.Given as goal

-- the calls that changed the volume are those of before
abbrev pub invariant-calls : goal.invariant-calls
invariant-calls l = log_of l.volume.done ≡ log_of l.fn.volume.done
