use Rattle.std.proofs.Common.{◌≡◌, ◌≤◌, [], length}
use Rattle.zb_script.specs.Lines.{pieces}
use Rattle.zb_script.specs.Limits.{names_of}
use Rattle.zb_script.proofs.limits.has_many_clients.Given as goal

abbrev pub invariant-loop-rest : goal.invariant-loop-rest
invariant-loop-rest l = record {
  so_far : names_of l.names (pieces l.rest) ≡ names_of [] (pieces l.bytes);
  few : length l.names ≤ 64;
}

abbrev pub decreases-loop-rest : goal.decreases-loop-rest
decreases-loop-rest l = length l.rest
