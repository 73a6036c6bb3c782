use Rattle.std.proofs.Common.{◌≡◌, ◌+◌, ◌≤◌, [], length}
use Rattle.zb_script.specs.Lines.{pieces}
use Rattle.zb_script.specs.Reading.{turns_at}
use Rattle.zb_script.specs.Shape.{opened_by}
use Rattle.zb_script.proofs.script.turns_of.Given as goal

abbrev pub invariant-loop-rest : goal.invariant-loop-rest
invariant-loop-rest l = record {
  so_far : turns_at l.turns (pieces l.rest) ≡ turns_at [] (pieces l.bytes);
  opened : l.opened ≡ opened_by l.turns;
  fewer : length l.turns + length l.rest ≤ length l.bytes;
}

abbrev pub decreases-loop-rest : goal.decreases-loop-rest
decreases-loop-rest l = length l.rest
