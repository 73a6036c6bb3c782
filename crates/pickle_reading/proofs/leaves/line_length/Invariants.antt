use Rattle.std.proofs.Common.{◌≤◌, ◌-◌, length}
use Rattle.pickle_reading.proofs.Lines.{NoneBefore}
use Rattle.pickle_reading.proofs.leaves.line_length.Given as goal

abbrev pub invariant-loop-end : goal.invariant-loop-end
invariant-loop-end l = record {
  inside : l.end ≤ length l.bytes;
  none : NoneBefore l.bytes l.end;
}

abbrev pub decreases-loop-end : goal.decreases-loop-end
decreases-loop-end l = length l.bytes - l.end
