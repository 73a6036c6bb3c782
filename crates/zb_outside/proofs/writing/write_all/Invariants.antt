use Rattle.std.proofs.Common.{length, ◌-◌, ◌≤◌, take}
use Rattle.std.specs.Io.KnownBytes.{Appends}
use Rattle.zb_outside.proofs.writing.write_all.Given as goal

abbrev pub invariant-writing : goal.invariant-writing
invariant-writing g l =
    let K = g.K.Sink in
    record {
      within : l.at ≤ length l.bytes;
      taken : Appends (K.taken l.fn.sink) (K.taken l.sink) (take l.at l.bytes);
      counted : K.faults l.fn.sink ≤ K.faults l.sink;
    }

abbrev pub decreases-writing : goal.decreases-writing
decreases-writing g l = length l.bytes - l.at
