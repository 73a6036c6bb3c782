use Rattle.std.proofs.Common.{length, ◌-◌, ◌≤◌, take}
use Rattle.std.specs.Io.KnownBytes.{Appends}
use Rattle.zeo_server.proofs.sending.send_frame.Given as goal

abbrev pub invariant-sending : goal.invariant-sending
invariant-sending g l =
    let O = g.O.Sink in
    record {
      within : l.at ≤ length l.bytes;
      taken : Appends (O.taken l.fn.link_out) (O.taken l.link_out) (take l.at l.bytes);
      counted : O.faults l.fn.link_out ≤ O.faults l.link_out;
    }

abbrev pub decreases-sending : goal.decreases-sending
decreases-sending g l = length l.bytes - l.at
