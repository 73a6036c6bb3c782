use Rattle.std.proofs.Common.{◌≤◌, drop}
use Rattle.std.specs.List.{concat}
use Rattle.zb_outside.specs.Written.{AppendsBefore}
use Rattle.zeo_server.proofs.sending.send_frames.Given as goal

abbrev pub invariant-loop-frame : goal.invariant-loop-frame
invariant-loop-frame g l =
    let O = g.O.Sink in
    record {
      sent : AppendsBefore (O.taken l.fn.link_out) (O.taken l.link_out) (concat l.frames) (concat (drop l.frame-index l.frames));
      counted : O.faults l.fn.link_out ≤ O.faults l.link_out;
    }
