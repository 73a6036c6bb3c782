use Rattle.std.proofs.Common.{rules}
use Rattle.zeo_server.proofs.Frames.{front_sent}
use Rattle.zeo_server.proofs.sending.send_frames.Goals as goal

pub returns-in_err-send_frame-clause-err : goal.returns-in_err-send_frame-clause-err
returns-in_err-send_frame-clause-err g c =
    let sent = front_sent _ _ _ _ c.args.frames.now c.loop-frame.frame-index c.frame-item.result c.as_slice.result.now c.loop-frame-test.true c.frame-item.is c.as_slice.ensures.value c.loop-frame.invariant.sent c.in_err-send_frame.ensures.err in
    search (rules, sent)
