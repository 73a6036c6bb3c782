use Rattle.std.proofs.Common.{List, take, sym, subst, arith}
use Rattle.zb_volume.specs.Calls.{Call}
use Rattle.zb_volume.specs.Disk.{disk}
use Rattle.zb_volume.specs.Kept.{log_of, calls_of}
use Rattle.zb_volume.specs.Replays.{AreReplays}
use Rattle.zb_volume.proofs.Log.{calls_of-more}
use Rattle.zb_volume.proofs.replay.make_again.Goals as goal

pub loop-call-preserved : goal.loop-call-preserved
loop-call-preserved c =
    let i = c.loop-call.invariant in
    let more = calls_of-more c.args.calls.now c.loop-call.call-index c.call-item.result (omega arith) c.call-item.is in
    let so_far = disk (log_of (calls_of (take c.loop-call.call-index c.args.calls.now))) in
    subst (λ (l : List Call). AreReplays c.step.new.areas (disk (log_of l))) (sym more) (c.in_ok-step.ensures so_far i)
