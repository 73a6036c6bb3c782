use Rattle.std.proofs.Common.{take}
use Rattle.zb_volume.specs.Disk.{disk}
use Rattle.zb_volume.specs.Kept.{log_of, calls_of}
use Rattle.zb_volume.specs.Replays.{AreReplays}
use Rattle.zb_volume.proofs.replay.make_again.Given as goal

abbrev pub invariant-loop-call : goal.invariant-loop-call
invariant-loop-call l = AreReplays l.areas (disk (log_of (calls_of (take l.call-index l.calls))))
