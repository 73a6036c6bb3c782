use Rattle.std.proofs.Common.{◌↔◌, IsTrue, take}
use Rattle.zb_volume.specs.Images.{MayRead}
use Rattle.zb_volume.specs.Replays.{contents_of}
use Rattle.zb_volume.proofs.images.may_read.Given as goal

abbrev pub invariant-loop-content : goal.invariant-loop-content
invariant-loop-content l = IsTrue l.possible ↔ MayRead l.area.synced.items (contents_of (take l.content-index l.area.since.items)) l.at l.byte
