use Rattle.std.proofs.Common.{◌≡◌, take}
use Rattle.zb_volume.specs.Images.{least_length}
use Rattle.zb_volume.specs.Replays.{contents_of}
use Rattle.zb_volume.proofs.images.shortest.Given as goal

abbrev pub invariant-loop-content : goal.invariant-loop-content
invariant-loop-content l = l.length ≡ least_length l.area.synced.items (contents_of (take l.content-index l.area.since.items))
