use Rattle.std.proofs.Common.{◌≡◌, take}
use Rattle.zb_volume.specs.Replays.{contents_of, greatest}
use Rattle.zb_volume.proofs.images.greatest_image.Given as goal

abbrev pub invariant-loop-content : goal.invariant-loop-content
invariant-loop-content l = l.image.items ≡ greatest l.area.synced.items (contents_of (take l.content-index l.area.since.items))
