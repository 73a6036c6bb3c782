use Rattle.std.proofs.Common.{◌↔◌, ◌≤◌, ◌<◌, ℕ, length, IsTrue, get_or}
use Rattle.zb_volume.specs.Images.{MayRead, least_length, greatest_length}
use Rattle.zb_volume.specs.Replays.{contents_of}
use Rattle.zb_volume.proofs.images.is_image.Given as goal

abbrev pub invariant-loop-at : goal.invariant-loop-at
invariant-loop-at l =
    let synced = l.area.synced.items in
    let since = contents_of l.area.since.items in
    IsTrue l.possible ↔ ((least_length synced since ≤ length l.image) × (length l.image ≤ greatest_length synced since) × ((k : ℕ) → k < l.at → MayRead synced since k (get_or l.image k 0)))
