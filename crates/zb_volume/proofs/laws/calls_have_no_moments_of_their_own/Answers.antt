use Rattle.std.proofs.Common.{Bool, true, false, if◌then◌else◌, List, ℕ, take}
use Rattle.zb_volume.specs.Calls.{same_area}
use Rattle.zb_volume.specs.Disk.{Disk, disk, seen, settled, changed_to, written}
use Rattle.zb_volume.specs.Images.{MayLeave}
use Rattle.zb_volume.specs.Lasting.{more_left, settled_only}
use Rattle.zb_volume.proofs.laws.calls_have_no_moments_of_their_own.Goals as goal

adds : (about : Bool) (d : Disk) (w image : List ℕ) → MayLeave d.pending image → MayLeave (if about then changed_to w d else d).pending image
adds true d w image left = more_left d.pending w image left
adds false d w image left = left

takes : (about : Bool) (d : Disk) (image : List ℕ) → MayLeave d.pending d.now → MayLeave (if about then settled d.now else d).pending image → MayLeave d.pending image
takes true d image now left = settled_only d.now (MayLeave d.pending) now image left
takes false d image now left = left

pub returns-clause-changes : goal.returns-clause-changes
returns-clause-changes c log changed a at bytes image left =
    (adds (same_area changed a) (disk log a) (written (seen log a) at bytes) image left, adds (same_area changed a) (disk log a) (take at (seen log a)) image left)

pub returns-clause-syncs : goal.returns-clause-syncs
returns-clause-syncs c log synced a image now left = takes (same_area synced a) (disk log a) image now left
