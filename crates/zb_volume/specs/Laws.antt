-- What follows of images and moments, as the laws of this crate say it.
use Rattle.std.specs.Prelude.{◌≡◌, ◌⊎◌, ◌↔◌, ℕ, ◌<◌, ◌≤◌, Bool, false, IsTrue, List, [], ◌∷◌, length, slice_index}
use Rattle.zb_volume.specs.declared.areas.Area.{Area}
use Rattle.zb_volume.specs.declared.areas.Area.TheVariants.{Main, Side}
use Rattle.zb_volume.specs.Calls.{Event, Call, made, touches, Wrote, Cut, Synced, Replaced}
use Rattle.zb_volume.specs.Disk.{disk, settled, seen, IsSettled}
use Rattle.zb_volume.specs.Images.{IsImage, CrashLeaves}
use Rattle.zb_volume.specs.Faults.{Fails}
use Rattle.zb_volume.specs.Moments.{LeavesOnly, LeftSince, moment}

-- with nothing pending, the one image is what a read gives
abbrev pub SettledImage : Type 0
SettledImage = (log : List Event) (a : Area) (image : List ℕ) → IsSettled log a → CrashLeaves log a image ↔ (image ≡ seen log a)

-- a call, made or failed, changes nothing in an area that it isn't about: neither what a read gives nor any image
abbrev pub OtherAreaStays : Type 0
OtherAreaStays = (e : Event) (log : List Event) (a : Area) → touches e.call a ≡ false → disk (e ∷ log) a ≡ disk log a

-- a sync forgets everything before it: two runs that read alike are alike after it
abbrev pub SyncForgets : Type 0
SyncForgets = (log other : List Event) (a : Area) → seen log a ≡ seen other a → disk (Synced a ∷ log) a ≡ disk (Synced a ∷ other) a

-- after a sync a crash leaves what a read gave before it
abbrev pub SyncSettles : Type 0
SyncSettles = (log : List Event) (a : Area) → disk (Synced a ∷ log) a ≡ settled (seen log a)

-- a Side that was synced is kept as Main, and Side is empty
abbrev pub ReplaceKeeps : Type 0
ReplaceKeeps = (log : List Event) → IsSettled log Side → (disk (Replaced ∷ log) Main ≡ settled (seen log Side)) × (disk (Replaced ∷ log) Side ≡ settled [])

-- after a call that failed a crash leaves what it could leave before it or what it could leave once it was done
abbrev pub FaultLeavesEither : Type 0
FaultLeavesEither = (call : Call) (old new : List Event) (a : Area) (image : List ℕ) → Fails (made call) old new → CrashLeaves new a image
    → CrashLeaves old a image ⊎ CrashLeaves (made call ∷ old) a image

-- what may have been left since a moment may have been left since any earlier one
abbrev pub EarlierLeavesMore : Type 0
EarlierLeavesMore = (log : List Event) (earlier later : ℕ) (a : Area) (image : List ℕ) → earlier ≤ later → LeftSince log later a image → LeftSince log earlier a image

-- what a crash now may leave may have been left since now
abbrev pub NowCounts : Type 0
NowCounts = (log : List Event) (a : Area) (image : List ℕ) → CrashLeaves log a image ↔ LeftSince log (moment log) a image

-- what is said of every moment of a run is said of all that may have been left since its start
abbrev pub EveryMoment : Type 0
EveryMoment = (a : Area) (Q : List ℕ → Bool) (old new : List Event) → LeavesOnly a (λ image. IsTrue (Q image)) old new → (image : List ℕ) → LeftSince new (moment old) a image → IsTrue (Q image)

-- Bytes are mixed one by one: where one content of the same length as the synced bytes is pending, the images are all
-- bytes of that length each of which is the one or the other.
abbrev pub BytesMix : Type 0
BytesMix = (synced later image : List ℕ) → length synced ≡ length later
    → IsImage synced (later ∷ []) image
    ↔ ((length image ≡ length later) × ((k : ℕ) → k < length image → (slice_index image k ≡ slice_index synced k) ⊎ (slice_index image k ≡ slice_index later k)))

-- What a crash could leave before a write or a cut it can leave after it; so a crash in the midst of one leaves what one
-- after it could leave.
abbrev pub ChangeAddsImages : Type 0
ChangeAddsImages = (log : List Event) (changed a : Area) (at : ℕ) (bytes image : List ℕ) → CrashLeaves log a image
    → CrashLeaves (Wrote changed at bytes ∷ log) a image × CrashLeaves (Cut changed at ∷ log) a image

-- What a crash can leave after a sync it could leave before it; so a crash in the midst of one leaves what one before it
-- could leave.
abbrev pub SyncTakesImages : Type 0
SyncTakesImages = (log : List Event) (synced a : Area) (image : List ℕ) → CrashLeaves log a (seen log a) → CrashLeaves (Synced synced ∷ log) a image → CrashLeaves log a image
