-- What was found of an area, and the greatest and the least that a crash may leave of it.
use Rattle.std.specs.Prelude.{◌≡◌, Bool, if◌then◌else◌, ℕ, List, [], ◌∷◌, ◌++◌, length, take, drop}
use Rattle.std.specs.Global.{Vec}
use Rattle.zb_volume.specs.declared.areas.Area.{Area}
use Rattle.zb_volume.specs.declared.areas.Area.TheVariants.{Main, Side, Hint}
use Rattle.zb_volume.specs.declared.replay.Replay.{Replay}
use Rattle.zb_volume.specs.declared.replay.Areas.{Areas}
use Rattle.zb_volume.specs.Disk.{Disk, Pending}
use Rattle.zb_volume.specs.Images.{least_length}

-- with each content since the sync, and the greatest length
abbrev pub greatest : List ℕ → List (List ℕ) → List ℕ
greatest synced [] = synced
greatest synced (x ∷ since) = x ++ drop (length x) (greatest synced since)

-- with none of them, and the least length
abbrev pub least : List ℕ → List (List ℕ) → List ℕ
least synced since = take (least_length synced since) synced

abbrev pub greatest_pending : List Pending → List ℕ
greatest_pending [] = []
greatest_pending (p ∷ ps) = greatest p.synced p.since

abbrev pub least_of : List Pending → List ℕ
least_of [] = []
least_of (p ∷ ps) = least p.synced p.since

-- the greatest image, with each write since the last sync, or the least, with none
abbrev pub image_of : Bool → Disk → List ℕ
image_of all d = if all then greatest_pending d.pending else least_of d.pending

-- these contents, the oldest first, before others that are listed with the newest first
abbrev pub contents_from : List (List ℕ) → List (Vec ℕ) → List (List ℕ)
contents_from later [] = later
contents_from later (x ∷ xs) = contents_from (x.items ∷ later) xs

abbrev pub contents_of : List (Vec ℕ) → List (List ℕ)
contents_of contents = contents_from [] contents

-- what was found of an area
abbrev pub IsReplay : Replay → Disk → Type 0
IsReplay r d = d ≡ record { now = r.current.items; pending = record { synced = r.synced.items; since = contents_of r.since.items } ∷ [] }

-- what was found of each area
abbrev pub area_of : Areas → Area → Replay
area_of areas Main = areas.main
area_of areas Side = areas.side
area_of areas Hint = areas.hint

abbrev pub AreReplays : Areas → (Area → Disk) → Type 0
AreReplays areas d = (a : Area) → IsReplay (area_of areas a) (d a)
