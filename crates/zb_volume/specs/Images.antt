-- What a crash may leave of an area.
use Rattle.std.specs.Prelude.{◌≡◌, ◌⊎◌, ℕ, ◌<◌, ◌≤◌, min, max, List, [], ◌∷◌, length, slice_index}
use Rattle.zb_volume.specs.declared.areas.Area.{Area}
use Rattle.zb_volume.specs.Calls.{Event}
use Rattle.zb_volume.specs.Disk.{Pending, disk, with_content}

-- the least length since the last sync
abbrev pub least_length : List ℕ → List (List ℕ) → ℕ
least_length synced [] = length synced
least_length synced (x ∷ xs) = min (length x) (least_length synced xs)

-- the greatest length since the last sync
abbrev pub greatest_length : List ℕ → List (List ℕ) → ℕ
greatest_length synced [] = length synced
greatest_length synced (x ∷ xs) = max (length x) (greatest_length synced xs)

-- one of the contents since the last sync has this byte at this place
abbrev pub HadByte : List (List ℕ) → ℕ → ℕ → Type 0
HadByte [] k v = ⊥
HadByte (x ∷ xs) k v = ((k < length x) × (v ≡ slice_index x k)) ⊎ HadByte xs k v

-- A byte reads as at the last sync, or as some call since then left it. Past the end of the last sync it may read 0,
-- which is what `slice_index` gives there.
abbrev pub MayRead : List ℕ → List (List ℕ) → ℕ → ℕ → Type 0
MayRead synced since k v = (v ≡ slice_index synced k) ⊎ HadByte since k v

-- A crash may leave these bytes: each by itself is one that may be read, and the length is any between the least and
-- the greatest since the last sync.
pub record IsImage (synced : List ℕ) (since : List (List ℕ)) (image : List ℕ) : Type 0 where
  pub no_shorter : least_length synced since ≤ length image
  pub no_longer : length image ≤ greatest_length synced since
  pub bytes : (k : ℕ) → k < length image → MayRead synced since k (slice_index image k)

-- in one of the cases of what may be pending
abbrev pub MayLeave : List Pending → List ℕ → Type 0
MayLeave [] image = ⊥
MayLeave (p ∷ ps) image = IsImage p.synced p.since image ⊎ MayLeave ps image

-- a crash after these calls may leave this of an area
abbrev pub CrashLeaves : List Event → Area → List ℕ → Type 0
CrashLeaves log a image = MayLeave (disk log a).pending image

-- a crash after these calls may leave this of an area, once these bytes too have stood there
abbrev pub CrashLeavesWith : List Event → Area → List ℕ → List ℕ → Type 0
CrashLeavesWith log a bytes image = MayLeave (with_content bytes (disk log a).pending) image
