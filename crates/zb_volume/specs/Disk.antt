-- What a read gives of an area after some calls, and what is pending there.
use Rattle.std.specs.Prelude.{Option, Some, None, ◌≡◌, ℕ, ◌+◌, if◌then◌else◌, List, [], ◌∷◌, ◌++◌, length, take, drop}
use Rattle.zb_volume.specs.declared.areas.Area.{Area}
use Rattle.zb_volume.specs.declared.areas.Area.TheVariants.{Main, Side, Hint}
use Rattle.zb_volume.specs.Calls.{Call, WriteAt, CutTo, SyncOf, Replace, Contents, area_content, touches, same_area, Event}

-- what no sync has made sure of: the bytes of the last sync, and each content since then, the newest first
pub record Pending : Type 0 where
  pub synced : List ℕ
  pub since : List (List ℕ)

-- An area: what a read gives, and what may be pending. After a call that failed there are several cases of the latter.
pub record Disk : Type 0 where
  pub now : List ℕ
  pub pending : List Pending

-- these bytes, and nothing pending
abbrev pub settled : List ℕ → Disk
settled bytes = record { now = bytes; pending = record { synced = bytes; since = [] } ∷ [] }

-- one content more
abbrev pub with_content : List ℕ → List Pending → List Pending
with_content bytes [] = []
with_content bytes (p ∷ ps) = record { synced = p.synced; since = bytes ∷ p.since } ∷ with_content bytes ps

abbrev pub changed_to : List ℕ → Disk → Disk
changed_to bytes d = record { now = bytes; pending = with_content bytes d.pending }

-- the old bytes with these in the place of those from here on, and past the end
abbrev pub written : List ℕ → ℕ → List ℕ → List ℕ
written old at bytes = take at old ++ bytes ++ drop (at + length bytes) old

-- Side stands in the place of Main, and Side is empty; the other areas stay
abbrev pub after_replace : (Area → Disk) → Area → Disk
after_replace d Main = d Side
after_replace d Side = settled []
after_replace d Hint = d Hint

-- each area after a call that was made
abbrev pub after_call : Call → (Area → Disk) → Area → Disk
after_call (WriteAt a at bytes) d b = if same_area a b then changed_to (written (d b).now at bytes) (d b) else d b
after_call (CutTo a n) d b = if same_area a b then changed_to (take n (d b).now) (d b) else d b
after_call (SyncOf a) d b = if same_area a b then settled (d b).now else d b
after_call Replace d b = after_replace d b

-- After a call that failed half way, what was pending before it may be pending, or what is pending after it.
abbrev pub after_event : Option Contents → Call → (Area → Disk) → Area → Disk
after_event None call d b = after_call call d b
after_event (Some now) call d b = if touches call b then record { now = area_content now b; pending = (d b).pending ++ (after_call call d b).pending } else d b

-- each area after these calls, the newest first, on a volume that was empty
abbrev pub disk : List Event → Area → Disk
disk [] = λ a. settled []
disk (e ∷ log) = after_event e.failed e.call (disk log)

-- what a read gives of an area
abbrev pub seen : List Event → Area → List ℕ
seen log a = (disk log a).now

-- what a read gives of Main
abbrev pub main_bytes : List Event → List ℕ
main_bytes log = seen log Main

abbrev pub area_length : List Event → Area → ℕ
area_length log a = length (seen log a)

-- nothing is pending
abbrev pub IsSettled : List Event → Area → Type 0
IsSettled log a = disk log a ≡ settled (seen log a)
