-- What was read of a file, and what an index keeps of it. Source: own.
use Rattle.std.specs.Prelude.{◌≡◌, ℕ, Bool, ◌==◌, ◌&&◌, nat_lt, List, map, filter, Option, None, option_map}
use Rattle.std.specs.List.{last_or}
use Rattle.zb_model.specs.Database.{ObjectRevision}
use Rattle.fs_index.specs.declared.place.Place.{Place}
use Rattle.fs_index.specs.Places.{PlacesKept, Kept, places_in, knows}
use Rattle.fs_records.specs.Blocks.{Known, Reached, is_known}

-- ---- the records of an object

-- where a record that was read stands
abbrev pub place_of : Known → Place
place_of k = record { serial = k.tid; at = k.place }

-- whether a record is of this object
abbrev pub is_of : ℕ → Known → Bool
is_of oid k = oid == k.oid

-- the places of an object's records, replaced ones too, in order
abbrev pub places_of : ℕ → List Known → List Place
places_of oid known = map place_of (filter (is_of oid) known)

-- what is kept of each object are the places of its records
abbrev pub ArePlacesOf : List Known → List (ℕ × PlacesKept) → Type 0
ArePlacesOf known entries = (oid : ℕ) → places_in entries oid ≡ places_of oid known

-- an index of what was read: the places of each object's records, and of the transactions
pub record IsIndexOf (s : Reached) (kept : Kept) : Type 0 where
  pub records : ArePlacesOf s.known kept.entries
  pub transactions : kept.transactions ≡ s.starts

-- ---- the record below a front

-- whether a record is of this object, in a transaction below the front
abbrev pub is_of_below : ℕ → ℕ → Known → Bool
is_of_below oid front k = oid == k.oid && nat_lt k.tid front

-- the object's last record in a transaction below the front
abbrev pub record_below : ℕ → ℕ → List Known → Option Known
record_below oid front known = last_or None (filter (is_of_below oid front) known)

-- the revision that a record makes of its object
abbrev pub revision_of : Known → ObjectRevision
revision_of k = record { serial = k.tid; content = k.content }

-- ---- what an index gives of a file that was read

-- the object's last record
abbrev pub last_record : ℕ → List Known → Option Known
last_record oid known = last_or None (filter (is_of oid) known)

-- the last place that is kept is that of the object's last record
abbrev pub NewestIsTheLastRecord : Type 0
NewestIsTheLastRecord = (s : Reached) (kept : Kept) (oid : ℕ) → IsIndexOf s kept → last_or None (places_in kept.entries oid) ≡ option_map place_of (last_record oid s.known)

-- a record is kept at a place exactly where one was read
abbrev pub StandsWhereARecordWasRead : Type 0
StandsWhereARecordWasRead = (s : Reached) (kept : Kept) (oid at : ℕ) → IsIndexOf s kept → knows kept.entries oid at ≡ is_known s.known oid at
