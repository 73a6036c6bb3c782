-- What of an index file was read so far. Source: own.
use Rattle.std.specs.Prelude.{◌≡◌, ◌⊎◌, ℕ, ◌+◌, ◌-◌, ◌*◌, ◌<◌, ◌≤◌, ◌^◌, Bool, true, List, [], ◌++◌, All, map, drop}
use Rattle.std.specs.List.{last_or}
use Rattle.std.specs.Option.{option_map_or}
use Rattle.std.specs.Prelude.{None}
use Rattle.fs_index.specs.declared.place.Place.{Place}
use Rattle.fs_index.specs.declared.place.Placed.{Placed}
use Rattle.fs_index.specs.Places.{PlacesKept, IsBefore, AreBefore, places_in, placed_of}
use Rattle.fs_index_file.specs.declared.entries.Head.{Head}
use Rattle.fs_index_file.specs.declared.entries.Start.{Start}
use Rattle.fs_index_file.specs.Hints.{starts_in, records_in, are_starts, are_records, first_start, first_record}
use Rattle.fs_index_file.specs.Honest.{is_packed}

abbrev pub places_of_starts : List Start → List Place
places_of_starts starts = map (λ s. s.place) starts

abbrev pub packed_of_starts : List Start → List Bool
packed_of_starts starts = map is_packed starts

-- the number of the last of these, or 0
abbrev pub newest_of : List Place → ℕ
newest_of places = option_map_or (λ (p : Place). p.serial) (last_or None places) 0

-- ---- transactions

-- they stand before this end, each of a number up to the last one's, which isn't the greatest that there is
pub record AreBehind (end : ℕ) (places : List Place) : Type 0 where
  pub below : newest_of places < 2 ^ 64 - 1
  pub before : All (IsBefore (newest_of places) end) places

-- what holds of a transaction that may stand behind one
pub record StandsBehind (end : ℕ) (last : Place) (s : Start) : Type 0 where
  pub above : last.serial < s.place.serial
  pub below : s.place.serial < 2 ^ 64 - 1
  pub further : last.at ≤ s.place.at
  pub within : s.place.at < end

-- these stand before the next one
pub record StartsBefore (end : ℕ) (last : Place) (places : List Place) : Type 0 where
  pub newest : newest_of places ≡ last.serial
  pub below : last.serial < 2 ^ 64 - 1
  pub before : All (IsBefore last.serial last.at) places
  pub within : last.at ≤ end

-- the transactions that an index file with this head names
abbrev pub starts_by : List ℕ → Head → List Start
starts_by bytes h = starts_in h.starts (drop 25 bytes)

-- whether all of them may stand there; then these are their places and which of them a pack has gone over
pub record StartsGive (bytes : List ℕ) (h : Head) (places : List Place) (packed : List Bool) (all : Bool) : Type 0 where
  pub test : are_starts h.end first_start (starts_by bytes h) ≡ all
  pub places_are : all ≡ true → places ≡ places_of_starts (starts_by bytes h)
  pub packed_are : all ≡ true → packed ≡ packed_of_starts (starts_by bytes h)

-- k of them were read, up to q, the last before `last`: the rest tells whether all may stand there
pub record StartsSoFar (bytes : List ℕ) (h : Head) (k q : ℕ) (last : Place) (places : List Place) (packed : List Bool) : Type 0 where
  pub test : are_starts h.end first_start (starts_by bytes h) ≡ are_starts h.end last (starts_in (h.starts - k) (drop q bytes))
  pub places_are : places ++ places_of_starts (starts_in (h.starts - k) (drop q bytes)) ≡ places_of_starts (starts_by bytes h)
  pub packed_are : packed ++ packed_of_starts (starts_in (h.starts - k) (drop q bytes)) ≡ packed_of_starts (starts_by bytes h)

-- ---- data records

-- where the data records begin
abbrev pub records_place : Head → ℕ
records_place h = 25 + 17 * h.starts

abbrev pub records_by : List ℕ → Head → List Placed
records_by bytes h = records_in h.records (drop (records_place h) bytes)

-- whether all of them may stand there, in transactions up to this one; then these are their places
pub record RecordsGive (bytes : List ℕ) (h : Head) (newest : ℕ) (entries : List (ℕ × PlacesKept)) (all : Bool) : Type 0 where
  pub test : are_records newest h.end first_record (records_by bytes h) ≡ all
  pub places_are : all ≡ true → (oid : ℕ) → places_in entries oid ≡ placed_of oid (records_by bytes h)

pub record RecordsSoFar (bytes : List ℕ) (h : Head) (newest k q : ℕ) (last : Placed) (entries : List (ℕ × PlacesKept)) : Type 0 where
  pub test : are_records newest h.end first_record (records_by bytes h) ≡ are_records newest h.end last (records_in (h.records - k) (drop q bytes))
  pub places_are : (oid : ℕ) → places_in entries oid ++ placed_of oid (records_in (h.records - k) (drop q bytes)) ≡ placed_of oid (records_by bytes h)

-- what holds of a data record that may stand behind one
pub record StandsNext (newest end : ℕ) (last r : Placed) : Type 0 where
  pub order : (last.oid < r.oid) ⊎ ((last.oid ≡ r.oid) × (last.place.serial ≤ r.place.serial) × (last.place.at ≤ r.place.at))
  pub no_later : r.place.serial ≤ newest
  pub within : r.place.at < end

-- what is kept stands before the next data record: those of its object before its place, and none of a greater object; and all before the end
pub record RecordsBefore (newest end : ℕ) (last : Placed) (entries : List (ℕ × PlacesKept)) : Type 0 where
  pub bounds : AreBefore entries newest end
  pub own : All (IsBefore last.place.serial last.place.at) (places_in entries last.oid)
  pub none_behind : (oid : ℕ) → last.oid < oid → places_in entries oid ≡ []
