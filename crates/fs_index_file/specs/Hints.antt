-- What the bytes of an index file say. Source: own.
use Rattle.std.specs.Prelude.{ℕ, ◌+◌, ◌*◌, ◌-◌, ◌^◌, ◌<◌, Bool, true, ◌&&◌, ◌||◌, ◌==◌, nat_lt, nat_le, List, [], ◌∷◌, ◌++◌, length, drop, zero, suc, slice_index}
use Rattle.std.specs.List.{AllByRecursion, flat_map, last_or}
use Rattle.std.specs.Option.{option_map_or}
use Rattle.std.specs.Prelude.{None}
use Rattle.fs_index.specs.declared.place.Place.{Place}
use Rattle.fs_index.specs.declared.place.Placed.{Placed}
use Rattle.fs_records.specs.Numbers.{number, number_in}
use Rattle.fs_index_file.specs.declared.entries.Head.{Head}
use Rattle.fs_index_file.specs.declared.entries.Start.{Start}

-- ---- as it is read

-- the head that the first 25 bytes are
unfoldable pub head_of : List ℕ → Head
head_of bytes = record { gate = slice_index bytes 0; end = number_in 8 (drop 1 bytes); starts = number_in 8 (drop 9 bytes); records = number_in 8 (drop 17 bytes) }

-- the entry of a transaction that the first 17 bytes are
unfoldable pub start_of : List ℕ → Start
start_of bytes = record { place = record { serial = number_in 8 (drop 0 bytes); at = number_in 8 (drop 8 bytes) }; status = slice_index bytes 16 }

-- the entry of a data record that the first 24 bytes are
unfoldable pub record_of : List ℕ → Placed
record_of bytes = record { oid = number_in 8 (drop 0 bytes); place = record { serial = number_in 8 (drop 8 bytes); at = number_in 8 (drop 16 bytes) } }

-- the first n of each, one behind another
abbrev pub starts_in : ℕ → List ℕ → List Start
starts_in zero bytes = []
starts_in (suc n) bytes = start_of bytes ∷ starts_in n (drop 17 bytes)

abbrev pub records_in : ℕ → List ℕ → List Placed
records_in zero bytes = []
records_in (suc n) bytes = record_of bytes ∷ records_in n (drop 24 bytes)

-- how many bytes a file with this head has
abbrev pub size_by : Head → ℕ
size_by h = 25 + 17 * h.starts + 24 * h.records

-- what an index file says: up to which end of Main, where its transactions stand and their statuses, and where its data records stand
pub record Entries : Type 0 where
  pub end : ℕ
  pub starts : List Start
  pub records : List Placed

-- what these bytes say
unfoldable pub entries_in : List ℕ → Entries
entries_in bytes = record { end = (head_of bytes).end; starts = starts_in (head_of bytes).starts (drop 25 bytes); records = records_in (head_of bytes).records (drop (25 + 17 * (head_of bytes).starts) bytes) }

-- ---- whether that may be so

-- the status of a transaction that is committed, or that a pack has gone over
abbrev pub is_status : ℕ → Bool
is_status status = status == 32 || status == 112

-- the next place behind one, of no earlier transaction
abbrev pub behind : Place → Place
behind p = record { serial = p.serial; at = p.at + 1 }

-- a transaction may stand there: its tid is above the one before and below 2^64-1, its place is from this one on and before the end, and its status is one of the two
abbrev pub is_start : ℕ → Place → Start → Bool
is_start end p s = nat_lt p.serial s.place.serial && (nat_lt s.place.serial (2 ^ 64 - 1) && (nat_le p.at s.place.at && (nat_lt s.place.at end && is_status s.status)))

-- transactions whose tids and places rise, behind one
abbrev pub are_starts : ℕ → Place → List Start → Bool
are_starts end p [] = true
are_starts end p (s ∷ ss) = is_start end p s && are_starts end (behind s.place) ss

-- the number of the last of them, or 0
abbrev pub newest_in : List Start → ℕ
newest_in starts = option_map_or (λ (s : Start). s.place.serial) (last_or None starts) 0

-- a data record stands behind another in order: its object is greater, or the same, and then it is of no earlier transaction and from this place on
abbrev pub is_next : Placed → Placed → Bool
is_next p r = nat_lt p.oid r.oid || (p.oid == r.oid && (nat_le p.place.serial r.place.serial && nat_le p.place.at r.place.at))

-- and it may stand there: it is of no later transaction than the last, and before the end
abbrev pub is_record : ℕ → ℕ → Placed → Placed → Bool
is_record newest end p r = is_next p r && (nat_le r.place.serial newest && nat_lt r.place.at end)

-- what stands behind a data record
abbrev pub after : Placed → Placed
after r = record { oid = r.oid; place = behind r.place }

-- data records in rising order of object and place, behind one
abbrev pub are_records : ℕ → ℕ → Placed → List Placed → Bool
are_records newest end p [] = true
are_records newest end p (r ∷ rs) = is_record newest end p r && are_records newest end (after r) rs

-- before any transaction, and before any data record
abbrev pub first_start : Place
first_start = record { serial = 0; at = 4 }

abbrev pub first_record : Placed
first_record = record { oid = 0; place = record { serial = 0; at = 0 } }

-- such entries may stand in an index file
abbrev pub are_entries : Entries → Bool
are_entries e = nat_le 4 e.end && (are_starts e.end first_start e.starts && are_records (newest_in e.starts) e.end first_record e.records)

-- bytes are an index file: its gate is open, its length is the one that its counts give, and its entries are in order
abbrev pub is_hint : List ℕ → Bool
is_hint bytes = (head_of bytes).gate == 1 && (length bytes == size_by (head_of bytes) && are_entries (entries_in bytes))

-- and its end isn't past the end of Main, which has so many bytes
abbrev pub is_believed : ℕ → List ℕ → Bool
is_believed long bytes = is_hint bytes && nat_le (head_of bytes).end long

-- ---- as it is written

unfoldable pub start_text : Start → List ℕ
start_text s = number 8 s.place.serial ++ (number 8 s.place.at ++ s.status ∷ [])

unfoldable pub record_text : Placed → List ℕ
record_text r = number 8 r.oid ++ (number 8 r.place.serial ++ number 8 r.place.at)

-- all but the gate: the end, the two counts, the transactions, and the data records
unfoldable pub rest_text : Entries → List ℕ
rest_text e = number 8 e.end ++ (number 8 (length e.starts) ++ (number 8 (length e.records) ++ (flat_map start_text e.starts ++ flat_map record_text e.records)))

-- an index file with these entries
abbrev pub hint_text : Entries → List ℕ
hint_text e = 1 ∷ rest_text e

-- ---- numbers that have room in their fields

abbrev pub IsSmallStart : Start → Type 0
IsSmallStart s = (s.place.serial < 2 ^ 64) × (s.place.at < 2 ^ 64)

abbrev pub IsSmallRecord : Placed → Type 0
IsSmallRecord r = (r.oid < 2 ^ 64) × (r.place.serial < 2 ^ 64) × (r.place.at < 2 ^ 64)

-- the numbers of these entries have room in their fields
pub record AreSmall (e : Entries) : Type 0 where
  pub end : e.end < 2 ^ 64
  pub count_starts : length e.starts < 2 ^ 64
  pub count_records : length e.records < 2 ^ 64
  pub starts : AllByRecursion IsSmallStart e.starts
  pub records : AllByRecursion IsSmallRecord e.records
