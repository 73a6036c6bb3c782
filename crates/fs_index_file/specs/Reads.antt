-- What reading an index file gives. Source: own.
use Rattle.std.specs.Prelude.{◌≡◌, ℕ, ◌&&◌, true, false, List, map, Option, Some, None, Result, Ok, Err}
use Rattle.fs_index.specs.Places.{places_in, placed_of}
use Rattle.fs_recovery.specs.declared.opening.Opened.{Opened}
use Rattle.fs_recovery.specs.declared.errors.OpenError.{OpenError}
use Rattle.fs_recovery.specs.declared.errors.OpenError.TheVariants.{StoreFault, BadRecord, NotFileStorage, Memory}
use Rattle.fs_index_file.specs.declared.entries.Head.{Head}
use Rattle.fs_index_file.specs.Counts.{AreCounted, counted_at}
use Rattle.fs_index_file.specs.Hints.{Entries, are_records, are_starts, entries_in, first_record, first_start, is_believed, newest_in}
use Rattle.fs_index_file.specs.Scans.{records_by, starts_by}
use Rattle.fs_index_file.specs.Honest.{is_packed}

-- What is known of Main by an index file are its entries: its end, where its transactions and its data records stand, and the numbers of transactions that were packed or not as it says, and change what its data records say.
pub record HasEntries (o : Opened) (e : Entries) : Type 0 where
  pub end_is : o.end ≡ e.end
  pub places : o.index.transactions ≡ map (λ s. s.place) e.starts
  pub records : (oid : ℕ) → places_in o.index.entries oid ≡ placed_of oid e.records
  pub numbers : AreCounted o.index.transactions (map is_packed e.starts) (map (counted_at e.records) o.index.transactions) o.numbers

-- what reading gives of these bytes, where Main has so many: their entries, where they may be believed
abbrev pub HintGives : ℕ → List ℕ → Option Opened → Type 0
HintGives long bytes None = is_believed long bytes ≡ false
HintGives long bytes (Some o) = (is_believed long bytes ≡ true) × HasEntries o (entries_in bytes)

-- what reading the entries of a file with this head gives: them, where they are in order
abbrev pub EntriesGive : List ℕ → Head → Option Opened → Type 0
EntriesGive bytes h None = (are_starts h.end first_start (starts_by bytes h) && are_records (newest_in (starts_by bytes h)) h.end first_record (records_by bytes h)) ≡ false
EntriesGive bytes h (Some x) =
    ((are_starts h.end first_start (starts_by bytes h) && are_records (newest_in (starts_by bytes h)) h.end first_record (records_by bytes h)) ≡ true)
    × HasEntries x (record { end = h.end; starts = starts_by bytes h; records = records_by bytes h })

-- nothing but a failed read and want of memory refuses it
abbrev pub IsReadRefusal : {T : Type 0} → Result T OpenError → Type 0
IsReadRefusal (Ok x) = Unit {0}
IsReadRefusal (Err StoreFault) = Unit {0}
IsReadRefusal (Err (BadRecord at field)) = ⊥
IsReadRefusal (Err NotFileStorage) = ⊥
IsReadRefusal (Err Memory) = Unit {0}
