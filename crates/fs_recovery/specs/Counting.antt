-- What is counted of the data records of a transaction, and of the transactions behind one another. Source: own.
use Rattle.std.specs.Prelude.{◌≡◌, ℕ, Bool, ◌==◌, false, List, [], None, length}
use Rattle.std.specs.List.{last_or, list_any}
use Rattle.std.specs.Map.{keys_of}
use Rattle.std.specs.Option.{option_map_or}
use Rattle.zb_model.specs.declared.data.Content.{Content}
use Rattle.zb_model.specs.Queries.{greatest_of}
use Rattle.fs_records.specs.Blocks.{Known, Written, changes_of, with_records}
use Rattle.fs_records.specs.Rules.{AreRecordsBetween}
use Rattle.fs_index.specs.Places.{PlacesKept, Kept, places_in}
use Rattle.fs_records.specs.Indexed.{ArePlacesOf}
use Rattle.fs_records.specs.Scan.{Indexed}
use Rattle.fs_recovery.specs.declared.counted.Counted.{Counted}
use Rattle.fs_recovery.specs.Numbers.{NumbersKept, AreNumbersOf}

-- whether the last place that is kept of an object is of this transaction
abbrev pub is_stored : List (ℕ × PlacesKept) → ℕ → ℕ → Bool
is_stored entries tid oid = option_map_or (λ p. p.serial == tid) (last_or None (places_in entries oid)) false

-- whether an object has an entry
abbrev pub has_entry : ℕ → List (ℕ × Content) → Bool
has_entry oid entries = list_any (λ e. oid == e.0) entries

-- Data records stand between two places, what is kept of each object is where its records stand, these ones too, and the objects of these records were counted.
pub record RecordsCounted (bytes : List ℕ) (known : List Known) (place tid from to : ℕ) (entries : List (ℕ × PlacesKept)) (counted : Counted) : Type 0 where
  pub records : List Written
  pub stand : AreRecordsBetween bytes known place tid from to records
  pub index : ArePlacesOf (with_records known place tid from records) entries
  pub changes : counted.changes ≡ length (changes_of [] known place tid from records)
  pub greatest : counted.greatest ≡ greatest_of (keys_of (changes_of [] known place tid from records))
  pub stored : (oid : ℕ) → is_stored entries tid oid ≡ has_entry oid (changes_of [] known place tid from records)

-- the bytes begin as a file with blocks up to p, the last of this tid, and this index and these numbers are kept of them
pub record Numbered (bytes : List ℕ) (p newest : ℕ) (kept : Kept) (numbers : NumbersKept) : Type 0 where
  pub indexed : Indexed bytes p newest kept
  pub counted : AreNumbersOf indexed.reached.list numbers
