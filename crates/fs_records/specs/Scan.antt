-- What a scan has found so far, as a loop keeps it. Source: own.
use Rattle.std.specs.Prelude.{◌≡◌, ℕ, List}
use Rattle.fs_records.specs.Blocks.{Known, Written, with_records, Reached, Begins}
use Rattle.fs_records.specs.Rules.{AreRecordsBetween}
use Rattle.fs_index.specs.Places.{PlacesKept, Kept}
use Rattle.fs_records.specs.Indexed.{ArePlacesOf, IsIndexOf}

-- data records stand between two places, and what is kept of each object is where its records stand, these ones too
pub record RecordsIndexed (bytes : List ℕ) (known : List Known) (place tid from to : ℕ) (entries : List (ℕ × PlacesKept)) : Type 0 where
  pub records : List Written
  pub stand : AreRecordsBetween bytes known place tid from to records
  pub index : ArePlacesOf (with_records known place tid from records) entries

-- the bytes begin as a file with blocks up to p, the last of this tid, and this index is kept of them
pub record Indexed (bytes : List ℕ) (p newest : ℕ) (kept : Kept) : Type 0 where
  pub reached : Reached
  pub begins : Begins bytes reached
  pub end_is : reached.end ≡ p
  pub newest_is : reached.newest ≡ newest
  pub index : IsIndexOf reached kept
