-- What a reader of an open file relies on. Source: own.
use Rattle.std.specs.Prelude.{◌≡◌, ℕ, ◌<◌, ◌^◌, List, length, Some, slice_get}
use Rattle.fs_index.specs.declared.place.Place.{Place}
use Rattle.fs_records.specs.Blocks.{Reached, Begins}
use Rattle.fs_records.specs.Indexed.{places_of}

-- the bytes begin as a file, whatever stands behind what was reached of them, these are the places of the data records of an object in what was reached, and every place within the bytes is a number of 64 bits
pub record ArePlaces (bytes : List ℕ) (places : List Place) : Type 0 where
  pub reached : Reached
  pub oid : ℕ
  pub begins : Begins bytes reached
  pub are : places ≡ places_of oid reached.known
  pub short : length bytes < 2 ^ 64

-- the bytes begin as a file, whatever stands behind what was reached of them, these are the places of the transactions that were reached, and every place within the bytes is a number of 64 bits
pub record AreStarts (bytes : List ℕ) (places : List Place) : Type 0 where
  pub reached : Reached
  pub begins : Begins bytes reached
  pub are : places ≡ reached.starts
  pub short : length bytes < 2 ^ 64

-- this place is that of the transaction with this number in what was reached, counted from 0
abbrev pub IsStartOf : Reached → ℕ → Place → Type 0
IsStartOf reached number place = slice_get reached.starts number ≡ Some place

-- the bytes begin as a file, whatever stands behind what was reached of them, this is the place of a transaction that was reached, and every place within the bytes is a number of 64 bits
pub record IsStart (bytes : List ℕ) (place : Place) : Type 0 where
  pub reached : Reached
  pub number : ℕ
  pub begins : Begins bytes reached
  pub is : IsStartOf reached number place
  pub short : length bytes < 2 ^ 64
