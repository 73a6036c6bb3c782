-- The places of a transaction that is voted, apart from the index of the list. Source: own.
use Rattle.std.specs.Prelude.{◌≡◌, ℕ, ◌-◌, ◌^◌, ◌<◌, [], ◌∷◌, ◌++◌, Option, nat_eq, All}
use Rattle.std.specs.List.{IsDistinct}
use Rattle.std.specs.Option.{ForSome}
use Rattle.fs_index.specs.Places.{Kept, places_in, placed_of, oids_placed, HasRoomFor, IsBefore, AreBefore}
use Rattle.fs_records.specs.PlacingLaws.{IsRecordOf}
use Rattle.file_store.specs.declared.staged.Staged.{Staged}

-- What contracts see of an index with a transaction that may be staged: the index, what is staged, and the tid and the end of the index.
pub record StagedKept : Type 0 where
  pub kept : Kept
  pub staged : Option Staged
  pub newest : ℕ
  pub end : ℕ

-- all that is kept stands before a place, and is of no later transaction
pub record IsAllBefore (kept : Kept) (tid at : ℕ) : Type 0 where
  pub records : AreBefore kept.entries tid at
  pub transactions : All (IsBefore tid at) kept.transactions

-- what is staged stands behind what is kept, with one record of each object, and there is room for it
pub record IsAhead (s : Staged) (kept : Kept) (newest end : ℕ) : Type 0 where
  pub above : newest < s.tid
  pub bound : s.tid < 2 ^ 64 - 1
  pub behind : end < s.end
  pub limit : s.end < 2 ^ 63
  pub distinct : IsDistinct nat_eq (oids_placed s.records)
  pub records : All (IsRecordOf s.tid end s.end) s.records
  pub room : HasRoomFor kept s.records

-- an index with a transaction that may be staged is sound
pub record IsStagedIndex (staged : Option Staged) (kept : Kept) (newest end : ℕ) : Type 0 where
  pub bound : newest < 2 ^ 64 - 1
  pub limit : end < 2 ^ 63
  pub up_to : IsAllBefore kept newest end
  pub ahead : ForSome staged (λ s. IsAhead s kept newest end)

-- an index with the places of a transaction that was staged there
pub record IsWith (s : Staged) (old new : StagedKept) : Type 0 where
  pub records : (oid : ℕ) → places_in new.kept.entries oid ≡ places_in old.kept.entries oid ++ placed_of oid s.records
  pub transactions : new.kept.transactions ≡ old.kept.transactions ++ record { serial = s.tid; at = old.end } ∷ []
  pub newest : new.newest ≡ s.tid
  pub end : new.end ≡ s.end
