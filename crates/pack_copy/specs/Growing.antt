-- The file on Side grows by one transaction. Source: own.
use Rattle.std.specs.Prelude.{◌≡◌, ℕ, ◌+◌, ◌<◌, ◌^◌, ◌++◌, ◌∷◌, [], Bool, List, All, length, map, nat_eq}
use Rattle.std.specs.List.{IsDistinct}
use Rattle.zb_model.specs.declared.data.Transaction.{Transaction}
use Rattle.fs_index.specs.Places.{HasRoomFor, oids_placed, placed_of, places_in}
use Rattle.fs_records.specs.PlacingLaws.{IsRecordOf}
use Rattle.fs_recovery.specs.Numbers.{AreNumbersOf, total_of}
use Rattle.pack_copy.specs.declared.ready.Ready.{Ready}
use Rattle.pack_copy.specs.Copying.{CopyKept}

-- there is room for its places and its numbers
pub record HasRoomToKeep (c : CopyKept) (ready : Ready) : Type 0 where
  pub places : HasRoomFor c.index ready.records
  pub tally : 0 < c.numbers.room
  pub total : total_of c.numbers.tallies + length ready.records < 2 ^ 63

-- all but the room is the same
pub record IsSame (old new : CopyKept) : Type 0 where
  pub tid : new.tid ≡ old.tid
  pub end : new.end ≡ old.end
  pub places : (oid : ℕ) → places_in new.index.entries oid ≡ places_in old.index.entries oid
  pub starts : new.index.transactions ≡ old.index.transactions
  pub tallies : new.numbers.tallies ≡ old.numbers.tallies
  pub greatest : new.numbers.greatest ≡ old.numbers.greatest
  pub pack_point : new.numbers.pack_point ≡ old.numbers.pack_point

-- its data records stand between the end of the file on Side and its own, one of each object
pub record StandsNext (c : CopyKept) (tid : ℕ) (ready : Ready) : Type 0 where
  pub some : c.end < ready.end
  pub limit : ready.end < 2 ^ 63
  pub distinct : IsDistinct nat_eq (oids_placed ready.records)
  pub records : All (IsRecordOf tid c.end ready.end) ready.records

-- what is known of Side with it
pub record IsWith (old new : CopyKept) (tid : ℕ) (packed : Bool) (ready : Ready) : Type 0 where
  pub same : new.tid ≡ old.tid
  pub end : new.end ≡ ready.end
  pub places : (oid : ℕ) → places_in new.index.entries oid ≡ places_in old.index.entries oid ++ placed_of oid ready.records
  pub starts : new.index.transactions ≡ old.index.transactions ++ record { serial = tid; at = old.end } ∷ []
  pub counted : (list : List Transaction) (t : Transaction) → t.tid ≡ tid → t.packed ≡ packed → map (λ c. c.oid) t.changes ≡ oids_placed ready.records
      → AreNumbersOf list old.numbers → AreNumbersOf (list ++ t ∷ []) new.numbers
