-- What a store on a file keeps of the bytes of Main. Source: own.
use Rattle.std.specs.Prelude.{◌≡◌, ℕ, ◌+◌, ◌<◌, ◌≤◌, ◌^◌, false, List, [], ◌∷◌, ◌++◌, Option, Some, None, length, map, slice_index, slice_set, unwrap_or, option_map}
use Rattle.std.specs.List.{last_or}
use Rattle.zb_model.specs.declared.data.Transaction.{Transaction}
use Rattle.zb_base.specs.Bytes.{AreBytes}
use Rattle.fs_records.specs.Blocks.{file_start}
use Rattle.fs_records.specs.Listed.{listed, reached_in, reading_in}
use Rattle.fs_index.specs.Places.{places_in, placed_of, oids_placed}
use Rattle.fs_records.specs.Indexed.{places_of}
use Rattle.fs_records.specs.File.{StandsFor}
use Rattle.file_store.specs.declared.staged.Staged.{Staged}
use Rattle.fs_recovery.specs.Numbers.{NumbersKept, AreNumbersOf, total_of}
use Rattle.pack_copy.specs.Copying.{CopyKept}
use Rattle.pack_copy.specs.InFull.{after_full, full_file}
use Rattle.file_store.specs.Staging.{StagedKept}

-- the bytes of Main once what is voted at this end is finished
abbrev pub done : ℕ → List ℕ → List ℕ
done end bytes = slice_set bytes (end + 16) 32

abbrev pub nothing : Transaction
nothing = record { tid = 0; packed = false; user = []; description = []; extension = []; changes = [] }

-- the transaction that is voted at this end: the last one of the list once it is finished, where there is one, with this tid, which is its own where one was voted
abbrev pub voted_in : ℕ → ℕ → List ℕ → Transaction
voted_in tid end bytes = record (unwrap_or (last_or None (listed (done end bytes))) nothing) { tid = tid }

-- where a tail begins: at the end, where a transaction is voted there
abbrev pub cut_of : StagedKept → Option ℕ
cut_of index = option_map (λ s. index.end) index.staged

-- where the bytes end: at the end, or behind what is voted there
abbrev pub length_by : Option Staged → ℕ → ℕ
length_by None end = end
length_by (Some s) end = s.end

-- bytes stand for a list, with a tail or without
abbrev pub StandsForList : List ℕ → List Transaction → Type 0
StandsForList bytes list = (cut : Option ℕ) × StandsFor bytes list cut

-- the bytes are read as a file up to the end, whose records and transactions the index keeps, and whose list has these numbers
pub record IsKept (bytes : List ℕ) (index : StagedKept) (numbers : NumbersKept) : Type 0 where
  pub fits : AreBytes bytes
  pub short : length bytes < 2 ^ 63
  pub whole : length bytes ≡ length_by index.staged index.end
  pub reading : reading_in bytes ≡ Some (reached_in bytes, cut_of index)
  pub end_is : (reached_in bytes).end ≡ index.end
  pub newest_is : (reached_in bytes).newest ≡ index.newest
  pub records : (oid : ℕ) → places_in index.kept.entries oid ≡ places_of oid (reached_in bytes).known
  pub starts : index.kept.transactions ≡ (reached_in bytes).starts
  pub counted : AreNumbersOf (listed bytes) numbers

-- the bytes of Side are read as a file without a tail, in which each content stands in full, whose records and transactions a copy keeps, and whose list has the copy's numbers
pub record IsCopyKept (bytes : List ℕ) (c : CopyKept) : Type 0 where
  pub fits : AreBytes bytes
  pub short : length bytes < 2 ^ 63
  pub long : length bytes ≡ c.end
  pub reading : reading_in bytes ≡ Some (reached_in bytes, None)
  pub end_is : (reached_in bytes).end ≡ c.end
  pub records : (oid : ℕ) → places_in c.index.entries oid ≡ places_of oid (reached_in bytes).known
  pub starts : c.index.transactions ≡ (reached_in bytes).starts
  pub counted : AreNumbersOf (listed bytes) c.numbers
  pub in_full : bytes ≡ full_file (listed bytes)
  pub reached_full : reached_in bytes ≡ after_full file_start (listed bytes)

-- what is staged stands at the end with the status of a vote; once it is finished the bytes are read as a file with it, whose records and transactions are those of the index and of what is staged
pub record IsVotedIn (bytes : List ℕ) (s : Staged) (index : StagedKept) : Type 0 where
  pub long : index.end + 17 ≤ length bytes
  pub status : slice_index bytes (index.end + 16) ≡ 99
  pub reading : reading_in (done index.end bytes) ≡ Some (reached_in (done index.end bytes), None)
  pub end_is : (reached_in (done index.end bytes)).end ≡ s.end
  pub newest_is : (reached_in (done index.end bytes)).newest ≡ s.tid
  pub records : (oid : ℕ) → places_in index.kept.entries oid ++ placed_of oid s.records ≡ places_of oid (reached_in (done index.end bytes)).known
  pub starts : index.kept.transactions ++ record { serial = s.tid; at = index.end } ∷ [] ≡ (reached_in (done index.end bytes)).starts
  pub list : listed (done index.end bytes) ≡ listed bytes ++ voted_in s.tid index.end bytes ∷ []
  pub oids : map (λ c. c.oid) (voted_in s.tid index.end bytes).changes ≡ oids_placed s.records
  pub unpacked : (voted_in s.tid index.end bytes).packed ≡ false

-- there is room for one more transaction with so many changes
pub record HasRoomForTally (numbers : NumbersKept) (count : ℕ) : Type 0 where
  pub room : 0 < numbers.room
  pub total : total_of numbers.tallies + count < 2 ^ 63
