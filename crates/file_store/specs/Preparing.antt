-- What a vote makes ready before it writes. Source: own.
use Rattle.std.specs.Prelude.{◌≡◌, ℕ, ◌+◌, ◌<◌, ◌^◌, List, Some, length}
use Rattle.zb_model.specs.declared.new_transaction.NewTransaction.{NewTransaction}
use Rattle.fs_records.specs.Blocks.{block_text, records_from}
use Rattle.fs_records.specs.Placing.{placed_from}
use Rattle.fs_records.specs.Writing.{block_of}
use Rattle.fs_recovery.specs.Numbers.{NumbersKept}
use Rattle.file_store.specs.Kept.{HasRoomForTally}
use Rattle.file_store.specs.Staging.{StagedKept}

-- where the data records of a new transaction begin that is written at the end
abbrev pub begin_of : StagedKept → NewTransaction → ℕ
begin_of index new = records_from index.end (block_of 99 index.kept.entries new)

-- the text of a new transaction, voted and not finished, is made, it is staged with the places of its records, and there is room for its numbers
pub record IsPrepared (old now : StagedKept) (numbers : NumbersKept) (new : NewTransaction) (text : List ℕ) : Type 0 where
  pub text_is : text ≡ block_text old.end (block_of 99 old.kept.entries new)
  pub limit : old.end + length text < 2 ^ 63
  pub staged_is : now.staged ≡ Some (record { tid = new.tid; end = old.end + length text; records = placed_from new.tid (begin_of old new) new.changes })
  pub room : HasRoomForTally numbers (length new.changes)
