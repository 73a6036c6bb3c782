-- What a pack of the file leaves. Source: own.
use Rattle.std.specs.Prelude.{◌≡◌, ◌≤◌, List, Result, OnErr, OnOk, length}
use Rattle.zb_volume.specs.declared.areas.Area.TheVariants.{Hint, Main}
use Rattle.zb_volume.specs.Calls.{Event}
use Rattle.zb_volume.specs.Disk.{seen, IsSettled}
use Rattle.zb_volume.specs.Moments.{Along, StaysAs}
use Rattle.zb_base.specs.Bytes.{AreBytes}
use Rattle.zb_model.specs.declared.data.Transaction.{Transaction}
use Rattle.zb_model.specs.Stores.{SideIsEmpty, UnlessFault}
use Rattle.zb_model.specs.declared.store_error.StoreError.{StoreError}
use Rattle.fs_records.specs.Listed.{listed}
use Rattle.fs_index_file.specs.Writes.{IsClosed}
use Rattle.file_store.specs.Hinting.{LeavesOfFront}
use Rattle.file_store.specs.Written.{IsInFull}
use Rattle.fs_recovery.specs.declared.opening.Opened.{Opened}
use Rattle.fs_recovery.specs.Opens.{IsWhole}

-- Main stands for this list, with each content in full, this is what opening it would give, and Side is empty; of neither anything is pending
pub record IsPackedMain (log : List Event) (o : Opened) (list : List Transaction) : Type 0 where
  pub settled : IsSettled log Main
  pub fits : AreBytes (seen log Main)
  pub whole : IsWhole (seen log Main) o
  pub long : length (seen log Main) ≤ o.end
  pub list_is : listed (seen log Main) ≡ list
  pub side : SideIsEmpty log
  pub full : IsInFull log Main

-- What a pack leaves of Main and of the index file: a refusal leaves both as they were, unless a call of the volume failed; an answer leaves the index file closed;
-- and what a crash at any moment leaves of it says what Main has.
pub record PackWrites {T : Type 0} (old new : List Event) (result : Result T StoreError) : Type 0 where
  pub main : OnErr result (UnlessFault result (StaysAs Main old new))
  pub hint : IsSettled old Hint → LeavesOfFront old → Along LeavesOfFront old new
  pub closed : IsSettled old Hint → OnOk result (IsClosed (seen new Hint) × IsSettled new Hint)
  pub unclosed : OnErr result (UnlessFault result (StaysAs Hint old new))
