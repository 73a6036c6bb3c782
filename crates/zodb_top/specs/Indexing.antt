-- What the command `index` writes, and what it leaves. Own.
use Rattle.std.specs.Prelude.{◌≡◌, ◌⊎◌, ℕ, List, [], ◌∷◌, ◌++◌, Option}
use Rattle.std.specs.Io.KnownBytes.{Appends}
use Rattle.file_store.specs.Hinting.{IsHintedUpTo}
use Rattle.file_store.specs.Kept.{StandsForList}
use Rattle.zb_base.specs.Counts.{Rose}
use Rattle.zb_model.specs.declared.data.Transaction.{Transaction}
use Rattle.zb_model.specs.Stores.{StoreState}
use Rattle.zb_outside.specs.Written.{AppendsPrefix}
use Rattle.zb_volume.specs.Calls.{Event}
use Rattle.zodb_core.specs.HubState.{counts_of}
use Rattle.script_runs.specs.declared.status.Status.{Status}
use Rattle.script_runs.specs.declared.status.Status.TheVariants as status
use Rattle.zodb_top.specs.Opened.{FailedToOpen, IsLeft, IsRefused, IsUnfailed, OpensAs}
use Rattle.zodb_top.specs.Outside.{Outside, main_of}
use Rattle.script_runs.specs.Texts.{cut_lines, joined, store_fault_line}
use Rattle.zodb_top.specs.Texts.{indexed_line, refused_line}
use Rattle.script_runs.specs.Written.{IsWritten}

-- The lines are that of the tail that was cut off, if there was one, and that the index file is written; it may be believed, and goes up to this end, which is that
-- of Main. Or a read failed, where `unread` says that one did.
abbrev pub IsIndexSaid : Type 0 → Option ℕ → List Event → Type 0 → List (List ℕ) → Type 0
IsIndexSaid told cut log unread lines =
    ((end : ℕ) × (told → IsHintedUpTo log end) × (lines ≡ cut_lines cut ++ indexed_line end ∷ [])) ⊎ (unread × (lines ≡ cut_lines cut ++ refused_line ∷ []))

-- what each status says of a store whose index file is to be written
abbrev pub IndexesStore : Status → Type 0 → Option ℕ → Option (List ℕ) → Option (List ℕ) → ℕ → ℕ → StoreState → StoreState → Type 0
IndexesStore status.Done told cut taken taken' before now old new =
    (lines : List (List ℕ)) × IsIndexSaid told cut new.log (Rose old.read_faults new.read_faults) lines × Appends taken taken' (joined lines)
IndexesStore status.NoMemory told cut taken taken' before now old new = (taken' ≡ taken) × (counts_of new ≡ counts_of old)
IndexesStore status.SinkFault told cut taken taken' before now old new =
    Rose before now × ((lines : List (List ℕ)) × IsIndexSaid told cut new.log (Rose old.read_faults new.read_faults) lines × AppendsPrefix taken taken' (joined lines))
IndexesStore status.StoreFault told cut taken taken' before now old new = Rose old.faults new.faults × IsWritten taken taken' before now (joined (cut_lines cut) ++ store_fault_line)
IndexesStore _ told cut taken taken' before now old new = ⊥

-- The file was opened, and the lines are what is said of its index file; Main stands for its list, as it is and whatever a crash leaves.
pub record IsIndexed (before after : Outside) (lines : List (List ℕ)) : Type 0 where
  pub list : List Transaction
  pub cut : Option ℕ
  pub opens : OpensAs (main_of before) before.stamps after.stamps list cut
  pub says : IsIndexSaid (Unit {0}) cut after.log (Rose before.read_faults after.read_faults) lines
  pub main : StandsForList (main_of after) list

-- the file was opened, and a call failed that writes its index file
pub record FailedToIndex (told : Type 0) (before after : Outside) : Type 0 where
  pub cut : Option ℕ
  pub rose : Rose before.write_faults after.write_faults
  pub written : IsWritten before.taken after.taken before.sink_faults after.sink_faults (joined (cut_lines cut) ++ store_fault_line)
  pub opens : told → (list : List Transaction) × OpensAs (main_of before) before.stamps after.stamps list cut
  pub left : IsLeft told before after

-- What each status of `index` says: its cause, and what was written. `told` says that the volume tells.
abbrev pub IndexSays : Status → Type 0 → Outside → Outside → Type 0
IndexSays status.Done told before after = (lines : List (List ℕ)) × (told → IsIndexed before after lines) × Appends before.taken after.taken (joined lines)
IndexSays status.NoMemory told before after = (after.taken ≡ before.taken) × IsUnfailed before after
IndexSays status.SinkFault told before after =
    Rose before.sink_faults after.sink_faults × ((lines : List (List ℕ)) × (told → IsIndexed before after lines) × AppendsPrefix before.taken after.taken (joined lines))
IndexSays status.StoreFault told before after = FailedToOpen told before after ⊎ FailedToIndex told before after
IndexSays status.Damaged told before after = IsRefused told before after
IndexSays _ told before after = ⊥
