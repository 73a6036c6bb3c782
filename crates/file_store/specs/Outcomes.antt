-- What is open, what an error of opening leaves, and when the clock is asked. Source: own.
use Rattle.std.specs.Prelude.{◌≡◌, ◌≢◌, ℕ, ◌≤◌, false, List, [], Option, None, Result, IfErr, IfOk, OnOk, option_map}
use Rattle.zb_volume.specs.declared.areas.Area.TheVariants.{Main, Side}
use Rattle.zb_volume.specs.Calls.{Event}
use Rattle.zb_volume.specs.Disk.{seen, IsSettled}
use Rattle.zb_volume.specs.Moments.{LeavesOnly, StaysAs}
use Rattle.zb_volume.specs.States.{VolumeState, FaultsStand}
use Rattle.zb_ids.specs.declared.stamp.Stamp.{Stamp}
use Rattle.zb_outside.specs.Stamps.{stamps_after}
use Rattle.zb_model.specs.declared.data.Transaction.{Transaction}
use Rattle.zb_model.specs.Stores.{StoreState}
use Rattle.fs_records.specs.File.{StandsFor}
use Rattle.fs_records.specs.Listed.{listed}
use Rattle.fs_recovery.specs.declared.errors.OpenError.{OpenError}
use Rattle.fs_recovery.specs.declared.errors.OpenError.TheVariants.{StoreFault}
use Rattle.fs_recovery.specs.Opens.{IsNoList}
use Rattle.file_store.specs.declared.ready.Ready.{Ready}
use Rattle.file_store.specs.Kept.{IsKept}
use Rattle.file_store.specs.Opening.{GaveAtMostOne, Harm, IsMade, IsNewFile, IsNoneOr, IsUnlessWritten, KeepsList, MakesFile, SomeRose, without_tail}

-- ---- what is open

-- Main had bytes: they stand for the list, with a tail that was cut off at this place or without one; they are left without it, and Side is as it was at every moment
pub record IsReopened (old new : List Event) (list : List Transaction) (cut : Option ℕ) : Type 0 where
  pub opened : StandsFor (seen old Main) list cut
  pub content : seen new Main ≡ without_tail (seen old Main) cut
  pub side : StaysAs Side old new

-- Main was empty: the list is that of a new database, and Main has its file; where nothing of Main was pending, all that a crash at any moment leaves of it stands for the empty list or
-- for that one
pub record IsNew (stamps : Option (List Stamp)) (old new : List Event) (list : List Transaction) (cut : Option ℕ) : Type 0 where
  pub made : IsMade stamps list cut
  pub new_file : IsNewFile stamps (seen new Main)
  pub moments : IsSettled old Main → LeavesOnly Main (IsNoneOr list) old new

-- one of the two, by what Main was
pub record IsOpenMain (stamps : Option (List Stamp)) (old new : List Event) (list : List Transaction) (cut : Option ℕ) : Type 0 where
  pub reopened : seen old Main ≢ [] → IsReopened old new list cut
  pub anew : seen old Main ≡ [] → IsNew stamps old new list cut

-- what a crash leaves of Main at every moment: what stands for its list, and, where it was empty, for the empty list or for that of a new database
pub record MomentsOfMain (stamps : Option (List Stamp)) (old new : List Event) : Type 0 where
  pub keeps : KeepsList old new
  pub makes : seen old Main ≡ [] → MakesFile stamps old new

-- A store was opened over a volume with these stamps of a clock, and a tail was cut off at this place or there was none: it is whole, nothing is voted and no pack is begun. No call of the
-- volume failed.
pub record IsOpenStore (told : Type 0) (stamps : Option (List Stamp)) (old : VolumeState) (store : StoreState) (cut : Option ℕ) : Type 0 where
  pub whole : store.broken ≡ false
  pub free : store.voted ≡ None
  pub begun : store.begun ≡ None
  pub main : told → IsOpenMain stamps old.log store.log store.list cut
  pub moments : told → MomentsOfMain stamps old.log store.log
  pub read_faults : store.read_faults ≡ old.read_faults
  pub faults : store.faults ≡ old.write_faults

-- ---- what an error leaves

-- neither count has fallen, a fault is answered only where one rose, and any other error only where neither moved
pub record HasOpenCause (old new : VolumeState) (e : OpenError) : Type 0 where
  pub reads_later : old.read_faults ≤ new.read_faults
  pub writes_later : old.write_faults ≤ new.write_faults
  pub fault : e ≡ StoreFault → SomeRose old.read_faults new.read_faults old.write_faults new.write_faults
  pub unfailed : ¬ (e ≡ StoreFault) → FaultsStand old new

-- No store was opened: the error says what Main is, which is untouched where it is no list. Nothing was changed unless a write failed, and nothing of Side where Main had bytes.
pub record IsRefusal (told : Type 0) (stamps : Option (List Stamp)) (old new : VolumeState) (e : OpenError) : Type 0 where
  pub harm : told → Harm (seen old.log Main) e
  pub untouched : told → IsNoList (seen old.log Main) → new.log ≡ old.log
  pub unharmed : told → IsUnlessWritten old.log new.log old.write_faults new.write_faults
  pub side : told → seen old.log Main ≢ [] → StaysAs Side old.log new.log
  pub moments : told → MomentsOfMain stamps old.log new.log
  pub cause : HasOpenCause old new e

-- ---- the clock

-- the clock gave one stamp, or none, as where Main had bytes; where a file was made it gave one
pub record AsksClock {T E : Type 0} (told : Type 0) (old : List Event) (stamps now : Option (List Stamp)) (result : Result T E) : Type 0 where
  pub kept : told → seen old Main ≢ [] → now ≡ stamps
  pub left : told → seen old Main ≡ [] → OnOk result (now ≡ option_map stamps_after stamps)
  pub given : GaveAtMostOne stamps now

-- ---- before it is a store

-- what is known of Main where it was opened
pub record IsReady (told : Type 0) (stamps : Option (List Stamp)) (old new : VolumeState) (r : Ready) : Type 0 where
  pub kept : told → IsKept (seen new.log Main) r.index r.numbers
  pub free : r.index.staged ≡ None
  pub settled : told → IsSettled new.log Main
  pub main : told → IsOpenMain stamps old.log new.log (listed (seen new.log Main)) r.cut
  pub moments : told → MomentsOfMain stamps old.log new.log
  pub faults : FaultsStand old new

-- Main was opened or made, or it wasn't
pub record IsOpening (told : Type 0) (stamps : Option (List Stamp)) (old new : VolumeState) (result : Result Ready OpenError) : Type 0 where
  pub ready : IfOk result (IsReady told stamps old new)
  pub refused : IfErr result (IsRefusal told stamps old new)
