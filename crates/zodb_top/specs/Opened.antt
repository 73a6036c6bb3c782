-- What opening the file gives, and what is left where it isn't opened. Own.
use Rattle.std.specs.Prelude.{◌≡◌, ◌≢◌, ℕ, List, [], Option, Some, take}
use Rattle.std.specs.Option.{option_map}
use Rattle.file_store.specs.Opening.{GaveAtMostOne, IsMade, KeepsList, MakesFile, SomeRose}
use Rattle.fs_records.specs.File.{StandsFor}
use Rattle.zb_base.specs.Counts.{Rose}
use Rattle.zb_ids.specs.declared.stamp.Stamp.{Stamp}
use Rattle.zb_model.specs.declared.data.Transaction.{Transaction}
use Rattle.zb_outside.specs.Stamps.{stamps_after}
use Rattle.zb_volume.specs.declared.areas.Area.TheVariants.{Side}
use Rattle.zb_volume.specs.Moments.{StaysAs}
use Rattle.zodb_top.specs.Damage.{NamesDamage}
use Rattle.zodb_top.specs.Outside.{Outside, main_of}
use Rattle.script_runs.specs.Texts.{store_fault_line}
use Rattle.script_runs.specs.Written.{IsWritten}

-- What opening a file gives: the list that its bytes stand for, and where a tail was cut off; or, where there
-- are no bytes, the list of a new database, by the clock's first stamp. `stamps` are the clock's, and `stamps'` those
-- that it has still to give.
pub data OpensAs (bytes : List ℕ) (stamps stamps' : Option (List Stamp)) (list : List Transaction) (cut : Option ℕ) : Type 0 where
  there : bytes ≢ [] → StandsFor bytes list cut → stamps' ≡ stamps → OpensAs bytes stamps stamps' list cut
  made : bytes ≡ [] → IsMade stamps list cut → stamps' ≡ option_map stamps_after stamps → OpensAs bytes stamps stamps' list cut

-- the file wasn't opened: nothing was done to it, and the clock wasn't read
pub record IsUnopened (before after : Outside) : Type 0 where
  pub stamps : after.stamps ≡ before.stamps
  pub log : after.log ≡ before.log
  pub read_faults : after.read_faults ≡ before.read_faults
  pub write_faults : after.write_faults ≡ before.write_faults

-- no call of the volume has failed
pub record IsUnfailed (before after : Outside) : Type 0 where
  pub reads : after.read_faults ≡ before.read_faults
  pub writes : after.write_faults ≡ before.write_faults

-- Main's bytes are as they were, or without the tail that they had; or a call failed that would have changed the volume
pub data KeepsBytes (before after : Outside) : Type 0 where
  bytes_same : main_of after ≡ main_of before → KeepsBytes before after
  bytes_cut : (list : List Transaction) (at : ℕ) → StandsFor (main_of before) list (Some at) → main_of after ≡ take at (main_of before) → KeepsBytes before after
  bytes_failed : Rose before.write_faults after.write_faults → KeepsBytes before after

-- Main is as it was, but for a tail, or was made, in whole or in part. The clock was read at most once, and not where
-- Main had bytes; then its bytes are kept, and nothing was done to Side. Where nothing of Main was pending, all that a
-- crash at any moment leaves of it stands for the list that it stood for, or, where it was empty, for the empty list or
-- the first transaction alone.
pub record IsLeft (told : Type 0) (before after : Outside) : Type 0 where
  pub stamps : GaveAtMostOne before.stamps after.stamps
  pub kept : told → main_of before ≢ [] → after.stamps ≡ before.stamps
  pub bytes : told → main_of before ≢ [] → KeepsBytes before after
  pub side : told → main_of before ≢ [] → StaysAs Side before.log after.log
  pub keeps : told → KeepsList before.log after.log
  pub makes : told → main_of before ≡ [] → MakesFile before.stamps before.log after.log

-- it couldn't be opened, since a call of the volume failed
pub record FailedToOpen (told : Type 0) (before after : Outside) : Type 0 where
  pub rose : SomeRose before.read_faults after.read_faults before.write_faults after.write_faults
  pub written : IsWritten before.taken after.taken before.sink_faults after.sink_faults store_fault_line
  pub left : IsLeft told before after

-- it couldn't be opened, since it is damaged
pub record IsRefused (told : Type 0) (before after : Outside) : Type 0 where
  pub text : List ℕ
  pub names : NamesDamage told (main_of before) text
  pub written : IsWritten before.taken after.taken before.sink_faults after.sink_faults text
  pub stamps : told → after.stamps ≡ before.stamps
  pub log : told → after.log ≡ before.log
