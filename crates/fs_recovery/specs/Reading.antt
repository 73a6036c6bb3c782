-- Reading Main, in pieces. Source: own.
use Rattle.std.specs.Prelude.{◌≡◌, ◌⊎◌, ℕ, ◌+◌, ◌≤◌, List, take, drop, Result, Ok, Err}
use Rattle.zb_volume.specs.States.{VolumeState, FaultsStand}
use Rattle.zb_base.specs.Counts.{Rose}
use Rattle.fs_recovery.specs.declared.errors.OpenError.{OpenError}
use Rattle.fs_recovery.specs.declared.errors.OpenError.TheVariants.{StoreFault, BadRecord, NotFileStorage, Memory}

-- the first `count` bytes that are held are those of the text from a place on
abbrev pub Holds : ℕ → ℕ → List ℕ → List ℕ → Type 0
Holds at count held text = take count held ≡ take count (drop at text)

-- the n bytes from a place on are among those that are held
pub record Covers (at count from n : ℕ) : Type 0 where
  pub no_earlier : at ≤ from
  pub no_later : from + n ≤ at + count

-- ---- counts

-- a failed read is answered exactly where the count of failed reads rose; else it stands still
abbrev pub CountsReads : {T : Type 0} → ℕ → ℕ → Result T OpenError → Type 0
CountsReads before now (Ok x) = now ≡ before
CountsReads before now (Err StoreFault) = (before ≤ now) × Rose before now
CountsReads before now (Err (BadRecord at field)) = now ≡ before
CountsReads before now (Err NotFileStorage) = now ≡ before
CountsReads before now (Err Memory) = now ≡ before

-- A volume was only read: the calls that changed it and the count of their faults are as before, and a fault is answered exactly where the count of failed
-- reads rose.
pub record OnlyReadsToOpen {T : Type 0} (old new : VolumeState) (result : Result T OpenError) : Type 0 where
  pub same : new.log ≡ old.log
  pub counts : CountsReads old.read_faults new.read_faults result
  pub write_faults : new.write_faults ≡ old.write_faults

-- a read failed, and nothing was changed
pub record ReadFailed (old new : VolumeState) : Type 0 where
  pub rose : Rose old.read_faults new.read_faults
  pub later : old.read_faults ≤ new.read_faults
  pub writes_same : new.write_faults ≡ old.write_faults
  pub untouched : new.log ≡ old.log

-- a cut or a sync failed, after every read was done
pub record WriteFailed (old new : VolumeState) : Type 0 where
  pub rose : Rose old.write_faults new.write_faults
  pub later : old.write_faults ≤ new.write_faults
  pub reads_same : new.read_faults ≡ old.read_faults

-- A fault is answered only where a read failed, with nothing changed, or where the cut or the sync failed. With any other answer both counts stand still.
abbrev pub CountsFault : {T : Type 0} → VolumeState → VolumeState → Result T OpenError → Type 0
CountsFault old new (Ok x) = FaultsStand old new
CountsFault old new (Err StoreFault) = ReadFailed old new ⊎ WriteFailed old new
CountsFault old new (Err (BadRecord at field)) = FaultsStand old new
CountsFault old new (Err NotFileStorage) = FaultsStand old new
CountsFault old new (Err Memory) = FaultsStand old new

-- it is refused for what Main is, or for want of memory
abbrev pub RefusesMain : {T : Type 0} → Result T OpenError → Type 0
RefusesMain (Ok x) = ⊥
RefusesMain (Err StoreFault) = ⊥
RefusesMain (Err (BadRecord at field)) = Unit {0}
RefusesMain (Err NotFileStorage) = Unit {0}
RefusesMain (Err Memory) = Unit {0}
