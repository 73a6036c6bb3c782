-- What a call that reads Main leaves of a volume. Source: own.
use Rattle.std.specs.Prelude.{◌≡◌, ◌≤◌, Result, OnOk, IsErrOf}
use Rattle.zb_base.specs.Counts.{Rose}
use Rattle.zb_volume.specs.States.{VolumeState}
use Rattle.fs_reading.specs.declared.errors.ReadError.{ReadError}
use Rattle.fs_reading.specs.declared.errors.ReadError.TheVariants.{ReadFault, Memory}

-- A volume was only read: the calls that changed it and the count of their faults are as before, the count of failed reads has not fallen, a read fault is
-- answered only where it rose, want of memory only where it has not moved, and with an answer it has not moved.
pub record OnlyReadsMain {T : Type 0} (old new : VolumeState) (result : Result T ReadError) : Type 0 where
  pub same : new.log ≡ old.log
  pub later : old.read_faults ≤ new.read_faults
  pub fault : IsErrOf result ReadFault → Rose old.read_faults new.read_faults
  pub memory : IsErrOf result Memory → new.read_faults ≡ old.read_faults
  pub uncounted : OnOk result (new.read_faults ≡ old.read_faults)
  pub write_faults : new.write_faults ≡ old.write_faults
