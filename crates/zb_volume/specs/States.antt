-- What contracts see of a volume, and what they say of the calls of one. Own.
use Rattle.std.specs.Prelude.{◌≡◌, ℕ, false, List, Result, OnOk}
use Rattle.zb_base.specs.Counts.{HasCause}
use Rattle.zb_volume.specs.declared.areas.Area.{Area}
use Rattle.zb_volume.specs.Calls.{Event, same_area}
use Rattle.zb_volume.specs.Moments.{StaysAs}

-- What contracts see of a volume.
pub record VolumeState : Type 0 where
  -- the calls that changed it, the newest first
  pub log : List Event
  -- how often `len` or `read` has failed
  pub read_faults : ℕ
  -- how often another call has failed
  pub write_faults : ℕ

-- neither count of faults has moved
pub record FaultsStand (old new : VolumeState) : Type 0 where
  pub reads : new.read_faults ≡ old.read_faults
  pub writes : new.write_faults ≡ old.write_faults

-- A volume was only read: the calls that changed it and the other count are as before, the count of failed reads has not fallen, a fault is answered only
-- where it rose, and with an answer it has not moved.
pub record OnlyReads {T E : Type 0} (old new : VolumeState) (result : Result T E) : Type 0 where
  pub same : new.log ≡ old.log
  pub cause : HasCause old.read_faults new.read_faults result
  pub uncounted : OnOk result (new.read_faults ≡ old.read_faults)
  pub write_faults : new.write_faults ≡ old.write_faults

-- A volume was changed and not read: the count of failed reads is as before, the other has not fallen, a fault is answered only where it rose, and with
-- an answer it has not moved.
pub record OnlyWrites {T E : Type 0} (old new : VolumeState) (result : Result T E) : Type 0 where
  pub cause : HasCause old.write_faults new.write_faults result
  pub uncounted : OnOk result (new.write_faults ≡ old.write_faults)
  pub read_faults : new.read_faults ≡ old.read_faults

-- every area but this one stays as it was, at every moment from the old log to the new one
abbrev pub OthersStay : Area → List Event → List Event → Type 0
OthersStay area old new = (other : Area) → same_area area other ≡ false → StaysAs other old new
