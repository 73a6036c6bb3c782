-- When a copy is refused. Source: own.
use Rattle.std.specs.Prelude.{◌≡◌, ◌≤◌, Result, Ok, Err}
use Rattle.zb_base.specs.Counts.{Rose}
use Rattle.zb_volume.specs.States.{VolumeState, FaultsStand}
use Rattle.zb_model.specs.declared.store_error.StoreError.{StoreError}
use Rattle.zb_model.specs.declared.store_error.StoreError.TheVariants.{StoreFault, ReadFault, Memory}

-- a store fault comes only where the count of the calls that change a volume rose, a read fault only where that of reading rose, and neither moves else
abbrev pub IsCopyCounted : {T : Type 0} → VolumeState → VolumeState → Result T StoreError → Type 0
IsCopyCounted old new (Ok x) = FaultsStand old new
IsCopyCounted old new (Err StoreFault) = (new.read_faults ≡ old.read_faults) × Rose old.write_faults new.write_faults × (old.write_faults ≤ new.write_faults)
IsCopyCounted old new (Err ReadFault) = Rose old.read_faults new.read_faults × (old.read_faults ≤ new.read_faults) × (new.write_faults ≡ old.write_faults)
IsCopyCounted old new (Err Memory) = FaultsStand old new
