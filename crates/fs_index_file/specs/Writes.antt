-- What a crash leaves of an index file while it is written or closed, and why a call is refused. Source: own.
use Rattle.std.specs.Prelude.{◌≡◌, ◌≢◌, ◌⊎◌, ℕ, ◌≤◌, List, Result, Ok, Err, slice_index}
use Rattle.zb_base.specs.Counts.{Rose}
use Rattle.zb_model.specs.declared.store_error.StoreError.{StoreError}
use Rattle.zb_model.specs.declared.store_error.StoreError.TheVariants.{StoreFault, ReadFault, Memory}
use Rattle.zb_volume.specs.States.{VolumeState, FaultsStand}
use Rattle.fs_index.specs.Places.{Kept}
use Rattle.fs_recovery.specs.declared.tally.Tally.{Tally}
use Rattle.fs_index_file.specs.Hints.{AreSmall, Entries, rest_text}
use Rattle.fs_index_file.specs.Honest.{AreEntriesOf, IsHintOf}

-- the gate isn't open, or there are no bytes
abbrev pub IsClosed : List ℕ → Type 0
IsClosed bytes = slice_index bytes 0 ≢ 1

-- what it was, or closed
abbrev pub IsOldOrClosed : List ℕ → List ℕ → Type 0
IsOldOrClosed old bytes = (bytes ≡ old) ⊎ IsClosed bytes

-- what it was, or closed, or the index file of these
abbrev pub IsOldOrHint : List ℕ → Kept → List Tally → ℕ → List ℕ → Type 0
IsOldOrHint old kept tallies end bytes = (bytes ≡ old) ⊎ (IsClosed bytes ⊎ IsHintOf kept tallies end bytes)

-- bytes are all but the gate of the index file of these
abbrev pub IsRestOf : Kept → List Tally → ℕ → List ℕ → Type 0
IsRestOf kept tallies end bytes = (e : Entries) × AreEntriesOf kept tallies end e × AreSmall e × (bytes ≡ rest_text e)

-- what it was, or closed, or these bytes
abbrev pub IsOldOr : List ℕ → List ℕ → List ℕ → Type 0
IsOldOr old new bytes = (bytes ≡ old) ⊎ (IsClosed bytes ⊎ (bytes ≡ new))

-- Closing reads how long the file is: where that fails nothing was changed; else only a write or a sync fails. It takes no memory.
abbrev pub ClosesFor : VolumeState → VolumeState → Result (Unit {0}) StoreError → Type 0
ClosesFor old new (Ok u) = FaultsStand old new
ClosesFor old new (Err StoreFault) = Rose old.write_faults new.write_faults × (old.write_faults ≤ new.write_faults) × (new.read_faults ≡ old.read_faults)
ClosesFor old new (Err ReadFault) = Rose old.read_faults new.read_faults × (old.read_faults ≤ new.read_faults) × (new.write_faults ≡ old.write_faults) × (new.log ≡ old.log)
ClosesFor old new (Err Memory) = ⊥

-- Writing reads nothing: a fault is answered only where a write, a cut or a sync failed, and for want of memory nothing was changed.
abbrev pub WritesFor : VolumeState → VolumeState → Result (Unit {0}) StoreError → Type 0
WritesFor old new (Ok u) = FaultsStand old new
WritesFor old new (Err StoreFault) = Rose old.write_faults new.write_faults × (old.write_faults ≤ new.write_faults) × (new.read_faults ≡ old.read_faults)
WritesFor old new (Err ReadFault) = ⊥
WritesFor old new (Err Memory) = FaultsStand old new × (new.log ≡ old.log)
