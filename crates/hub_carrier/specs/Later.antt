-- What holds of a carrier to a hub in the same program whatever it carried, and whatever the store tells. Own.
use Rattle.std.specs.Prelude.{◌≡◌, Bool, true, false, length}
use Rattle.zb_base.specs.Counts.{Rose}
use Rattle.zb_volume.specs.declared.areas.Area.TheVariants.{Side}
use Rattle.zb_volume.specs.Moments.{StaysAs}
use Rattle.zodb_core.specs.HubState.{counts_of}
use Rattle.zodb_core.specs.Outcomes.{AreLaterCounts, FaultCounts}
use Rattle.hub_carrier.specs.declared.trouble.Trouble.{Trouble}
use Rattle.hub_carrier.specs.declared.trouble.Trouble.TheVariants.{NoFault, ReadFault, StoreFault}
use Rattle.hub_carrier.specs.Ends.{HubEnd}

-- the counts of faults moved as it says what went wrong since
abbrev pub IsMovedBy : FaultCounts → FaultCounts → Trouble → Type 0
IsMovedBy start now NoFault = now ≡ start
IsMovedBy start now ReadFault = Rose start.reads now.reads × (now.others ≡ start.others)
IsMovedBy start now StoreFault = Rose start.others now.others

-- the store failed
abbrev pub is_store_fault : Trouble → Bool
is_store_fault StoreFault = true
is_store_fault _ = false

-- Steps were made, or none. What the counts and the store say of what went wrong since some moment before they say behind them too.
pub record IsLaterEnd {R F : Type 0} (lasts : Type 0) (old new : HubEnd R F) : Type 0 where
  pub packs : new.packs ≡ old.packs
  pub resolver : new.hub.resolver ≡ old.hub.resolver
  pub refs : new.hub.refs ≡ old.hub.refs
  pub sessions : length new.hub.sessions ≡ length old.hub.sessions
  pub later : AreLaterCounts (counts_of old.hub.store) (counts_of new.hub.store)
  pub counts : (start : FaultCounts) → IsMovedBy start (counts_of old.hub.store) old.trouble → IsMovedBy start (counts_of new.hub.store) new.trouble
  pub broken : old.hub.store.broken ≡ is_store_fault old.trouble → new.hub.store.broken ≡ is_store_fault new.trouble
  pub side : lasts → old.packs ≡ false → StaysAs Side old.hub.store.log new.hub.store.log
