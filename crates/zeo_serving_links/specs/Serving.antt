-- How the serving of links ends. Own.
use Rattle.std.specs.Prelude.{◌≡◌, ◌⊎◌, ℕ, ◌≤◌, Bool, List, Option, length}
use Rattle.std.specs.Option.{option_map}
use Rattle.hub_shared.specs.Calls.{history_limit}
use Rattle.hub_shared.specs.Seats.{HasLasted, machine_of}
use Rattle.zb_base.specs.Counts.{Rose}
use Rattle.zb_links.specs.Told.{Told, bound_with}
use Rattle.zb_model.specs.declared.data.Transaction.{Transaction}
use Rattle.zb_volume.specs.Calls.{Event}
use Rattle.zeo_serving_links.specs.declared.ending.Served.{Served}
use Rattle.zeo_serving_links.specs.declared.ending.ServingEnd.{ServingEnd}
use Rattle.zeo_serving_links.specs.declared.ending.ServingEnd.TheVariants.{All, NoLink, NoWorkers, StepsSpent, Memory}
use Rattle.zeo_serving_links.specs.Links.{AreOpened, AreServed, HasGiven, Opening, faulty_in}
use Rattle.zeo_session.specs.declared.ending.SessionEnd.{SessionEnd}
use Rattle.zodb_core.specs.History.{Entry, IsLegalOver, counts_after}
use Rattle.zodb_core.specs.HubState.{HubState, StandsForMachine, counts_of}
use Rattle.zodb_core.specs.Machine.{Rules}
use Rattle.zodb_core.specs.Outcomes.{FaultCounts}

-- what is seen of the doors and the spawner: what the doors tell, and how often each failed
pub record OutsideSeen : Type 0 where
  pub told : Option Told
  pub doors : ℕ
  pub spawner : ℕ

abbrev pub outside_seen : Option Told → ℕ → ℕ → OutsideSeen
outside_seen told doors spawner = record { told = told; doors = doors; spawner = spawner }

-- Why no further link was accepted: all were, and where the doors tell they gave just these; the doors failed, behind these links; a worker wasn't started; the
-- history is full; memory was wanting, which alone is free.
abbrev pub IsEndFor : ServingEnd → ℕ → List Entry → List Opening → OutsideSeen → OutsideSeen → Type 0
IsEndFor All count all opened before after = (length opened ≡ count) × HasGiven before.told after.told opened
IsEndFor NoLink count all opened before after = Rose before.doors after.doors × HasGiven before.told after.told opened
IsEndFor NoWorkers count all opened before after = Rose before.spawner after.spawner
IsEndFor StepsSpent count all opened before after = history_limit ≤ length all
IsEndFor Memory count all opened before after = Unit {0}

-- The links that were served: their sessions have the numbers from 0 on, each was served to its end within the history, and so many ended for a fault of their link
-- or for want of memory.
pub record HasServedLinks (told : Type 0) (rules : Rules) (list : List Transaction) (counts : FaultCounts) (count : ℕ) (all : List Entry) (served : Served) (before after : OutsideSeen) : Type 0 where
  pub opened : List Opening
  pub ends : List SessionEnd
  pub numbered : AreOpened 0 opened
  pub are : AreServed told rules list counts all opened ends
  pub faulty : served.faulty ≡ faulty_in ends
  pub cause : IsEndFor served.end count all opened before after

-- The history of all links: it is legal over the list, and the hub stands for the machine behind it; the store's counts are those that it tells, and what the store
-- did is of it.
pub record HasHistory {R F : Type 0} (lasts told : Type 0) (stands : List ℕ → List Transaction → Type 0) (rules : Rules) (old new : HubState R F) (all : List Entry) : Type 0 where
  pub legal : told → IsLegalOver rules old.store.list (counts_of old.store) all
  pub behind : told → StandsForMachine new (machine_of rules old.store.list all)
  pub counted : counts_after (counts_of old.store) all ≡ counts_of new.store
  pub lasted : HasLasted lasts told stands rules old.store.list (counts_of old.store) old.store.log old.store.broken all new

-- Links were served, in one history.
pub record ServesIn {R F : Type 0} (lasts told : Type 0) (stands : List ℕ → List Transaction → Type 0) (rules : Rules) (count : ℕ) (old new : HubState R F) (served : Served) (before after : OutsideSeen) : Type 0 where
  pub all : List Entry
  pub history : HasHistory lasts told stands rules old new all
  pub links : HasServedLinks told rules old.store.list (counts_of old.store) count all served before after

-- So much is known of the port: the doors were bound with it before they were to give a link, or else they failed and gave none.
abbrev pub IsBoundAs : ℕ → Option Told → Option Told → ServingEnd → Type 0
IsBoundAs port before bound end = (bound ≡ option_map (bound_with port) before) ⊎ ((bound ≡ before) × (end ≡ NoLink))

-- The doors were bound with a port, and links were served.
pub record ServesLinks {R F : Type 0} (lasts told : Type 0) (stands : List ℕ → List Transaction → Type 0) (rules : Rules) (port count : ℕ) (old new : HubState R F) (served : Served) (before after : OutsideSeen) : Type 0 where
  pub bound : Option Told
  pub port_is : IsBoundAs port before.told bound served.end
  pub serves : ServesIn lasts told stands rules count old new served (record before { told = bound }) after
