-- What stands at the other end of a carrier to a hub in the same program. Own.
use Rattle.std.specs.Prelude.{◌≡◌, ℕ, List, Option, Bool, false, length}
use Rattle.std.specs.Option.{option_map}
use Rattle.zb_ids.specs.declared.stamp.Stamp.{Stamp}
use Rattle.zb_model.specs.declared.data.Transaction.{Transaction}
use Rattle.zb_model.specs.Rules.{MergeRules}
use Rattle.zodb_core.specs.declared.reply.Reply.{Reply}
use Rattle.zodb_core.specs.declared.request.Request.{Request}
use Rattle.zodb_core.specs.HubState.{HubState, pack_with, sessions_with, vote_of_hub}
use Rattle.zodb_core.specs.Machine.{Machine}
use Rattle.zodb_core.specs.Outcomes.{ReadingFailed, StepOutcome, StoreFailed, is_pack, outcome_of}
use Rattle.local_loads.specs.Making.{IsHubStep}
use Rattle.hub_carrier.specs.declared.trouble.Trouble.{Trouble}
use Rattle.hub_carrier.specs.declared.trouble.Trouble.TheVariants.{NoFault, ReadFault, StoreFault}

-- what went wrong in steps: a store's fault outlives that of a read
abbrev pub worse : Trouble → StepOutcome → Trouble
worse StoreFault _ = StoreFault
worse _ StoreFailed = StoreFault
worse ReadFault _ = ReadFault
worse NoFault ReadingFailed = ReadFault
worse NoFault _ = NoFault

-- the hub, the stamps that its clock has left, whether steps of a pack may be made in this turn, and what went wrong in its steps
pub record HubEnd (R F : Type 0) : Type 0 where
  pub hub : HubState R F
  pub stamps : Option (List Stamp)
  pub packs : Bool
  pub trouble : Trouble

abbrev pub end_at : {R F : Type 0} → HubState R F → Option (List Stamp) → Bool → Trouble → HubEnd R F
end_at hub stamps packs trouble = record { hub = hub; stamps = stamps; packs = packs; trouble = trouble }

-- A machine that a hub stands for. Of a store that failed its list says nothing.
abbrev pub machine_at : {R F : Type 0} → HubState R F → Machine
machine_at hub = record {
  list = hub.store.list;
  journal = hub.journal;
  greatest = hub.greatest;
  sessions = sessions_with hub.store.broken hub.sessions;
  vote = option_map (vote_of_hub hub.store.voted) hub.vote;
  pack = pack_with hub.store (length hub.journal) hub.pack;
  failed = hub.store.broken;
}

-- A step of a session there that may be made, with all that the hub promises of it, and with what it adds to what went wrong.
pub record StepsThere {R F : Type 0} (told lasts : Type 0) (stands : List ℕ → List Transaction → Type 0) (rules : R → MergeRules) (named : F → List ℕ → Option (List ℕ)) (n : ℕ) (q : Request) (r : Reply) (before after : HubEnd R F) : Type 0 where
  pub step : IsHubStep told lasts stands rules named n q r before.hub after.hub before.stamps after.stamps
  pub allowed : before.packs ≡ false → is_pack q ≡ false
  pub packs : after.packs ≡ before.packs
  pub trouble : after.trouble ≡ worse before.trouble (outcome_of r)
