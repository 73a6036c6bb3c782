-- What stands there makes steps that a machine may make. For the ghost members of the carrier.
use Rattle.std.specs.Prelude.{ℕ, List, Option}
use Rattle.zb_model.specs.declared.data.Transaction.{Transaction}
use Rattle.zb_model.specs.Rules.{MergeRules}
use Rattle.zodb_core.specs.declared.reply.Reply.{Reply}
use Rattle.zodb_core.specs.declared.request.Request.{Request}
use Rattle.zodb_core.specs.HubState.{HubState, StandsForMachine, counts_of, rules_of}
use Rattle.zodb_core.specs.Machine.{Machine}
use Rattle.remote_loads.specs.Carrying.{IsKnownAs, IsMachineStep}
use Rattle.hub_carrier.specs.Ends.{HubEnd, StepsThere, machine_at}
use Rattle.std.proofs.Common.{refl, sym, ◌∙◌}

module _ {R F : Type 0} where
  pub stands_at : (hub : HubState R F) → StandsForMachine hub (machine_at hub)
  stands_at hub = record { journal = refl; greatest = refl; sessions = refl; pack = refl; failed = refl; list = λ whole. refl; vote = λ whole. refl }

  pub known_at : (hub : HubState R F) (m : Machine) → StandsForMachine hub m → IsKnownAs m (machine_at hub)
  known_at hub m stands = record {
    journal = sym stands.journal;
    greatest = sym stands.greatest;
    sessions = sym stands.sessions;
    pack = sym stands.pack;
    failed = sym stands.failed;
    list = λ whole. sym (stands.list (sym stands.failed ∙ whole));
    vote = λ whole. sym (stands.vote (sym stands.failed ∙ whole));
  }

  module _ (told lasts : Type 0) (stands : List ℕ → List Transaction → Type 0) (rules : R → MergeRules) (named : F → List ℕ → Option (List ℕ)) where
    pub step_is_machines : (n : ℕ) (q : Request) (r : Reply) (before after : HubEnd R F) → told → StepsThere told lasts stands rules named n q r before after
        → IsMachineStep (machine_at before.hub) n q r (machine_at after.hub)
    step_is_machines n q r before after t there =
        let made = there.step.step t (machine_at before.hub) (stands_at before.hub) in
        record {
          rules = rules_of rules named before.hub;
          stamp = made.stamp;
          ticks = made.ticks;
          before = counts_of before.hub.store;
          after = counts_of after.hub.store;
          left = made.left;
          made = made.made;
          known = known_at after.hub made.left made.stands;
        }
