-- What steps of a hub keep of its clients and answer them, as laws.
use Rattle.std.specs.Prelude.{◌≡◌, ℕ, List, Option}
use Rattle.zb_ids.specs.declared.stamp.Stamp.{Stamp}
use Rattle.zb_model.specs.declared.data.Transaction.{Transaction}
use Rattle.zb_model.specs.declared.refusal.Refusal.{Refusal}
use Rattle.zb_model.specs.Rules.{MergeRules}
use Rattle.zodb_core.specs.declared.reply.Reply.{Reply}
use Rattle.zodb_core.specs.declared.reply.Reply.TheVariants as reply
use Rattle.zodb_core.specs.declared.request.Request.{Request}
use Rattle.zodb_core.specs.HubState.{HubState}
use Rattle.zodb_core.specs.Outcomes.{outcome_of}
use Rattle.connection_view.specs.Loading.{IsServerRefusal}
use Rattle.connection_view.specs.Views.{View}
use Rattle.local_loads.specs.declared.told.Told.{Told}
use Rattle.local_loads.specs.AnswerLaws.{outcome_of_answer}
use Rattle.local_loads.specs.Answers.{abort_answer, finish_answer, front_answer, load_answer, oid_answer, server_refusal, vote_answer}
use Rattle.local_loads.specs.Local.{MayBeTold}
use Rattle.local_loads.specs.Making.{IsHubStep}

-- a client that may be at a session before a step, of whichever session, may be there behind it
abbrev pub StepsKeepClients : {R F : Type 0} → Type 0 → Type 0 → (List ℕ → List Transaction → Type 0) → (R → MergeRules) → (F → List ℕ → Option (List ℕ)) → Type 0
StepsKeepClients {R} {F} told lasts stands rules named =
    (n : ℕ) (q : Request) (r : Reply) (old new : HubState R F) (before after : Option (List Stamp)) → told → IsHubStep told lasts stands rules named n q r old new before after
    → (last : Option Told) (v known : View) → MayBeTold last old v known → MayBeTold last new v known

-- what a hub refuses is none of what a connection refuses by itself, and so it is answered as it is
abbrev pub RefusalsAreTheHubs : {R F : Type 0} → Type 0 → Type 0 → (List ℕ → List Transaction → Type 0) → (R → MergeRules) → (F → List ℕ → Option (List ℕ)) → Type 0
RefusalsAreTheHubs {R} {F} told lasts stands rules named =
    (n : ℕ) (q : Request) (why : Refusal) (old new : HubState R F) (before after : Option (List Stamp)) → told → IsHubStep told lasts stands rules named n q (reply.Refused why) old new before after
    → IsServerRefusal why × (server_refusal why ≡ why)

-- a call ends as its step: answered, or for the same cause not
pub record AnswersEndAsSteps : Type 0 where
  pub front : (t : Option Told) (r : Reply) → outcome_of_answer (front_answer t r) ≡ outcome_of r
  pub load : (r : Reply) → outcome_of_answer (load_answer r) ≡ outcome_of r
  pub oid : (r : Reply) → outcome_of_answer (oid_answer r) ≡ outcome_of r
  pub vote : (r : Reply) → outcome_of_answer (vote_answer r) ≡ outcome_of r
  pub finish : (r : Reply) → outcome_of_answer (finish_answer r) ≡ outcome_of r
  pub abort : (r : Reply) → outcome_of_answer (abort_answer r) ≡ outcome_of r
