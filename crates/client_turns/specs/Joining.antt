-- How a client's end of a link is registered over the hub of the same program. Own.
use Rattle.std.specs.Prelude.{◌≡◌, ℕ, List, [], ◌∷◌, ◌++◌, Option, Result, Ok, Err, false}
use Rattle.zb_answers.specs.declared.answer.Answer.{Answer}
use Rattle.zb_answers.specs.declared.answer.Answer.TheVariants as answer
use Rattle.client_turns.specs.declared.linked.LinkedClient.{LinkedClient}
use Rattle.client_turns.specs.declared.member.Member.{Member}
use Rattle.client_turns.specs.Members.{far}
use Rattle.client_turns.specs.Standing.{ClientsState}
use Rattle.zb_ids.specs.declared.stamp.Stamp.{Stamp}
use Rattle.zb_model.specs.declared.data.Transaction.{Transaction}
use Rattle.zb_model.specs.declared.refusal.Refusal.{Refusal}
use Rattle.zb_model.specs.declared.refusal.Refusal.TheVariants as refusal
use Rattle.zb_model.specs.Rules.{MergeRules}
use Rattle.zodb_core.specs.declared.errors.SessionRefusal.{SessionRefusal}
use Rattle.zodb_core.specs.declared.errors.SessionRefusal.TheVariants as session_refusal
use Rattle.zodb_core.specs.HubState.{HubState}
use Rattle.hub_carrier.specs.declared.trouble.Trouble.{Trouble}
use Rattle.hub_carrier.specs.declared.trouble.Trouble.TheVariants as trouble
use Rattle.hub_carrier.specs.Ends.{StepsThere, end_at, machine_at}
use Rattle.hub_carrier.specs.Later.{IsLaterEnd}
use Rattle.remote_loads.specs.Registering.{IsNewcomer, RegisterLeaves}
use Rattle.zeo_client.specs.Taking.{ClientState}
use Rattle.zeo_desk.specs.Desks.{DeskState}

-- what went wrong in the steps of a registering, or whether it was answered
abbrev pub joined_as : Result ℕ Refusal → Trouble → Result (Unit {0}) Refusal
joined_as (Ok front) trouble.NoFault = Ok tt
joined_as (Err r) trouble.NoFault = Err refusal.Memory
joined_as raw trouble.ReadFault = Err refusal.ReadFault
joined_as raw trouble.StoreFault = Err refusal.StoreFault

-- A registering over a hub, whatever its store tells, and what it leaves where that tells.
pub record IsJoined {R F : Type 0} (told lasts : Type 0) (stands : List ℕ → List Transaction → Type 0) (rules : R → MergeRules) (named : F → List ℕ → Option (List ℕ)) (n : ℕ) (old new : HubState R F) (before after : Option (List Stamp)) (desk : DeskState) (client : ClientState) (left : DeskState) (now : ClientState) (result : Result (Unit {0}) Refusal) : Type 0 where
  pub raw : Result ℕ Refusal
  pub wrong : Trouble
  pub later : IsLaterEnd lasts (end_at old before false trouble.NoFault) (end_at new after false wrong)
  pub answer : result ≡ joined_as raw wrong
  pub exact : told → IsNewcomer (machine_at old) n desk client
      → RegisterLeaves (λ q r s t. StepsThere told lasts stands rules named n q r s t) (λ e. machine_at e.hub) n (end_at old before false trouble.NoFault) raw now (end_at new after false wrong) left

-- what a client is answered for whom no session was opened
abbrev pub unopened : SessionRefusal → Answer
unopened (session_refusal.TooManySessions count) = answer.Refused (refusal.TooManySessions count)
unopened session_refusal.StepsSpent = answer.Refused refusal.Memory
unopened session_refusal.Memory = answer.Refused refusal.Memory

-- what a client is answered that joins, and who is there behind it
abbrev pub joining_answer : ℕ → Result (Unit {0}) Refusal → Answer
joining_answer session (Ok x) = answer.Opened session
joining_answer session (Err why) = answer.Refused why

abbrev pub joining_clients : List Member → LinkedClient → Result (Unit {0}) Refusal → List Member
joining_clients xs x (Ok y) = xs ++ far x ∷ []
joining_clients xs x (Err why) = xs

-- A client joins its session: it is registered, and then it is one of the clients.
pub record IsJoining {R F : Type 0} (told lasts : Type 0) (stands : List ℕ → List Transaction → Type 0) (rules : R → MergeRules) (named : F → List ℕ → Option (List ℕ)) (x : LinkedClient) (old new : ClientsState R F) (before after : Option (List Stamp)) (a : Answer) : Type 0 where
  pub left : LinkedClient
  pub said : Result (Unit {0}) Refusal
  pub joins : IsJoined told lasts stands rules named x.session old.hub new.hub before after x.desk x.client left.desk left.client said
  pub name : left.name ≡ x.name
  pub session : left.session ≡ x.session
  pub connection : left.connection ≡ x.connection
  pub answer : a ≡ joining_answer x.session said
  pub clients : new.clients ≡ joining_clients old.clients left said
