-- What the registering of a remote client leaves and makes, over a carrier that tells. Own.
use Rattle.std.specs.Prelude.{◌≡◌, ℕ, [], Some, None, Result, Ok, Err, OnOk, false, length}
use Rattle.zb_model.specs.declared.refusal.Refusal.{Refusal}
use Rattle.zodb_core.specs.declared.reply.Reply.{Reply}
use Rattle.zodb_core.specs.declared.request.Request.{Request}
use Rattle.zodb_core.specs.declared.request.Request.TheVariants as request
use Rattle.zodb_core.specs.Machine.{Machine, MachineVote, told_of}
use Rattle.zodb_core.specs.Sound.{IsSoundMachine}
use Rattle.zeo_messages.specs.declared.answer.Answer.{Answer}
use Rattle.zeo_messages.specs.declared.call.Call.TheVariants as calls
use Rattle.zeo_desk.specs.declared.asked.Asked.TheVariants as asked
use Rattle.zeo_desk.specs.Answering.{reply_answer, sent_answer}
use Rattle.zeo_desk.specs.Desks.{DeskState}
use Rattle.zeo_serving.specs.Laws.{fresh_client}
use Rattle.zeo_client.specs.declared.asking.AskError.{AskError}
use Rattle.zeo_client.specs.Taking.{ClientState}
use Rattle.zeo_client.specs.Whole.{ready}
use Rattle.remote_loads.specs.Answers.{count_answer, tid_answer}
use Rattle.remote_loads.specs.Causes.{unasked}
use Rattle.remote_loads.specs.Making.{IsMadeBy, MakesFront, answered_so, left_alone}
use Rattle.remote_loads.specs.Served.{MaySteps}
use Rattle.remote_loads.specs.Standing.{IsWayEnd, Stands}
use Rattle.remote_loads.specs.Talking.{IsAsked, IsUnsent, IsWayLost}

-- A client whose link was just opened: its session was told all and holds no vote, its desk has no client yet, and it was told nothing and has nothing cached.
pub record IsNewcomer (m : Machine) (n : ℕ) (d : DeskState) (client : ClientState) : Type 0 where
  pub whole : m.failed ≡ false
  pub sound : IsSoundMachine m
  pub told : told_of n m.sessions ≡ length m.journal
  pub free : (v : MachineVote) → m.vote ≡ Some v → v.session ≡ n → ⊥
  pub early : d.registered ≡ false
  pub empty : client.held.cache.entries ≡ []
  pub known : client.held.standing.known ≡ 0
  pub end : IsWayEnd client.ended
  pub reading : client.ended ≡ None → client.reading ≡ ready

-- A registering: its message is sent, and behind its answer the client syncs.
pub data IsRegistered {S : Type 0} (steps : Request → Reply → S → S → Type 0) (before : S) (d : DeskState) (old : ClientState) : Result ℕ Refusal → ClientState → S → DeskState → Type 0 where
  register_refused : (result : Result Answer Refusal) (r : Refusal) (new : ClientState) (now : S) (left : DeskState) → IsAsked steps before d old (calls.Register false) result new now left → answered_so tid_answer result ≡ Err r
      → IsRegistered steps before d old (Err r) new now left
  register_synced : (result : Result Answer Refusal) (tid : ℕ) (new : ClientState) (now : S) (left : DeskState) (synced : Result ℕ Refusal) (last : ClientState) (end : S) (gone : DeskState)
      → IsAsked steps before d old (calls.Register false) result new now left → answered_so tid_answer result ≡ Ok tid → IsMadeBy steps now left new calls.Sync count_answer left_alone synced last end gone
      → IsRegistered steps before d old synced last end gone

-- what is sent for the reply to the front of a registering
abbrev pub register_answer : Reply → Answer
register_answer reply = sent_answer asked.Register (reply_answer asked.Register reply)

-- One front at most, behind which nothing more is asked for; or one, which was answered, and the asking for another.
pub data RegisterSteps {S T : Type 0} (steps : Request → Reply → S → S → Type 0) (before : S) : Result T Refusal → S → Type 0 where
  unregistered : (error : AskError) → IsUnsent (calls.Register false) error → RegisterSteps steps before (Err (unasked error)) before
  register_lost : (r : Refusal) (now : S) → IsWayLost r → MaySteps steps request.Front before now → RegisterSteps steps before (Err r) now
  not_registered : (r : Refusal) (reply : Reply) (now : S) → steps request.Front reply before now → tid_answer (register_answer reply) ≡ Err r → RegisterSteps steps before (Err r) now
  registers_so : (tid : ℕ) (reply : Reply) (between : S) (result : Result T Refusal) (now : S) → steps request.Front reply before between → tid_answer (register_answer reply) ≡ Ok tid → MakesFront steps between result now → RegisterSteps steps before result now

-- where it is answered, the client knows the list as it stands
abbrev pub RegisterLeaves : {S T : Type 0} → (Request → Reply → S → S → Type 0) → (S → Machine) → ℕ → S → Result T Refusal → ClientState → S → DeskState → Type 0
RegisterLeaves steps machine n before result new now left = OnOk result (Stands (machine now) n left new (fresh_client (machine now))) × RegisterSteps steps before result now
