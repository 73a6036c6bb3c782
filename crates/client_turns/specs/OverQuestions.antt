-- What questions of a client with a link, which ask nothing of its connection, leave over a carrier, whatever that is. Own.
use Rattle.std.specs.Prelude.{◌≡◌, ℕ, List, Result, Ok, Err, false}
use Rattle.zb_model.specs.declared.data.Transaction.{Transaction}
use Rattle.zb_model.specs.declared.refusal.Refusal.{Refusal}
use Rattle.zb_model.specs.declared.refusal.Refusal.TheVariants as refusal
use Rattle.zb_answers.specs.declared.answer.Answer.{Answer}
use Rattle.zb_answers.specs.declared.answer.Answer.TheVariants as answer
use Rattle.zodb_core.specs.declared.reply.Reply.{Reply}
use Rattle.zodb_core.specs.declared.request.Request.{Request}
use Rattle.zodb_core.specs.HubState.{HubState, is_store_failed}
use Rattle.zodb_core.specs.Machine.{Machine}
use Rattle.zodb_core.specs.Outcomes.{StepOutcome}
use Rattle.connection_view.specs.Loading.{NewOid}
use Rattle.connection_view.specs.Views.{Client}
use Rattle.remote_loads.specs.Requesting.{QuestionLeaves}
use Rattle.remote_loads.specs.Standing.{Stands}
use Rattle.client_turns.specs.Lines.{answer_of}
use Rattle.client_turns.specs.OverCarrier.{LinkAt, MakesAt, MayBeAt}
use Rattle.client_turns.specs.Standing.{KeepsHub}

-- What is heard of a question. Where it says that a message was bad, the answer was lost: a list whose texts are longer than its rows allow, which no list is. And no
-- question is a conflict.
abbrev pub question_heard : Result Reply Refusal → Result Reply Refusal
question_heard (Err refusal.BadMessage) = Err refusal.Memory
question_heard (Err (refusal.Conflict oid base current why)) = Err refusal.Memory
question_heard r = r

abbrev pub question_answer : Result Reply Refusal → Answer
question_answer (Ok reply) = answer_of reply
question_answer (Err why) = answer.Refused why

-- what is answered of a new number
abbrev pub number_answer : Result ℕ Refusal → Answer
number_answer (Ok oid) = answer.Oid oid
number_answer (Err why) = answer.Refused why

module _ {E : Type 0} (told : Type 0) (steps : ℕ → Request → Reply → E → E → Type 0) (machine : E → Machine) (a : LinkAt E) where
  -- a question was asked, and answered so
  pub record QuestionOver (q : Request) (reply : Answer) (b : LinkAt E) : Type 0 where
    pub result : Result Reply Refusal
    pub answer : reply ≡ question_answer (question_heard result)
    pub leaves : told → (v : Client) → Stands (machine a.there) a.session a.desk a.client v → QuestionLeaves (steps a.session) machine a.session a.there q v result b.client b.there b.desk

  -- a new number was asked for
  pub record NumberOver (result : Result ℕ Refusal) (b : LinkAt E) : Type 0 where
    pub stands : (v : Client) → MayBeAt told steps machine a v → MayBeAt told steps machine b v
    pub makes : MakesAt told steps machine a (NewOid result) b

-- A part of a line of a client with a link that changes no list; that the store didn't fail is known where what stands there is told.
pub record ReadsLinked {R F : Type 0} (told lasts : Type 0) (stands : List ℕ → List Transaction → Type 0) (o : StepOutcome) (old new : HubState R F) : Type 0 where
  pub keeps : KeepsHub told lasts stands false (λ m bytes. stands bytes m.list) o old new
  pub list : told → old.store.broken ≡ false → new.store.list ≡ old.store.list
  pub whole : told → is_store_failed o ≡ false
