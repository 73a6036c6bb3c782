-- What a remote client makes of what comes for its calls. Own.
use Rattle.std.specs.Prelude.{◌≡◌, ◌⊎◌, ℕ, List, [], ◌∷◌, Option, Some, None, Result, Ok, Err}
use Rattle.std.specs.List.{concat}
use Rattle.zb_model.specs.declared.refusal.Refusal.{Refusal}
use Rattle.zb_model.specs.declared.refusal.Refusal.TheVariants as refusal
use Rattle.zodb_core.specs.declared.reply.Reply.{Reply}
use Rattle.zodb_core.specs.declared.request.Request.{Request}
use Rattle.zeo_frames.specs.Frames.{frames}
use Rattle.zeo_messages.specs.declared.answer.Answer.{Answer}
use Rattle.zeo_messages.specs.declared.call.Call.{Call}
use Rattle.zeo_messages.specs.declared.message.Message.{Message}
use Rattle.zeo_messages.specs.declared.message.Message.TheVariants.{Answered, Asked}
use Rattle.zeo_messages.specs.Messages.{payload_of}
use Rattle.zeo_desk.specs.declared.asked.Asked.TheVariants as asked
use Rattle.zeo_desk.specs.Answering.{asked_of, reply_answer, sent_answer}
use Rattle.zeo_desk.specs.Desks.{DeskState}
use Rattle.zeo_client.specs.declared.asking.AskError.{AskError}
use Rattle.zeo_client.specs.declared.asking.AskError.TheVariants as ask_error
use Rattle.zeo_client.specs.declared.error.ClientError.{ClientError}
use Rattle.zeo_client.specs.Asking.{IsTooLong, next_number}
use Rattle.zeo_client.specs.Hearing.{Held, IsAnswerHeard}
use Rattle.zeo_client.specs.Taking.{ClientState, IsFed}
use Rattle.remote_loads.specs.Causes.{refusal_of, unasked}
use Rattle.remote_loads.specs.Served.{Serves, ServesFront}

-- the first answer among messages
abbrev pub answer_in : List Message → Option Answer
answer_in [] = None
answer_in (Answered number answer ∷ messages) = Some answer
answer_in (message ∷ messages) = answer_in messages

-- the way back was lost: the link failed or has ended, or there was no memory
abbrev pub IsWayLost : Refusal → Type 0
IsWayLost refusal.LinkFault = Unit {0}
IsWayLost refusal.Closed = Unit {0}
IsWayLost refusal.Memory = Unit {0}
IsWayLost _ = ⊥

abbrev pub refused_so : {T : Type 0} → Result T ClientError → Result T Refusal
refused_so (Ok x) = Ok x
refused_so (Err error) = Err (refusal_of error)

module _ {S : Type 0} (steps : Request → Reply → S → S → Type 0) (before : S) (d : DeskState) (old : ClientState) where
  -- Payloads went out: the carrier broke off, or what the desk sends for them came and was taken.
  pub data IsExchanged (payloads : List (List ℕ)) : Result (List Message) Refusal → ClientState → S → DeskState → Type 0 where
    broke_off : (r : Refusal) (now : S) (left : DeskState) → IsWayLost r → ServesFront steps d payloads before left now → IsExchanged payloads (Err r) old now left
    came : (out : List (List ℕ)) (result : Result (List Message) ClientError) (new : ClientState) (now : S) (left : DeskState) → Serves steps d payloads before out left now
        → IsFed old (concat out) result new → IsExchanged payloads (refused_so result) new now left

  -- Payloads went out, and an answer was waited for: behind messages without one, whatever else came.
  pub data IsTalked (payloads : List (List ℕ)) : Result Answer Refusal → ClientState → S → DeskState → Type 0 where
    talk_failed : (r : Refusal) (new : ClientState) (now : S) (left : DeskState) → IsExchanged payloads (Err r) new now left → IsTalked payloads (Err r) new now left
    talk_answered : (messages : List Message) (answer : Answer) (new : ClientState) (now : S) (left : DeskState) → IsExchanged payloads (Ok messages) new now left
        → answer_in messages ≡ Some answer → IsTalked payloads (Ok answer) new now left
    talk_waited : (messages : List Message) (result : Result Answer Refusal) (mid new : ClientState) (middle now : S) (between left : DeskState) → IsExchanged payloads (Ok messages) mid middle between
        → answer_in messages ≡ None → IsTalked payloads result new now left

-- and so for bytes that are frames of payloads, at least one
abbrev pub Exchanges : {S : Type 0} → (Request → Reply → S → S → Type 0) → S → DeskState → ClientState → List ℕ → Result (List Message) Refusal → ClientState → S → DeskState → Type 0
Exchanges steps before d old bytes result new now left =
    (first : List ℕ) (rest : List (List ℕ)) → bytes ≡ frames (first ∷ rest) → IsExchanged steps before d old (first ∷ rest) result new now left

abbrev pub Talks : {S : Type 0} → (Request → Reply → S → S → Type 0) → S → DeskState → ClientState → List ℕ → Result Answer Refusal → ClientState → S → DeskState → Type 0
Talks steps before d old bytes result new now left =
    (first : List ℕ) (rest : List (List ℕ)) → bytes ≡ frames (first ∷ rest) → IsTalked steps before d old (first ∷ rest) result new now left

-- the client as it waits for the answer of a call
abbrev pub waiting_for : ClientState → Call → ClientState
waiting_for old call = record old { number = next_number old.number; last = Some call }

-- a call isn't sent: there was no memory, or it doesn't fit a frame
abbrev pub IsUnsent : Call → AskError → Type 0
IsUnsent call (ask_error.TooLong n) = IsTooLong call n
IsUnsent call ask_error.Memory = Unit {0}

-- A call was made: it wasn't sent, or its payload was.
pub data IsAsked {S : Type 0} (steps : Request → Reply → S → S → Type 0) (before : S) (d : DeskState) (old : ClientState) (call : Call) : Result Answer Refusal → ClientState → S → DeskState → Type 0 where
  not_sent : (error : AskError) → IsUnsent call error → IsAsked steps before d old call (Err (unasked error)) old before d
  was_sent : (result : Result Answer Refusal) (new : ClientState) (now : S) (left : DeskState)
      → IsTalked steps before d (waiting_for old call) (payload_of (Asked (next_number old.number) call) ∷ []) result new now left → IsAsked steps before d old call result new now left

-- ---- calls that name one step

-- the answer that is sent for the reply to such a call, by what its request asks
abbrev pub answer_given : Request → Reply → Answer
answer_given request reply = sent_answer (asked_of request) (reply_answer (asked_of request) reply)

-- and so where the reply says it all
abbrev pub answer_sent : Reply → Answer
answer_sent reply = sent_answer asked.Other (reply_answer asked.Other reply)

-- an answer was heard, or it wasn't
abbrev pub MayBeHeard : Call → Answer → Held → Held → Type 0
MayBeHeard call answer old new = (new ≡ old) ⊎ IsAnswerHeard (Some call) answer old new

-- A call that names one step was made: it wasn't sent; or it was, and no step was made; or the step was, and its answer was lost; or its reply was answered, and that
-- was heard.
pub data IsCalled {S : Type 0} (steps : Request → Reply → S → S → Type 0) (request : Request) (call : Call) (before : S) (old : Held) : Result Answer Refusal → Held → S → Type 0 where
  unsent : (error : AskError) → IsUnsent call error → IsCalled steps request call before old (Err (unasked error)) old before
  unmade : (r : Refusal) → IsWayLost r → IsCalled steps request call before old (Err r) old before
  unheard : (r : Refusal) (reply : Reply) (new : Held) (now : S) → IsWayLost r → steps request reply before now → MayBeHeard call (answer_given request reply) old new → IsCalled steps request call before old (Err r) new now
  answered : (reply : Reply) (new : Held) (now : S) → steps request reply before now → IsAnswerHeard (Some call) (answer_given request reply) old new
      → IsCalled steps request call before old (Ok (answer_given request reply)) new now
