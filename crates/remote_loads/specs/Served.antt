-- What a desk sends for one call. Own.
use Rattle.std.specs.Prelude.{◌≡◌, ℕ, ◌<◌, ◌^◌, List, [], ◌∷◌, ◌++◌, Some, None, true}
use Rattle.zodb_core.specs.declared.reply.Reply.{Reply}
use Rattle.zodb_core.specs.declared.request.Request.{Request}
use Rattle.zb_model.specs.declared.refusal.Refusal.TheVariants as refusals
use Rattle.zeo_messages.specs.declared.answer.Answer.TheVariants as answers
use Rattle.zeo_messages.specs.declared.call.Call.{Call}
use Rattle.zeo_messages.specs.declared.message.Message.TheVariants.{Asked}
use Rattle.zeo_messages.specs.Calls.{HoldsCall, fits_call}
use Rattle.zeo_messages.specs.Messages.{payload_of}
use Rattle.zeo_desk.specs.Answering.{answer_to, asked_of, in_place_of, reply_answer, reply_frames}
use Rattle.zeo_desk.specs.declared.next.Next.{Next}
use Rattle.zeo_desk.specs.declared.next.Next.TheVariants.{Step, Send}
use Rattle.zeo_desk.specs.Desks.{DeskState, Turn, asks, called, committed, replied, taken}
use Rattle.remote_loads.specs.Sending.{HoldsReply}

-- What is done next is done: steps of the session lead from one state to another, each with a reply that can be told, frames are sent, and the desk is left.
pub data Does {S : Type 0} (steps : Request → Reply → S → S → Type 0) : DeskState → Next → S → List (List ℕ) → DeskState → S → Type 0 where
  sent : (d : DeskState) (frames : List (List ℕ)) (s : S) → Does steps d (Send frames) s frames d s
  asked_on : (d : DeskState) (request : Request) (reply : Reply) (s between behind : S) (frames : List (List ℕ)) (left : DeskState) → steps request reply s between → HoldsReply reply
      → Does steps (replied d reply).desk (replied d reply).next between frames left behind → Does steps d (Step request) s frames left behind

-- Of what is done next some first steps are made, and none of its frames comes. The reply of the last of them may be handed to the desk or not.
pub data DoesFront {S : Type 0} (steps : Request → Reply → S → S → Type 0) : DeskState → Next → S → DeskState → S → Type 0 where
  stops : (d : DeskState) (next : Next) (s : S) → DoesFront steps d next s d s
  steps_off : (d : DeskState) (request : Request) (reply : Reply) (s behind : S) → steps request reply s behind → DoesFront steps d (Step request) s d behind
  steps_on : (d : DeskState) (request : Request) (reply : Reply) (s between behind : S) (left : DeskState) → steps request reply s between
      → DoesFront steps (replied d reply).desk (replied d reply).next between left behind → DoesFront steps d (Step request) s left behind

-- Payloads one after another, each of a message of a client, and the frames that are sent for them.
pub data Serves {S : Type 0} (steps : Request → Reply → S → S → Type 0) : DeskState → List (List ℕ) → S → List (List ℕ) → DeskState → S → Type 0 where
  done : (d : DeskState) (s : S) → Serves steps d [] s [] d s
  goes_on : (d between left : DeskState) (payload : List ℕ) (rest : List (List ℕ)) (turn : Turn) (s middle behind : S) (frames more : List (List ℕ)) → taken d payload ≡ Some turn
      → Does steps turn.desk turn.next s frames between middle → Serves steps between rest middle more left behind → Serves steps d (payload ∷ rest) s (frames ++ more) left behind

-- Some first payloads are served, and of the next one some first steps are made; none of the frames comes.
pub data ServesFront {S : Type 0} (steps : Request → Reply → S → S → Type 0) : DeskState → List (List ℕ) → S → DeskState → S → Type 0 where
  serves_none : (d : DeskState) (payloads : List (List ℕ)) (s : S) → ServesFront steps d payloads s d s
  begins : (d left : DeskState) (payload : List ℕ) (rest : List (List ℕ)) (turn : Turn) (s behind : S) → taken d payload ≡ Some turn
      → DoesFront steps turn.desk turn.next s left behind → ServesFront steps d (payload ∷ rest) s left behind
  serves_on : (d between left : DeskState) (payload : List ℕ) (rest : List (List ℕ)) (turn : Turn) (s middle behind : S) (frames : List (List ℕ)) → taken d payload ≡ Some turn
      → Does steps turn.desk turn.next s frames between middle → ServesFront steps between rest middle left behind → ServesFront steps d (payload ∷ rest) s left behind

-- a request whose reply is answered at once and by itself, or, where that is too long, by a refusal
pub record IsAnsweredAtOnce (request : Request) : Type 0 where
  pub last : (r : Reply) → committed (asked_of request) r ≡ None
  pub answer : (r : Reply) → answer_to (asked_of request) r ≡ reply_answer (asked_of request) r
  pub long : (n : ℕ) → in_place_of (asked_of request) n ≡ answers.Refused (refusals.TooLong n)

-- a step was made for a call, and the frames of its reply were sent
pub record IsServedBy {S : Type 0} (steps : Request → Reply → S → S → Type 0) (d : DeskState) (number : ℕ) (request : Request) (before : S) (out : List (List ℕ)) (left : DeskState) (now : S) : Type 0 where
  pub reply : Reply
  pub step : steps request reply before now
  pub held : HoldsReply reply
  pub sent : out ≡ reply_frames number (asked_of request) reply
  pub desk : left ≡ record d { awaited = None }

-- a step was made, or none
pub data MaySteps {S : Type 0} (steps : Request → Reply → S → S → Type 0) (request : Request) (before : S) : S → Type 0 where
  no_step : MaySteps steps request before before
  one_step : (reply : Reply) (now : S) → steps request reply before now → MaySteps steps request before now

-- For a call of a client that has registered, which names one step, that step is made or not, where nothing comes.
abbrev pub OneCallBreaksOff : {S : Type 0} → (Request → Reply → S → S → Type 0) → Type 0
OneCallBreaksOff {S} steps =
    (d left : DeskState) (number : ℕ) (call : Call) (request : Request) (before now : S)
    → d.registered ≡ true → number < 2 ^ 31 → HoldsCall call → fits_call call ≡ true → IsAnsweredAtOnce request → called d number call ≡ asks d number (asked_of request) request
    → ServesFront steps d (payload_of (Asked number call) ∷ []) before left now → MaySteps steps request before now × (left.registered ≡ true)

-- For a call of a client that has registered, which names one step, that step is made, and its reply is sent.
abbrev pub OneCallIsServed : {S : Type 0} → (Request → Reply → S → S → Type 0) → Type 0
OneCallIsServed {S} steps =
    (d left : DeskState) (number : ℕ) (call : Call) (request : Request) (before now : S) (out : List (List ℕ))
    → d.registered ≡ true → number < 2 ^ 31 → HoldsCall call → fits_call call ≡ true → IsAnsweredAtOnce request → called d number call ≡ asks d number (asked_of request) request
    → Serves steps d (payload_of (Asked number call) ∷ []) before out left now → IsServedBy steps d number request before out left now
