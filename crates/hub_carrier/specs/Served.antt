-- What a desk in the same program does with what a client sends. Own.
use Rattle.std.specs.Prelude.{◌≡◌, ◌⊎◌, ℕ, ◌-◌, ◌^◌, ◌+◌, min, length, List, ◌++◌, Result, MatchResult}
use Rattle.std.specs.List.{concat}
use Rattle.zodb_core.specs.declared.reply.Reply.{Reply}
use Rattle.zodb_core.specs.declared.request.Request.{Request}
use Rattle.zeo_desk.specs.declared.next.Next.{Next}
use Rattle.zeo_desk.specs.declared.next.Next.TheVariants.{Send, Step}
use Rattle.zeo_desk.specs.Desks.{DeskState, replied}
use Rattle.zeo_client.specs.declared.error.ClientError.{ClientError}
use Rattle.zeo_client.specs.declared.error.ClientError.TheVariants as error
use Rattle.remote_loads.specs.Carrying.{BreaksOff, Carries}
use Rattle.remote_loads.specs.Sending.{HoldsReply}
use Rattle.remote_loads.specs.Served.{Does, DoesFront, Serves, ServesFront}

-- why a desk in the same program doesn't answer: the stream ends, or there was no memory
abbrev pub IsEndOrMemory : ClientError → Type 0
IsEndOrMemory e = (e ≡ error.Closed) ⊎ (e ≡ error.Memory)

-- a step was made, and its reply, which can be told, handed to the desk, which tells what is done next
pub record IsStepReplied {S : Type 0} (steps : Request → Reply → S → S → Type 0) (q : Request) (s t : S) (d left : DeskState) (next : Next) : Type 0 where
  pub reply : Reply
  pub step : steps q reply s t
  pub held : HoldsReply reply
  pub turn : replied d reply ≡ record { desk = left; next = next }

-- so it was, or it wasn't, for such a cause: the step was made or not
abbrev pub HasAsked : {S : Type 0} → (Request → Reply → S → S → Type 0) → Request → S → S → DeskState → DeskState → Result Next ClientError → Type 0
HasAsked steps q s t d left r = MatchResult r (λ next. IsStepReplied steps q s t d left next) (λ e. DoesFront steps d (Step q) s left t × IsEndOrMemory e)

-- frames are sent next
abbrev pub IsSend : Next → Type 0
IsSend (Send frames) = Unit {0}
IsSend (Step request) = ⊥

-- what is done next was done, up to the frames that are to be sent, or for such a cause some first steps of it alone
abbrev pub HasDone : {S : Type 0} → (Request → Reply → S → S → Type 0) → DeskState → Next → S → S → DeskState → Result (List (List ℕ)) ClientError → Type 0
HasDone steps d next s t left r = MatchResult r (λ frames. Does steps d next s frames left t) (λ e. DoesFront steps d next s left t × IsEndOrMemory e)

-- the bytes that are sent for payloads, behind others
pub record AreSentFor {S : Type 0} (steps : Request → Reply → S → S → Type 0) (d : DeskState) (payloads : List (List ℕ)) (s t : S) (left : DeskState) (before after : List ℕ) : Type 0 where
  pub out : List (List ℕ)
  pub serves : Serves steps d payloads s out left t
  pub bytes : after ≡ before ++ concat out

-- payloads were served, one after another, or for such a cause some first ones alone
abbrev pub HasServed : {S T : Type 0} → (Request → Reply → S → S → Type 0) → DeskState → List (List ℕ) → S → S → DeskState → List ℕ → List ℕ → Result T ClientError → Type 0
HasServed steps d payloads s t left before after r = MatchResult r (λ _. AreSentFor steps d payloads s t left before after) (λ e. ServesFront steps d payloads s left t × IsEndOrMemory e)

-- what is sent for the payloads of a piece came back, or some first steps for them were made, and nothing came
abbrev pub HasCarried : {S E : Type 0} → (Request → Reply → S → S → Type 0) → S → DeskState → List ℕ → S → DeskState → Result (List ℕ) E → Type 0
HasCarried steps s d piece t left r = MatchResult r (λ given. Carries steps s d piece given t left) (λ _. BreaksOff steps s d piece t left)

-- a count with more, from 0 to 2^64-1, where it stays
abbrev pub counted_on : ℕ → ℕ → ℕ
counted_on count more = min (count + more) (2 ^ 64 - 1)

-- pieces that were answered, their bytes and those that came for them: one more is counted where bytes came for it, and none else
abbrev pub HasCounted : {E : Type 0} → ℕ × ℕ × ℕ → List ℕ → Result (List ℕ) E → ℕ × ℕ × ℕ → Type 0
HasCounted old piece r new =
    MatchResult r (λ given. (new.0 ≡ counted_on old.0 1) × (new.1 ≡ counted_on old.1 (length piece)) × (new.2 ≡ counted_on old.2 (length given)))
    (λ _. (new.0 ≡ old.0) × (new.1 ≡ old.1) × (new.2 ≡ old.2))
