-- What a session on a link does: the steps that its messages name, and the frames that are sent for them. From: ZEO; how a session ends is own.
use Rattle.std.specs.Prelude.{◌≡◌, ℕ, suc, ◌==◌, ◌⊎◌, Bool, false, not, List, [], ◌∷◌, ◌++◌, Option, Some, None, drop, filter, filter_map, if◌then◌else◌}
use Rattle.std.specs.Io.KnownBytes.{Appends, Consumes, IsAtEnd}
use Rattle.std.specs.List.{concat}
use Rattle.zb_model.specs.declared.data.Transaction.{Transaction}
use Rattle.zb_outside.specs.Written.{AppendsPrefix}
use Rattle.zodb_core.specs.declared.reply.Reply.{Reply}
use Rattle.zodb_core.specs.declared.reply.Reply.TheVariants as reply
use Rattle.zodb_core.specs.declared.request.Request.{Request}
use Rattle.zodb_core.specs.declared.request.Request.TheVariants as request
use Rattle.zodb_core.specs.DecisionLaws.{is_spent}
use Rattle.zodb_core.specs.History.{Entry, Made, Opened}
use Rattle.zodb_core.specs.Machine.{Rules}
use Rattle.zodb_core.specs.Outcomes.{FaultCounts}
use Rattle.zeo_frames.specs.Frames.{AreCut, IsTooLong, IsUnfinished, frame}
use Rattle.zeo_desk.specs.declared.next.Next.{Next}
use Rattle.zeo_desk.specs.declared.next.Next.TheVariants.{Step, Send}
use Rattle.zeo_desk.specs.Desks.{DeskState, Turn, new_desk, replied, taken}
use Rattle.hub_shared.specs.Calls.{HasCalled, IsNotBusy}
use Rattle.hub_shared.specs.Seats.{Known}
use Rattle.zeo_session.specs.declared.ending.SessionEnd.{SessionEnd}
use Rattle.zeo_session.specs.declared.ending.SessionEnd.TheVariants.{Ended, LinkFault, BadMessage, FrameTooLong, Memory}

-- ---- steps of a session

-- what a session asked, and its reply
pub record Asking : Type 0 where
  pub request : Request
  pub reply : Reply

-- what its pass knows, and what it asked so far
pub record Progress : Type 0 where
  pub known : Known
  pub asked : List Asking

abbrev pub started : Known → Progress
started v = record { known = v; asked = [] }

-- it asked for one step more, which isn't refused since another session holds the vote
pub record Asks (told : Type 0) (rules : Rules) (list : List Transaction) (counts : FaultCounts) (q : Request) (r : Reply) (s t : Progress) : Type 0 where
  pub called : HasCalled told rules list counts q r s.known t.known
  pub free : told → IsNotBusy q r
  pub asked : t.asked ≡ s.asked ++ record { request = q; reply = r } ∷ []

-- ---- what stands in the history

-- a reply of which the history has no entry, since it is full
abbrev pub is_outside : Reply → Bool
is_outside (reply.Refused r) = is_spent r
is_outside _ = false

-- what was asked and stands in the history
abbrev pub made_of : List Asking → List Asking
made_of asked = filter (λ a. not (is_outside a.reply)) asked

-- what an entry says that a session asked
abbrev pub asking_of : ℕ → Entry → Option Asking
asking_of session (Opened n) = None
asking_of session (Made e) = if e.session == session then Some (record { request = e.request; reply = e.reply }) else None

-- what a session asked behind a place of the history
abbrev pub asked_behind : ℕ → ℕ → List Entry → List Asking
asked_behind session place entries = filter_map (asking_of session) (drop (suc place) entries)

-- ---- one message

-- What is done next is done: steps of the session lead from one state to another, frames are sent, and the desk is left.
pub data Does {S : Type 0} (steps : Request → Reply → S → S → Type 0) : DeskState → Next → S → List (List ℕ) → DeskState → S → Type 0 where
  sent : (d : DeskState) (frames : List (List ℕ)) (s : S) → Does steps d (Send frames) s frames d s
  asked_on : (d : DeskState) (request : Request) (reply : Reply) (s between behind : S) (frames : List (List ℕ)) (left : DeskState) → steps request reply s between
      → Does steps (replied d reply).desk (replied d reply).next between frames left behind → Does steps d (Step request) s frames left behind

-- Of the steps that are done next some first ones are made.
pub data DoesFront {S : Type 0} (steps : Request → Reply → S → S → Type 0) : DeskState → Next → S → S → Type 0 where
  stops : (d : DeskState) (next : Next) (s : S) → DoesFront steps d next s s
  steps_on : (d : DeskState) (request : Request) (reply : Reply) (s between behind : S) → steps request reply s between
      → DoesFront steps (replied d reply).desk (replied d reply).next between behind → DoesFront steps d (Step request) s behind

-- a message is served: its steps are made, and its frames are sent
pub record IsServed {S : Type 0} (steps : Request → Reply → S → S → Type 0) (d left : DeskState) (payload : List ℕ) (s t : S) (frames : List (List ℕ)) : Type 0 where
  pub turn : Turn
  pub takes : taken d payload ≡ Some turn
  pub does : Does steps turn.desk turn.next s frames left t

-- a message is begun: some first ones of its steps are made
pub record IsBegun {S : Type 0} (steps : Request → Reply → S → S → Type 0) (d : DeskState) (payload : List ℕ) (s t : S) : Type 0 where
  pub turn : Turn
  pub takes : taken d payload ≡ Some turn
  pub does : DoesFront steps turn.desk turn.next s t

-- a write of what answers a message failed, whose steps are made: the link has taken a front of its frames
pub record IsUnsent {S : Type 0} (steps : Request → Reply → S → S → Type 0) (d : DeskState) (payload : List ℕ) (s t : S) (before after : Option (List ℕ)) : Type 0 where
  pub left : DeskState
  pub frames : List (List ℕ)
  pub served : IsServed steps d left payload s t frames
  pub taken : AppendsPrefix before after (concat frames)

-- Why no message is served behind one that isn't served itself; what was made for that one, and what the link has taken for it.
abbrev pub IsCutShort : {S : Type 0} → (Request → Reply → S → S → Type 0) → DeskState → List ℕ → S → S → Option (List ℕ) → Option (List ℕ) → SessionEnd → Type 0
IsCutShort steps d payload s t before after BadMessage = (taken d payload ≡ None) × (t ≡ s) × Appends before after []
IsCutShort steps d payload s t before after Memory = ((t ≡ s) ⊎ IsBegun steps d payload s t) × Appends before after []
IsCutShort steps d payload s t before after LinkFault = IsUnsent steps d payload s t before after
IsCutShort steps d payload s t before after Ended = ⊥
IsCutShort steps d payload s t before after FrameTooLong = ⊥

-- ---- all messages of a link

-- Payloads one after another, each of a message of a client, and the frames that are sent for them.
pub data Serves {S : Type 0} (steps : Request → Reply → S → S → Type 0) : DeskState → List (List ℕ) → S → List (List ℕ) → DeskState → S → Type 0 where
  done : (d : DeskState) (s : S) → Serves steps d [] s [] d s
  goes_on : (d between left : DeskState) (payload : List ℕ) (rest : List (List ℕ)) (turn : Turn) (s middle behind : S) (frames more : List (List ℕ)) → taken d payload ≡ Some turn
      → Does steps turn.desk turn.next s frames between middle → Serves steps between rest middle more left behind → Serves steps d (payload ∷ rest) s (frames ++ more) left behind

-- What stands behind the messages that were served, where no message is at fault: the end of the link behind a front of a frame, or a length above the limit.
-- A read that failed and want of memory come behind any bytes.
abbrev pub IsRestOf : SessionEnd → List ℕ → Option (List ℕ) → Type 0
IsRestOf Ended rest left = IsUnfinished rest × IsAtEnd left
IsRestOf FrameTooLong rest left = (excess : ℕ) × IsTooLong rest excess
IsRestOf LinkFault rest left = IsUnfinished rest
IsRestOf Memory rest left = Unit {0}
IsRestOf BadMessage rest left = ⊥

-- no message is at fault
pub record IsEndedBehind {S : Type 0} (end : SessionEnd) (rest : List ℕ) (left : Option (List ℕ)) (s t : S) (before after : Option (List ℕ)) : Type 0 where
  pub rest_is : IsRestOf end rest left
  pub same : t ≡ s
  pub none : Appends before after []

-- the first message behind those that were served ended it
pub record IsEndedBy {S : Type 0} (steps : Request → Reply → S → S → Type 0) (end : SessionEnd) (d : DeskState) (rest : List ℕ) (s t : S) (before after : Option (List ℕ)) : Type 0 where
  pub payload : List ℕ
  pub more : List ℕ
  pub next : rest ≡ frame payload ++ more
  pub short : IsCutShort steps d payload s t before after end

-- The bytes that came from a link are the frames of messages that were served, one after another, and a rest; the link has taken the frames that were sent for
-- them, and why it ended stands at the rest. The state of the session is behind all of its steps.
pub record HasServed {S : Type 0} (steps : Request → Reply → S → S → Type 0) (end : SessionEnd) (s t : S) (unread left before after : Option (List ℕ)) : Type 0 where
  pub came : List ℕ
  pub reads : Consumes unread left came
  pub payloads : List (List ℕ)
  pub rest : List ℕ
  pub cut : AreCut came payloads rest
  pub desk : DeskState
  pub between : S
  pub frames : List (List ℕ)
  pub serves : Serves steps new_desk payloads s frames desk between
  pub middle : Option (List ℕ)
  pub sent : Appends before middle (concat frames)
  pub ends : IsEndedBehind end rest left between t middle after ⊎ IsEndedBy steps end desk rest between t middle after

-- A session has served its link, and was then closed. What the history has of it behind its pass's last own entry is all that it asked but what was refused since
-- the history was full.
pub record IsSessionOver (told : Type 0) (rules : Rules) (list : List Transaction) (counts : FaultCounts) (end : SessionEnd) (v w : Known) (unread left before after : Option (List ℕ)) : Type 0 where
  pub behind : Progress
  pub served : HasServed (Asks told rules list counts) end (started v) behind unread left before after
  pub reply : Reply
  pub closed : Progress
  pub closes : Asks told rules list counts request.Close reply behind closed
  pub knows : closed.known ≡ w
  pub history : told → asked_behind v.session v.last w.seen ≡ made_of closed.asked
