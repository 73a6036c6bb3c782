-- What the parts of serving a link do. Own.
use Rattle.std.specs.Prelude.{◌≡◌, ◌≢◌, ◌≤◌, ◌⊎◌, ℕ, Some, List, [], ◌∷◌, ◌++◌, Option, Result, MatchResult, IfErr, IfOk}
use Rattle.std.specs.Io.KnownBytes.{Appends, Consumes}
use Rattle.std.specs.List.{concat}
use Rattle.zb_base.specs.Counts.{Rose}
use Rattle.zb_model.specs.declared.data.Transaction.{Transaction}
use Rattle.zb_outside.specs.Written.{AppendsPrefix}
use Rattle.zodb_core.specs.declared.reply.Reply.{Reply}
use Rattle.zodb_core.specs.declared.request.Request.{Request}
use Rattle.zodb_core.specs.Machine.{Rules}
use Rattle.zodb_core.specs.Outcomes.{FaultCounts}
use Rattle.zeo_frames.specs.declared.error.FrameError.TheVariants.{Memory as NoMemory}
use Rattle.zeo_frames.specs.Frames.{AreCut, HasCome, Reading}
use Rattle.zeo_desk.specs.declared.next.Next.{Next}
use Rattle.zeo_desk.specs.Desks.{DeskState, new_desk, replied}
use Rattle.hub_shared.specs.Calls.{HasCalled, IsNotBusy}
use Rattle.hub_shared.specs.Seats.{Known}
use Rattle.zeo_session.specs.declared.ending.SessionEnd.{SessionEnd}
use Rattle.zeo_session.specs.declared.ending.SessionEnd.TheVariants.{LinkFault, Memory}
use Rattle.zeo_session.specs.Served.{Asks, Does, DoesFront, HasServed, IsCutShort, IsRestOf, IsServed, Progress, Serves, started}

-- the count of a link's faults has not fallen, and a link fault ends the session only where it rose
pub record CountsFaults {E : Type 0} (before now : ℕ) (r : Result E SessionEnd) : Type 0 where
  pub counted : before ≤ now
  pub fault : IfErr r (λ end. end ≡ LinkFault → Rose before now)

-- neither count of a link's faults, of reads and of writes, has fallen, and a link fault ends the session only where one of them rose
pub record CountsBothFaults (read_before read_now sent_before sent_now : ℕ) (end : SessionEnd) : Type 0 where
  pub counted_in : read_before ≤ read_now
  pub counted_out : sent_before ≤ sent_now
  pub fault : end ≡ LinkFault → Rose read_before read_now ⊎ Rose sent_before sent_now

-- a step was asked for, and its reply handed to the desk, which tells what is done next unless memory was wanting
pub record HasAsked {E : Type 0} (told : Type 0) (rules : Rules) (list : List Transaction) (counts : FaultCounts) (q : Request) (v w : Known) (d left : DeskState) (r : Result Next E) : Type 0 where
  pub reply : Reply
  pub called : HasCalled told rules list counts q reply v w
  pub free : told → IsNotBusy q reply
  pub next : IfOk r (λ n. replied d reply ≡ record { desk = left; next = n })

-- what is done next was done, up to the frames that are to be sent, or up to want of memory
pub record HasDone {E : Type 0} (told : Type 0) (rules : Rules) (list : List Transaction) (counts : FaultCounts) (s : Progress) (w : Known) (d : DeskState) (next : Next) (left : DeskState)
    (r : Result (List (List ℕ)) E) : Type 0 where
  pub behind : Progress
  pub knows : behind.known ≡ w
  pub done : MatchResult r (λ frames. Does (Asks told rules list counts) d next s frames left behind) (λ _. DoesFront (Asks told rules list counts) d next s behind)

-- frames weren't all sent
abbrev pub IsNotSent : SessionEnd → Option (List ℕ) → Option (List ℕ) → List ℕ → Type 0
IsNotSent LinkFault before after text = AppendsPrefix before after text
IsNotSent Memory before after text = Appends before after []
IsNotSent _ before after text = ⊥

-- a message was taken, and its frames sent, or its session is over
abbrev pub AreSent : (Request → Reply → Progress → Progress → Type 0) → DeskState → DeskState → List ℕ → Progress → Progress → Option (List ℕ) → Option (List ℕ) → Type 0
AreSent steps d left payload s t before after = (frames : List (List ℕ)) × IsServed steps d left payload s t frames × Appends before after (concat frames)

pub record HasTaken {E : Type 0} (told : Type 0) (rules : Rules) (list : List Transaction) (counts : FaultCounts) (s : Progress) (w : Known) (d left : DeskState) (payload : List ℕ)
    (before after : Option (List ℕ)) (r : Result E SessionEnd) : Type 0 where
  pub behind : Progress
  pub knows : behind.known ≡ w
  pub taken : MatchResult r (λ _. AreSent (Asks told rules list counts) d left payload s behind before after) (λ end. IsCutShort (Asks told rules list counts) d payload s behind before after end)

-- messages were taken, one after another, and their frames sent
pub record AreTaken (steps : Request → Reply → Progress → Progress → Type 0) (d left : DeskState) (payloads : List (List ℕ)) (s t : Progress) (before after : Option (List ℕ)) : Type 0 where
  pub frames : List (List ℕ)
  pub serves : Serves steps d payloads s frames left t
  pub sent : Appends before after (concat frames)

-- one of them ended the session, behind some that were taken
pub record AreStopped (steps : Request → Reply → Progress → Progress → Type 0) (d : DeskState) (payloads : List (List ℕ)) (s t : Progress) (before after : Option (List ℕ)) (end : SessionEnd) : Type 0 where
  pub done : List (List ℕ)
  pub payload : List ℕ
  pub rest : List (List ℕ)
  pub split : payloads ≡ done ++ payload ∷ rest
  pub desk : DeskState
  pub between : Progress
  pub middle : Option (List ℕ)
  pub front : AreTaken steps d desk done s between before middle
  pub short : IsCutShort steps desk payload between t middle after end

pub record HasTakenAll {E : Type 0} (told : Type 0) (rules : Rules) (list : List Transaction) (counts : FaultCounts) (s : Progress) (w : Known) (d left : DeskState) (payloads : List (List ℕ))
    (before after : Option (List ℕ)) (r : Result E SessionEnd) : Type 0 where
  pub behind : Progress
  pub knows : behind.known ≡ w
  pub taken : MatchResult r (λ _. AreTaken (Asks told rules list counts) d left payloads s behind before after) (λ end. AreStopped (Asks told rules list counts) d payloads s behind before after end)

-- the bytes that came are the frames of payloads that were given and what is kept, and memory was not wanting
abbrev pub HasComeSo : List ℕ → List (List ℕ) → Reading → Type 0
HasComeSo came given reading = HasCome came given reading × (reading.ended ≢ Some NoMemory)

-- no payload is given behind those that were, for the bytes that stand there
pub record IsEndOf (came : List ℕ) (given : List (List ℕ)) (left : Option (List ℕ)) (end : SessionEnd) : Type 0 where
  pub rest : List ℕ
  pub cut : AreCut came given rest
  pub is : IsRestOf end rest left

-- more came of a link, and payloads with it, or none will
pub record HasComeOn (came : List ℕ) (given : List (List ℕ)) (unread left : Option (List ℕ)) (frames : Reading) (r : Result (List (List ℕ)) SessionEnd) : Type 0 where
  pub more : List ℕ
  pub reads : Consumes unread left more
  pub come : MatchResult r (λ payloads. HasComeSo (came ++ more) (given ++ payloads) frames) (λ end. IsEndOf (came ++ more) given left end)

-- ---- a whole link

-- all that came was served, and the session isn't over yet
pub record HasServedSoFar (told : Type 0) (rules : Rules) (list : List Transaction) (counts : FaultCounts) (v w : Known) (desk : DeskState) (frames : Reading)
    (unread left before after : Option (List ℕ)) : Type 0 where
  pub came : List ℕ
  pub given : List (List ℕ)
  pub behind : Progress
  pub reads : Consumes unread left came
  pub come : HasComeSo came given frames
  pub knows : behind.known ≡ w
  pub taken : AreTaken (Asks told rules list counts) new_desk desk given (started v) behind before after

-- a link was served to its end
pub record HasServedAll (told : Type 0) (rules : Rules) (list : List Transaction) (counts : FaultCounts) (end : SessionEnd) (v w : Known) (unread left before after : Option (List ℕ)) : Type 0 where
  pub behind : Progress
  pub knows : behind.known ≡ w
  pub served : HasServed (Asks told rules list counts) end (started v) behind unread left before after
