-- What the code of a run says of turns, and of a store. Own.
use Rattle.std.specs.Prelude.{◌≡◌, ◌⊎◌, ℕ, List, [], ◌++◌, Option, Some, None, Ok, Err, Bool, false, true}
use Rattle.std.specs.Io.KnownBytes.{Appends}
use Rattle.zb_base.specs.Counts.{Rose}
use Rattle.zb_ids.specs.declared.stamp.Stamp.{Stamp}
use Rattle.zb_model.specs.declared.data.Transaction.{Transaction}
use Rattle.zb_model.specs.Stores.{StoreState}
use Rattle.zb_outside.specs.Written.{AppendsPrefix}
use Rattle.zb_answers.specs.declared.answer.Answer.{Answer}
use Rattle.zb_script.specs.declared.line.Turn.{Turn}
use Rattle.zb_script.specs.Shape.{openers}
use Rattle.zb_answers.specs.Answers.{reply_lines}
use Rattle.zb_volume.specs.declared.areas.Area.TheVariants.{Main}
use Rattle.zb_volume.specs.Calls.{Event}
use Rattle.zb_volume.specs.Moments.{Leaves, LeavesOnly}
use Rattle.zodb_core.specs.HubState.{counts_of}
use Rattle.client_turns.specs.declared.errors.TurnError.{TurnError}
use Rattle.client_turns.specs.declared.errors.TurnError.TheVariants as turn_error
use Rattle.client_turns.specs.Clients.{Moment}
use Rattle.client_turns.specs.Output.{FlaggedTurn, Out, TurnAnswer, flagged}
use Rattle.client_turns.specs.Standing.{ClientsState, StandsForMoment}
use Rattle.client_turns.specs.Turns.{IsTurn}
use Rattle.script_runs.specs.declared.replying.RunError.{RunError}
use Rattle.script_runs.specs.declared.replying.RunError.TheVariants as errors
use Rattle.script_runs.specs.declared.status.Status.{Status}
use Rattle.script_runs.specs.declared.status.Status.TheVariants as status
use Rattle.side_by_side.specs.declared.turns.PlayedTurn.{PlayedTurn}
use Rattle.side_by_side.specs.Orders.{ClientLeft, IsTakenIn, are_done, lines_of_each}
use Rattle.side_by_side.specs.Plays.{AreServed}
use Rattle.side_by_side.specs.Runs.{IsListNext, IsOfRun, stock}
use Rattle.script_runs.specs.Came.{Came, IsMainBy, IsOfCame, answers_text}
use Rattle.script_runs.specs.declared.manner.Manner.{Manner}
use Rattle.script_runs.specs.declared.manner.Manner.TheVariants.{InTurn, SideBySide}
use Rattle.script_runs.specs.Played.{no_text, played_lines, played_text}
use Rattle.script_runs.specs.Texts.{cut_lines, joined, store_fault_line}
use Rattle.script_runs.specs.Written.{IsWritten}

-- ---- one turn

-- a turn was answered, and this was written of its reply
pub record IsReplied (written : List ℕ → Type 0) (m : Moment) (t : Turn) (last : Bool) (now : Moment) : Type 0 where
  pub answer : Answer
  pub turn : IsTurn stock m t last (Ok answer) now
  pub text : written (joined (reply_lines t.client answer))

-- a turn broke off, and nothing was written
pub record IsUnanswered (why : TurnError) (m : Moment) (t : Turn) (last : Bool) (old new : Option (List ℕ)) (now : Moment) : Type 0 where
  pub turn : IsTurn stock m t last (Err why) now
  pub silent : new ≡ old

-- how a run stops at a turn: that broke off, or it was answered, and some prefix of its reply was written
abbrev pub IsStopped : RunError → Moment → Turn → Bool → Option (List ℕ) → Option (List ℕ) → Moment → Type 0
IsStopped (errors.Turn why) m t last old new now = IsUnanswered why m t last old new now
IsStopped errors.Memory m t last old new now = IsReplied (AppendsPrefix old new) m t last now
IsStopped errors.SinkFault m t last old new now = IsReplied (AppendsPrefix old new) m t last now

-- ---- turns

-- whether a turn broke off
abbrev pub broke_of : RunError → Option TurnError
broke_of (errors.Turn why) = Some why
broke_of _ = None

-- what was written of the replies: all, where the store failed, and else some prefix
abbrev pub IsWrittenOf : Option TurnError → Option (List ℕ) → Option (List ℕ) → List ℕ → Type 0
IsWrittenOf (Some turn_error.StoreFault) old new text = Appends old new text
IsWrittenOf _ old new text = AppendsPrefix old new text

-- A front of the turns was answered, and its replies were written; the clients stand for the moment behind it. Whatever a crash left meanwhile is of the run, where
-- the list lasts.
pub record RunsOn {R F : Type 0} (lasts : Type 0) (stands : List ℕ → List Transaction → Type 0) (m : Moment) (front later : List FlaggedTurn) (old new : Option (List ℕ)) (log : List Event) (clients : ClientsState R F) (left : Option (List Stamp)) : Type 0 where
  pub now : Moment
  pub answers : List TurnAnswer
  pub answered : Out stock m front answers now
  pub text : Appends old new (answers_text answers)
  pub stands_for : StandsForMoment clients left now
  pub whole : now.machine.failed ≡ false
  pub moments : lasts → LeavesOnly Main (IsOfRun stands m front later answers now) log clients.hub.store.log

-- a run stopped
pub record Stops {R F : Type 0} (lasts : Type 0) (stands : List ℕ → List Transaction → Type 0) (broke : Option TurnError) (m : Moment) (turns : List Turn) (old new : Option (List ℕ)) (log : List Event) (clients : ClientsState R F) (left : Option (List Stamp)) : Type 0 where
  pub now : Moment
  pub came : Came m (flagged turns) broke now
  pub text : IsWrittenOf broke old new (answers_text came.answers)
  pub stands_for : StandsForMoment clients left now
  pub around : broke ≡ Some turn_error.StoreFault → lasts → Leaves Main (IsListNext stands came.behind came.later) clients.hub.store.log
  pub moments : lasts → LeavesOnly Main (IsOfCame stands came) log clients.hub.store.log

-- ---- a store

-- a run over a store came so far
pub record RanOver (lasts : Type 0) (stands : List ℕ → List Transaction → Type 0) (m : Moment) (cut : Option ℕ) (turns : List FlaggedTurn) (text_of : List TurnAnswer → List ℕ) (broke : Option TurnError) (written : List ℕ → Type 0) (old new : StoreState) (left : Option (List Stamp)) : Type 0 where
  pub now : Moment
  pub came : Came m turns broke now
  pub text : written (joined (cut_lines cut) ++ text_of came.answers)
  pub stamps : left ≡ now.stamps
  pub counts : counts_of new ≡ now.counts
  pub images : lasts → Leaves Main (IsMainBy stands broke came.behind came.later now) new.log
  pub moments : lasts → LeavesOnly Main (IsOfCame stands came) old.log new.log

pub record RanAllOver (lasts : Type 0) (stands : List ℕ → List Transaction → Type 0) (m : Moment) (cut : Option ℕ) (turns : List FlaggedTurn) (text_of : List TurnAnswer → List ℕ) (written : List ℕ → Type 0) (old new : StoreState) (left : Option (List Stamp)) : Type 0 where
  pub ran : RanOver lasts stands m cut turns text_of None written old new left
  pub all : ran.came.later ≡ []

-- What each status says of the turns over a store.
abbrev pub StoreSays : Status → Type 0 → Type 0 → (List ℕ → List Transaction → Type 0) → Moment → Option ℕ → List Turn → Option (List ℕ) → Option (List ℕ) → ℕ → ℕ → StoreState → StoreState → Option (List Stamp) → Type 0
StoreSays status.Done told lasts stands m cut turns taken taken' before now old new left =
    told → RanAllOver lasts stands m cut (flagged turns) answers_text (Appends taken taken') old new left
StoreSays status.NoMemory told lasts stands m cut turns taken taken' before now old new left =
    told → RanOver lasts stands m cut (flagged turns) answers_text None (AppendsPrefix taken taken') old new left ⊎ RanOver lasts stands m cut (flagged turns) answers_text (Some turn_error.Memory) (AppendsPrefix taken taken') old new left
StoreSays status.SinkFault told lasts stands m cut turns taken taken' before now old new left =
    Rose before now × (told → RanOver lasts stands m cut (flagged turns) answers_text None (AppendsPrefix taken taken') old new left)
StoreSays status.StoreFault told lasts stands m cut turns taken taken' before now old new left =
    Rose old.faults new.faults × (told → RanOver lasts stands m cut (flagged turns) answers_text (Some turn_error.StoreFault) (λ text. IsWritten taken taken' before now (text ++ store_fault_line)) old new left)
StoreSays _ told lasts stands m cut turns taken taken' before now old new left = ⊥

-- what is said of a run that stopped: the status comes of the error, and where the store failed that was written
abbrev pub SaysStopped : RunError → Status → Option (List ℕ) → Option (List ℕ) → ℕ → ℕ → Type 0
SaysStopped (errors.Turn turn_error.StoreFault) s old new before now = (s ≡ status.StoreFault) × IsWritten old new before now store_fault_line
SaysStopped (errors.Turn turn_error.Memory) s old new before now = (s ≡ status.NoMemory) × (new ≡ old)
SaysStopped errors.Memory s old new before now = (s ≡ status.NoMemory) × (new ≡ old)
SaysStopped errors.SinkFault s old new before now = (s ≡ status.SinkFault) × (new ≡ old)

-- ---- side by side

-- Clients came so far side by side over a store: their turns were taken in some order, with this text of the answers; no vote was answered Busy.
pub record PlayedOver (lasts : Type 0) (stands : List ℕ → List Transaction → Type 0) (m : Moment) (cut : Option ℕ) (turns : List Turn) (text : List ℕ → List TurnAnswer → List ℕ) (broke : Option TurnError) (written : List ℕ → Type 0) (old new : StoreState) (left : Option (List Stamp)) : Type 0 where
  pub order : List ℕ
  pub lines : List FlaggedTurn
  pub rest : List ClientLeft
  pub is : IsTakenIn (lines_of_each turns) order lines rest
  pub ran : RanOver lasts stands m cut lines (text order) broke written old new left
  pub served : AreServed ran.came.taken ran.came.answers

-- all of them
pub record AllPlayedOver (lasts : Type 0) (stands : List ℕ → List Transaction → Type 0) (m : Moment) (cut : Option ℕ) (turns : List Turn) (written : List ℕ → Type 0) (old new : StoreState) (left : Option (List Stamp)) : Type 0 where
  pub played : PlayedOver lasts stands m cut turns (played_text (openers turns)) None written old new left
  pub all : played.ran.came.later ≡ []
  pub done : are_done played.rest ≡ true

-- what became of a text that was to be written behind all turns
abbrev pub WritesPlayed : Status → Option (List ℕ) → Option (List ℕ) → ℕ → ℕ → List ℕ → Type 0
WritesPlayed status.Done old new before now text = Appends old new text
WritesPlayed status.NoMemory old new before now text = new ≡ old
WritesPlayed status.SinkFault old new before now text = Rose before now × AppendsPrefix old new text
WritesPlayed _ old new before now text = ⊥

-- What is said of clients that were taken to their end, behind these lines: the order and the replies were to be written, or the store failed in a turn, which was told, or there was
-- no memory.
abbrev pub SaysEnded : Option TurnError → Status → Option (List ℕ) → Option (List ℕ) → ℕ → ℕ → List (List ℕ) → List (List ℕ) → List PlayedTurn → Type 0
SaysEnded None s old new before now first names taken = WritesPlayed s old new before now (joined (first ++ played_lines names taken))
SaysEnded (Some turn_error.StoreFault) s old new before now first names taken = (s ≡ status.StoreFault) × IsWritten old new before now (joined first ++ store_fault_line)
SaysEnded (Some turn_error.Memory) s old new before now first names taken = (s ≡ status.NoMemory) × (new ≡ old)

-- What each status says of clients side by side over a store.
abbrev pub PlaySays : Status → Type 0 → Type 0 → (List ℕ → List Transaction → Type 0) → Moment → Option ℕ → List Turn → Option (List ℕ) → Option (List ℕ) → ℕ → ℕ → StoreState → StoreState → Option (List Stamp) → Type 0
PlaySays status.Done told lasts stands m cut turns taken taken' before now old new left =
    told → AllPlayedOver lasts stands m cut turns (Appends taken taken') old new left
PlaySays status.NoMemory told lasts stands m cut turns taken taken' before now old new left =
    told → PlayedOver lasts stands m cut turns no_text None (λ text. taken' ≡ taken) old new left ⊎ PlayedOver lasts stands m cut turns no_text (Some turn_error.Memory) (λ text. taken' ≡ taken) old new left
PlaySays status.SinkFault told lasts stands m cut turns taken taken' before now old new left =
    Rose before now × (told → AllPlayedOver lasts stands m cut turns (AppendsPrefix taken taken') old new left)
PlaySays status.StoreFault told lasts stands m cut turns taken taken' before now old new left =
    Rose old.faults new.faults × (told → PlayedOver lasts stands m cut turns no_text (Some turn_error.StoreFault) (λ text. IsWritten taken taken' before now (text ++ store_fault_line)) old new left)
PlaySays _ told lasts stands m cut turns taken taken' before now old new left = ⊥

-- What each status says of turns over a store, in either manner.
abbrev pub TakenSays : Manner → Status → Type 0 → Type 0 → (List ℕ → List Transaction → Type 0) → Moment → Option ℕ → List Turn → Option (List ℕ) → Option (List ℕ) → ℕ → ℕ → StoreState → StoreState → Option (List Stamp) → Type 0
TakenSays InTurn s told lasts stands m cut turns taken taken' before now old new left =
    StoreSays s told lasts stands m cut turns taken taken' before now old new left
TakenSays SideBySide s told lasts stands m cut turns taken taken' before now old new left =
    PlaySays s told lasts stands m cut turns taken taken' before now old new left
