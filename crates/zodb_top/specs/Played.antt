-- How far clients came side by side over the file, and what each manner of taking turns leaves with a status. Own.
use Rattle.std.specs.Prelude.{◌≡◌, ◌⊎◌, ℕ, List, [], ◌++◌, Option, Some, None, true}
use Rattle.std.specs.Io.KnownBytes.{Appends}
use Rattle.zb_outside.specs.Written.{AppendsPrefix}
use Rattle.zb_script.specs.declared.line.Turn.{Turn}
use Rattle.zb_script.specs.Shape.{openers}
use Rattle.client_turns.specs.declared.errors.TurnError.{TurnError}
use Rattle.client_turns.specs.declared.errors.TurnError.TheVariants as turn_error
use Rattle.client_turns.specs.Output.{FlaggedTurn, TurnAnswer}
use Rattle.side_by_side.specs.Orders.{ClientLeft, IsTakenIn, are_done, lines_of_each}
use Rattle.side_by_side.specs.Plays.{AreServed}
use Rattle.script_runs.specs.declared.manner.Manner.{Manner}
use Rattle.script_runs.specs.declared.manner.Manner.TheVariants.{InTurn, SideBySide}
use Rattle.zodb_top.specs.Came.{RanInPart, RanToFault, RanWhole, Reached}
use Rattle.zodb_top.specs.Outside.{Outside}
use Rattle.script_runs.specs.Played.{no_text, played_text}
use Rattle.script_runs.specs.Texts.{store_fault_line}
use Rattle.script_runs.specs.Written.{IsWritten}

-- ---- side by side

-- The turns of the clients were taken in some order, each client's in its own, and came so far, with this text of the answers; no vote was answered Busy.
pub record Played (turns : List Turn) (text : List ℕ → List TurnAnswer → List ℕ) (broke : Option TurnError) (written : List ℕ → Type 0) (before after : Outside) : Type 0 where
  pub order : List ℕ
  pub lines : List FlaggedTurn
  pub rest : List ClientLeft
  pub is : IsTakenIn (lines_of_each turns) order lines rest
  pub reached : Reached lines (text order) broke written before after
  pub served : AreServed reached.came.taken reached.came.answers

-- All turns were answered: the order that is written is one of the script, and the replies are those of that order.
pub record AllPlayed (turns : List Turn) (written : List ℕ → Type 0) (before after : Outside) : Type 0 where
  pub played : Played turns (played_text (openers turns)) None written before after
  pub all : played.reached.came.later ≡ []
  pub done : are_done played.rest ≡ true

-- there was no memory, before the first turn, in a turn, or for the text: nothing was written
abbrev pub PlayedSilently : List Turn → Option TurnError → Outside → Outside → Type 0
PlayedSilently turns broke before after = Played turns no_text broke (λ text. after.taken ≡ before.taken) before after

-- the store failed in a turn: the line that says so was written, behind that of a tail that was cut off
abbrev pub PlayedToFault : List Turn → Outside → Outside → Type 0
PlayedToFault turns before after =
    Played turns no_text (Some turn_error.StoreFault) (λ text. IsWritten before.taken after.taken before.sink_faults after.sink_faults (text ++ store_fault_line)) before after

-- ---- either manner

-- all turns were answered, and all that was written
abbrev pub IsWhole : Manner → List Turn → Outside → Outside → Type 0
IsWhole InTurn turns before after = RanWhole turns before after
IsWhole SideBySide turns before after = AllPlayed turns (Appends before.taken after.taken) before after

-- there was no memory
abbrev pub IsStarved : Manner → List Turn → Outside → Outside → Type 0
IsStarved InTurn turns before after = RanInPart turns None before after ⊎ RanInPart turns (Some turn_error.Memory) before after
IsStarved SideBySide turns before after = PlayedSilently turns None before after ⊎ PlayedSilently turns (Some turn_error.Memory) before after

-- the sink failed: a prefix of what was to be written was
abbrev pub IsCutShort : Manner → List Turn → Outside → Outside → Type 0
IsCutShort InTurn turns before after = RanInPart turns None before after
IsCutShort SideBySide turns before after = AllPlayed turns (AppendsPrefix before.taken after.taken) before after

-- the store failed in a turn
abbrev pub IsFaulted : Manner → List Turn → Outside → Outside → Type 0
IsFaulted InTurn turns before after = RanToFault turns before after
IsFaulted SideBySide turns before after = PlayedToFault turns before after
