-- How far a script came that is made from a number, and what the statuses say of `gen`. Own.
use Rattle.std.specs.Prelude.{◌≡◌, ◌⊎◌, ℕ, List, [], ◌++◌, Option, Some, None}
use Rattle.std.specs.Io.KnownBytes.{Appends}
use Rattle.zb_base.specs.Counts.{Rose}
use Rattle.zb_outside.specs.Written.{AppendsPrefix}
use Rattle.client_turns.specs.declared.errors.TurnError.{TurnError}
use Rattle.client_turns.specs.declared.errors.TurnError.TheVariants as turn_error
use Rattle.client_turns.specs.Output.{FlaggedTurn, TurnAnswer}
use Rattle.gen_script.specs.declared.line.GenLine.{GenLine}
use Rattle.gen_script.specs.Script.{gen_lines}
use Rattle.script_runs.specs.declared.status.Status.{Status}
use Rattle.script_runs.specs.declared.status.Status.TheVariants as status
use Rattle.script_runs.specs.Made.{AreTurnsOf, IsLastLine, untold}
use Rattle.script_runs.specs.Texts.{store_fault_line}
use Rattle.script_runs.specs.Written.{IsWritten}
use Rattle.zodb_top.specs.Came.{Reached}
use Rattle.zodb_top.specs.Opened.{FailedToOpen, IsLeft, IsRefused, IsUnfailed}
use Rattle.zodb_top.specs.Outside.{Outside}

-- The script of so many rounds came so far over the file: these of its turns were made, and `rest` are the lines behind them.
pub record Made (rounds : ℕ) (text_of : List TurnAnswer → List ℕ) (broke : Option TurnError) (written : List ℕ → Type 0) (before after : Outside) : Type 0 where
  pub turns : List FlaggedTurn
  pub rest : List GenLine
  pub are : AreTurnsOf (gen_lines rounds) turns rest
  pub reached : Reached turns text_of broke written before after

-- All turns of the script were answered, and then the last line was to be written. `reads` is the count of failed reads behind the turns; nothing else has changed since.
pub record AllMade (rounds : ℕ) (written : List ℕ → Type 0) (before after : Outside) : Type 0 where
  pub text : List ℕ
  pub reads : ℕ
  pub made : Made rounds (λ answers. text) None written before (record after { read_faults = reads })
  pub all : made.reached.came.later ≡ []
  pub whole : made.rest ≡ []
  pub says : IsLastLine rounds made.reached.came.answers made.reached.now.machine.list reads after.read_faults text

-- the run ended early: nothing was written, but for the line of a tail that was cut off, or a prefix of that
abbrev pub MadeInPart : ℕ → Option TurnError → Outside → Outside → Type 0
MadeInPart rounds broke before after = Made rounds untold broke (AppendsPrefix before.taken after.taken) before after

-- the store failed in a turn: the line that says so was written, behind that of a tail that was cut off
abbrev pub MadeToFault : ℕ → Outside → Outside → Type 0
MadeToFault rounds before after =
    Made rounds untold (Some turn_error.StoreFault) (λ text. IsWritten before.taken after.taken before.sink_faults after.sink_faults (text ++ store_fault_line)) before after

-- What each status of `gen` says: its cause, what was written, and what Main stands for. `told` says that the volume tells.
abbrev pub GenSays : Status → ℕ → Type 0 → Outside → Outside → Type 0
GenSays status.Done rounds told before after = told → AllMade rounds (Appends before.taken after.taken) before after
GenSays status.NoMemory rounds told before after =
    ((after.taken ≡ before.taken) × IsLeft told before after × IsUnfailed before after)
    ⊎ (told → MadeInPart rounds None before after ⊎ MadeInPart rounds (Some turn_error.Memory) before after)
GenSays status.SinkFault rounds told before after =
    Rose before.sink_faults after.sink_faults × (told → MadeInPart rounds None before after ⊎ AllMade rounds (AppendsPrefix before.taken after.taken) before after)
GenSays status.StoreFault rounds told before after =
    FailedToOpen told before after ⊎ (Rose before.write_faults after.write_faults × (told → MadeToFault rounds before after))
GenSays status.Damaged rounds told before after = IsRefused told before after
GenSays _ rounds told before after = ⊥
