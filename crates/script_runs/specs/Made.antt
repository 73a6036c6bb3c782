-- A script that is made, over a store. Own.
use Rattle.std.specs.Prelude.{◌≡◌, ◌⊎◌, ℕ, List, [], ◌∷◌, ◌++◌, Option, Some, None, false, length}
use Rattle.std.specs.Io.KnownBytes.{Appends}
use Rattle.std.specs.FinSet.{len}
use Rattle.zb_base.specs.Counts.{Rose}
use Rattle.zb_ids.specs.declared.stamp.Stamp.{Stamp}
use Rattle.zb_model.specs.declared.data.Transaction.{Transaction}
use Rattle.zb_model.specs.Stores.{StoreState}
use Rattle.zb_outside.specs.Written.{AppendsPrefix}
use Rattle.zb_volume.specs.declared.areas.Area.TheVariants.{Main}
use Rattle.zb_volume.specs.Calls.{Event}
use Rattle.zb_volume.specs.Moments.{Leaves, LeavesOnly}
use Rattle.client_turns.specs.declared.errors.TurnError.{TurnError}
use Rattle.client_turns.specs.declared.errors.TurnError.TheVariants as turn_error
use Rattle.client_turns.specs.Clients.{Moment}
use Rattle.client_turns.specs.Output.{FlaggedTurn, Out, TurnAnswer}
use Rattle.client_turns.specs.Standing.{ClientsState, StandsForMoment}
use Rattle.side_by_side.specs.Plays.{EndsSo}
use Rattle.side_by_side.specs.Runs.{IsListNext, IsOfRun, stock}
use Rattle.gen_script.specs.declared.line.GenLine.{GenLine}
use Rattle.gen_script.specs.Script.{IsTurnOf, gen_lines, is_last_before}
use Rattle.script_runs.specs.declared.status.Status.{Status}
use Rattle.script_runs.specs.declared.status.Status.TheVariants as status
use Rattle.script_runs.specs.declared.tally.Tally.{Tally}
use Rattle.script_runs.specs.Running.{RanOver}
use Rattle.script_runs.specs.Summary.{count_of, held_objects, is_commit, is_conflicted, is_refused, numbers_line, summary_line, unread_line}
use Rattle.script_runs.specs.Texts.{store_fault_line}
use Rattle.script_runs.specs.Written.{IsWritten}

-- ---- turns of a script that is made

-- the turns of the first of these lines, each with whether it is its client's last, and the lines behind them
abbrev pub AreTurnsOf : List GenLine → List FlaggedTurn → List GenLine → Type 0
AreTurnsOf lines [] rest = rest ≡ lines
AreTurnsOf [] (t ∷ turns) rest = ⊥
AreTurnsOf (l ∷ lines) (t ∷ turns) rest = IsTurnOf l t.turn × (t.is_last ≡ is_last_before l.client lines) × AreTurnsOf lines turns rest

-- no text of the answers
abbrev pub untold : List TurnAnswer → List ℕ
untold answers = []

-- ---- over a store

-- The script of so many rounds came so far over a store: these of its turns were made, and `rest` are the lines behind them.
pub record MadeOver (lasts : Type 0) (stands : List ℕ → List Transaction → Type 0) (m : Moment) (cut : Option ℕ) (rounds : ℕ) (text_of : List TurnAnswer → List ℕ) (broke : Option TurnError) (written : List ℕ → Type 0) (old new : StoreState) (left : Option (List Stamp)) : Type 0 where
  pub turns : List FlaggedTurn
  pub rest : List GenLine
  pub are : AreTurnsOf (gen_lines rounds) turns rest
  pub ran : RanOver lasts stands m cut turns text_of broke written old new left

-- The last line: the summary, where no read failed behind the turns, or that one did. `before` and `now` are the counts of failed reads behind the turns and now.
abbrev pub IsLastLine : ℕ → List TurnAnswer → List Transaction → ℕ → ℕ → List ℕ → Type 0
IsLastLine rounds answers list before now text = ((now ≡ before) × (text ≡ summary_line rounds answers list)) ⊎ (Rose before now × (text ≡ unread_line))

-- All turns of the script were answered, and then the last line was to be written. `reads` is the count of failed reads behind the turns; nothing else has changed since.
pub record AllMadeOver (lasts : Type 0) (stands : List ℕ → List Transaction → Type 0) (m : Moment) (cut : Option ℕ) (rounds : ℕ) (written : List ℕ → Type 0) (old new : StoreState) (left : Option (List Stamp)) : Type 0 where
  pub text : List ℕ
  pub reads : ℕ
  pub made : MadeOver lasts stands m cut rounds (λ answers. text) None written old (record new { read_faults = reads }) left
  pub all : made.ran.came.later ≡ []
  pub whole : made.rest ≡ []
  pub says : IsLastLine rounds made.ran.came.answers made.ran.now.machine.list reads new.read_faults text

-- What each status says of the script of so many rounds over a store.
abbrev pub MadeSays : Status → Type 0 → Type 0 → (List ℕ → List Transaction → Type 0) → Moment → Option ℕ → ℕ → Option (List ℕ) → Option (List ℕ) → ℕ → ℕ → StoreState → StoreState → Option (List Stamp) → Type 0
MadeSays status.Done told lasts stands m cut rounds taken taken' before now old new left =
    told → AllMadeOver lasts stands m cut rounds (Appends taken taken') old new left
MadeSays status.NoMemory told lasts stands m cut rounds taken taken' before now old new left =
    told → MadeOver lasts stands m cut rounds untold None (AppendsPrefix taken taken') old new left ⊎ MadeOver lasts stands m cut rounds untold (Some turn_error.Memory) (AppendsPrefix taken taken') old new left
MadeSays status.SinkFault told lasts stands m cut rounds taken taken' before now old new left =
    Rose before now × (told → MadeOver lasts stands m cut rounds untold None (AppendsPrefix taken taken') old new left ⊎ AllMadeOver lasts stands m cut rounds (AppendsPrefix taken taken') old new left)
MadeSays status.StoreFault told lasts stands m cut rounds taken taken' before now old new left =
    Rose old.faults new.faults × (told → MadeOver lasts stands m cut rounds untold (Some turn_error.StoreFault) (λ text. IsWritten taken taken' before now (text ++ store_fault_line)) old new left)
MadeSays _ told lasts stands m cut rounds taken taken' before now old new left = ⊥

-- ---- over clients

-- what was counted of the replies
abbrev pub tally_of : List TurnAnswer → Tally
tally_of answers = record { committed = count_of is_commit answers; conflicts = count_of is_conflicted answers; refused = count_of is_refused answers }

-- Turns were taken from a moment on, and answered; the clients stand for the moment behind them, and the store hasn't failed. `log` is the volume's log at first.
pub record MadeSoFar {R F : Type 0} (lasts : Type 0) (stands : List ℕ → List Transaction → Type 0) (m : Moment) (lines rest : List GenLine) (tally : Tally) (log : List Event) (clients : ClientsState R F) (left : Option (List Stamp)) : Type 0 where
  pub now : Moment
  pub taken : List FlaggedTurn
  pub are : AreTurnsOf lines taken rest
  pub answers : List TurnAnswer
  pub answered : Out stock m taken answers now
  pub counted : tally ≡ tally_of answers
  pub stands_for : StandsForMoment clients left now
  pub whole : now.machine.failed ≡ false
  pub moments : lasts → LeavesOnly Main (IsOfRun stands m taken [] answers now) log clients.hub.store.log

-- The run ended early: some first turns were answered, and the next one broke off, or couldn't be made.
pub record MadeInPart {R F : Type 0} (lasts : Type 0) (stands : List ℕ → List Transaction → Type 0) (broke : Option TurnError) (m : Moment) (lines : List GenLine) (log : List Event) (clients : ClientsState R F) (left : Option (List Stamp)) : Type 0 where
  pub now : Moment
  pub taken : List FlaggedTurn
  pub broken : List FlaggedTurn
  pub rest : List GenLine
  pub are : AreTurnsOf lines (taken ++ broken) rest
  pub answers : List TurnAnswer
  pub behind : Moment
  pub answered : Out stock m taken answers behind
  pub ends : EndsSo behind broken broke now
  pub stands_for : StandsForMoment clients left now
  pub around : broke ≡ Some turn_error.StoreFault → lasts → Leaves Main (IsListNext stands behind broken) clients.hub.store.log
  pub moments : lasts → LeavesOnly Main (IsOfRun stands m taken broken answers behind) log clients.hub.store.log

-- for want of memory, before a turn or in it, or for a store that failed
abbrev pub MadeUntil : {R F : Type 0} → Type 0 → (List ℕ → List Transaction → Type 0) → TurnError → Moment → List GenLine → List Event → ClientsState R F → Option (List Stamp) → Type 0
MadeUntil lasts stands turn_error.Memory m lines log clients left = MadeInPart lasts stands None m lines log clients left ⊎ MadeInPart lasts stands (Some turn_error.Memory) m lines log clients left
MadeUntil lasts stands turn_error.StoreFault m lines log clients left = MadeInPart lasts stands (Some turn_error.StoreFault) m lines log clients left

-- ---- the last line

-- what the last line is, by what was counted of the replies; `told` says that the store tells
abbrev pub IsLastOf : Type 0 → ℕ → Tally → List Transaction → ℕ → ℕ → List ℕ → Type 0
IsLastOf told rounds tally list before now text =
    ((now ≡ before) × (told → text ≡ numbers_line rounds tally.committed tally.conflicts tally.refused (length list) (len (held_objects list)))) ⊎ (Rose before now × (text ≡ unread_line))

-- what each status says of it
abbrev pub SaysLast : Status → Type 0 → ℕ → Tally → StoreState → StoreState → Option (List ℕ) → Option (List ℕ) → ℕ → ℕ → Type 0
SaysLast status.Done told rounds tally old new taken taken' before now = (text : List ℕ) × IsLastOf told rounds tally old.list old.read_faults new.read_faults text × Appends taken taken' text
SaysLast status.NoMemory told rounds tally old new taken taken' before now = (taken' ≡ taken) × (new.read_faults ≡ old.read_faults)
SaysLast status.SinkFault told rounds tally old new taken taken' before now =
    Rose before now × ((text : List ℕ) × IsLastOf told rounds tally old.list old.read_faults new.read_faults text × AppendsPrefix taken taken' text)
SaysLast _ told rounds tally old new taken taken' before now = ⊥

-- what became of a text that was to be written
abbrev pub WritesLast : Status → Option (List ℕ) → Option (List ℕ) → ℕ → ℕ → List ℕ → Type 0
WritesLast status.Done old new before now text = Appends old new text
WritesLast status.SinkFault old new before now text = Rose before now × AppendsPrefix old new text
WritesLast _ old new before now text = ⊥
