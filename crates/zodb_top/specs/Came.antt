-- How far a run came. Own.
use Rattle.std.specs.Prelude.{◌≡◌, ◌⊎◌, ℕ, List, [], ◌++◌, Option, Some, None, false}
use Rattle.std.specs.Io.KnownBytes.{Appends}
use Rattle.file_store.specs.Kept.{StandsForList}
use Rattle.zb_ids.specs.declared.stamp.Stamp.{Stamp}
use Rattle.zb_model.specs.declared.data.Transaction.{Transaction}
use Rattle.zb_outside.specs.Written.{AppendsPrefix}
use Rattle.zb_script.specs.declared.line.Turn.{Turn}
use Rattle.zb_volume.specs.declared.areas.Area.TheVariants.{Main}
use Rattle.zb_volume.specs.Disk.{IsSettled}
use Rattle.zb_volume.specs.Moments.{Leaves, LeavesOnly}
use Rattle.client_turns.specs.declared.errors.TurnError.{TurnError}
use Rattle.client_turns.specs.declared.errors.TurnError.TheVariants.{StoreFault}
use Rattle.client_turns.specs.Clients.{Moment}
use Rattle.client_turns.specs.Output.{FlaggedTurn, TurnAnswer, flagged, has_read_fault}
use Rattle.side_by_side.specs.Runs.{stock}
use Rattle.script_runs.specs.Came.{Came, IsMainBy, IsOfCame, answers_text, began}
use Rattle.script_runs.specs.Committed.{HasCommitted}
use Rattle.zodb_top.specs.Opened.{OpensAs}
use Rattle.zodb_top.specs.Outside.{Outside, main_of}
use Rattle.script_runs.specs.Texts.{cut_lines, joined, store_fault_line}
use Rattle.script_runs.specs.Written.{IsWritten}

abbrev pub IsMainOf : Option TurnError → Moment → List FlaggedTurn → Moment → List ℕ → Type 0
IsMainOf broke m later now bytes = IsMainBy StandsForList broke m later now bytes

-- Unless the store failed, no call of the volume has failed but reads, and none of these unless a turn was answered that one did.
abbrev pub CountsLeft : Option TurnError → List TurnAnswer → Outside → Outside → Type 0
CountsLeft (Some StoreFault) answers before after = Unit {0}
CountsLeft _ answers before after = (after.write_faults ≡ before.write_faults) × (has_read_fault answers ≡ false → after.read_faults ≡ before.read_faults)

-- before the first turn the file of a new database may not be there yet
abbrev pub IsOfCameOrEmpty : {m : Moment} {turns : List FlaggedTurn} {broke : Option TurnError} {now : Moment} → List ℕ → Came m turns broke now → List ℕ → Type 0
IsOfCameOrEmpty main c bytes = IsOfCame StandsForList c bytes ⊎ ((main ≡ []) × StandsForList bytes [])

-- nothing of Main is pending
abbrev pub IsCalm : Outside → Type 0
IsCalm before = IsSettled before.log Main

-- The file was opened, where no call failed, the turns came so far over its list, and what was written has this to do with the line of the tail that was cut off
-- and the text of the answers. The clock and the volume's counts are those of the moment. Main stands for its list, as it is and whatever a crash leaves, and that list has each
-- transaction that was answered as committed, or what the packs that were answered since left of it. Whatever a crash at any moment of the call leaves stands for the
-- list at a moment that the run came by.
pub record Reached (turns : List FlaggedTurn) (text_of : List TurnAnswer → List ℕ) (broke : Option TurnError) (written : List ℕ → Type 0) (before after : Outside) : Type 0 where
  pub list : List Transaction
  pub cut : Option ℕ
  pub stamps : Option (List Stamp)
  pub opens : OpensAs (main_of before) before.stamps stamps list cut
  pub now : Moment
  pub came : Came (began list stamps before.read_faults before.write_faults) turns broke now
  pub text : written (joined (cut_lines cut) ++ text_of came.answers)
  pub stamps_left : after.stamps ≡ now.stamps
  pub reads_left : after.read_faults ≡ now.counts.reads
  pub faults_left : after.write_faults ≡ now.counts.others
  pub counts : CountsLeft broke came.answers before after
  pub main : IsMainOf broke came.behind came.later now (main_of after)
  pub images : Leaves Main (IsMainOf broke came.behind came.later now) after.log
  pub acknowledged : HasCommitted stock (began list stamps before.read_faults before.write_faults) came.taken came.answers came.behind
  pub moments : IsCalm before → LeavesOnly Main (IsOfCameOrEmpty (main_of before) came) before.log after.log

-- all turns were answered, and all that was written
pub record RanWhole (turns : List Turn) (before after : Outside) : Type 0 where
  pub reached : Reached (flagged turns) answers_text None (Appends before.taken after.taken) before after
  pub all : reached.came.later ≡ []

-- the run ended early, for the sink or for memory: some prefix of what was answered was written
abbrev pub RanInPart : List Turn → Option TurnError → Outside → Outside → Type 0
RanInPart turns broke before after = Reached (flagged turns) answers_text broke (AppendsPrefix before.taken after.taken) before after

-- the store failed in a turn: all that was answered was written, and then the line that says so
abbrev pub RanToFault : List Turn → Outside → Outside → Type 0
RanToFault turns before after =
    Reached (flagged turns) answers_text (Some StoreFault) (λ text. IsWritten before.taken after.taken before.sink_faults after.sink_faults (text ++ store_fault_line)) before after
