-- What the command `pack` is answered, and what it leaves. Source: `pack` of ZODB's FileStorage; that it is one step is own.
use Rattle.std.specs.Prelude.{◌≡◌, ◌⊎◌, ℕ, List, [], ◌∷◌, ◌++◌, Option, Bool, true, false}
use Rattle.std.specs.Io.KnownBytes.{Appends}
use Rattle.file_store.specs.Kept.{StandsForList}
use Rattle.zb_base.specs.Counts.{Rose}
use Rattle.zb_model.specs.declared.data.Transaction.{Transaction}
use Rattle.zb_outside.specs.Written.{AppendsPrefix}
use Rattle.zb_answers.specs.declared.answer.Answer.TheVariants as answer
use Rattle.zb_answers.specs.Answers.{answer_text}
use Rattle.zb_volume.specs.declared.areas.Area.TheVariants.{Main}
use Rattle.zb_volume.specs.Moments.{Leaves, LeavesOnly}
use Rattle.zodb_core.specs.declared.reply.Reply.{Reply}
use Rattle.zodb_core.specs.declared.reply.Reply.TheVariants as reply
use Rattle.zodb_core.specs.declared.request.Request.TheVariants as request
use Rattle.zodb_core.specs.HubState.{IsCauseOf}
use Rattle.zodb_core.specs.Machine.{machine_over, with_session}
use Rattle.zodb_core.specs.Outcomes.{Answered, ReadingFailed, StepOutcome, StoreFailed, outcome_of}
use Rattle.zodb_core.specs.Steps.{Stepped, step_of}
use Rattle.program_words.specs.declared.command.PackRequest.{PackRequest}
use Rattle.script_runs.specs.declared.status.Status.{Status}
use Rattle.script_runs.specs.declared.status.Status.TheVariants as status
use Rattle.side_by_side.specs.Runs.{stock}
use Rattle.zodb_top.specs.Came.{IsCalm}
use Rattle.zodb_top.specs.Opened.{FailedToOpen, IsLeft, IsRefused, IsUnfailed, OpensAs}
use Rattle.zodb_top.specs.Outside.{Outside, main_of}
use Rattle.script_runs.specs.Texts.{cut_lines, joined, line, store_fault_line}
use Rattle.script_runs.specs.Written.{IsWritten}

-- what the machine makes of such a pack of a list, which reads no clock
abbrev pub pack_made : PackRequest → List Transaction → Stepped
pack_made pack list = step_of stock (with_session (machine_over list)) 0 (request.Pack pack.tid pack.collect) 0

-- the list packed so, or as it is where that is refused
abbrev pub packed_list : PackRequest → List Transaction → List Transaction
packed_list pack list = (pack_made pack list).machine.list

-- bytes stand for the list, or for the packed one
abbrev pub IsListOrPacked : (List ℕ → List Transaction → Type 0) → PackRequest → List Transaction → List ℕ → Type 0
IsListOrPacked stands pack list bytes = stands bytes list ⊎ stands bytes (packed_list pack list)

-- the line that a reply is written as
abbrev pub reply_line : Reply → List ℕ
reply_line (reply.Packed kept dropped) = line (answer_text (answer.Packed kept dropped))
reply_line (reply.Refused why) = line (answer_text (answer.Refused why))
reply_line _ = []

-- the step was made, or reading failed in it: then its reply is written
abbrev pub is_told : StepOutcome → Bool
is_told Answered = true
is_told ReadingFailed = true
is_told _ = false

-- How a pack ended: as the machine makes it, or it wasn't made, and just a count of faults rose.
abbrev pub IsReplyTo : PackRequest → List Transaction → Reply → StepOutcome → Type 0
IsReplyTo pack list r Answered = r ≡ (pack_made pack list).reply
IsReplyTo pack list r _ = Unit {0}

-- bytes stand for what is left: where the store failed, for the list or the packed one
abbrev pub IsLeftBy : (List ℕ → List Transaction → Type 0) → PackRequest → List Transaction → StepOutcome → List ℕ → Type 0
IsLeftBy stands pack list Answered bytes = stands bytes (packed_list pack list)
IsLeftBy stands pack list StoreFailed bytes = IsListOrPacked stands pack list bytes
IsLeftBy stands pack list _ bytes = stands bytes list

-- before the pack the file of a new database may not be there yet
abbrev pub IsOfPack : List ℕ → PackRequest → List Transaction → List ℕ → Type 0
IsOfPack main pack list bytes = IsListOrPacked StandsForList pack list bytes ⊎ ((main ≡ []) × StandsForList bytes [])

-- The file was opened, where no call failed, and its list was packed or not, as the reply says. What was written has this to do with the line of the tail that
-- was cut off and with the reply. Main stands for what is left, as it is and whatever a crash leaves. Whatever a crash at any moment of the call leaves stands for
-- the list or for the packed one.
pub record IsPacked (pack : PackRequest) (says : Reply → List (List ℕ) → Type 0) (before after : Outside) : Type 0 where
  pub list : List Transaction
  pub cut : Option ℕ
  pub opens : OpensAs (main_of before) before.stamps after.stamps list cut
  pub reply : Reply
  pub made : IsReplyTo pack list reply (outcome_of reply)
  pub cause : IsCauseOf (record { reads = before.read_faults; others = before.write_faults }) (record { reads = after.read_faults; others = after.write_faults }) (outcome_of reply)
  pub says_so : says reply (cut_lines cut)
  pub main : IsLeftBy StandsForList pack list (outcome_of reply) (main_of after)
  pub images : Leaves Main (IsLeftBy StandsForList pack list (outcome_of reply)) after.log
  pub moments : IsCalm before → LeavesOnly Main (IsOfPack (main_of before) pack list) before.log after.log

-- What each status says of a reply and of what was written of it behind some lines.
abbrev pub ReplySays : Status → Option (List ℕ) → Option (List ℕ) → ℕ → ℕ → Reply → List (List ℕ) → Type 0
ReplySays status.Done old new before now r lines = (is_told (outcome_of r) ≡ true) × Appends old new (joined (lines ++ reply_line r ∷ []))
ReplySays status.NoMemory old new before now r lines = (¬ (outcome_of r ≡ StoreFailed)) × (new ≡ old)
ReplySays status.SinkFault old new before now r lines = Rose before now × (is_told (outcome_of r) ≡ true) × AppendsPrefix old new (joined (lines ++ reply_line r ∷ []))
ReplySays status.StoreFault old new before now r lines = (outcome_of r ≡ StoreFailed) × IsWritten old new before now (joined lines ++ store_fault_line)
ReplySays _ old new before now r lines = ⊥

-- a pack of the file in Main, with this status
abbrev pub PacksAs : Status → PackRequest → Outside → Outside → Type 0
PacksAs s pack before after = IsPacked pack (ReplySays s before.taken after.taken before.sink_faults after.sink_faults) before after

-- What each status of `pack` says: its cause, what was written, and what Main stands for. `told` says that the volume tells.
abbrev pub PackSays : Status → PackRequest → Type 0 → Outside → Outside → Type 0
PackSays status.Done pack told before after = told → PacksAs status.Done pack before after
PackSays status.NoMemory pack told before after = (after.taken ≡ before.taken) × ((IsLeft told before after × IsUnfailed before after) ⊎ (told → PacksAs status.NoMemory pack before after))
PackSays status.SinkFault pack told before after = Rose before.sink_faults after.sink_faults × (told → PacksAs status.SinkFault pack before after)
PackSays status.StoreFault pack told before after = FailedToOpen told before after ⊎ (Rose before.write_faults after.write_faults × (told → PacksAs status.StoreFault pack before after))
PackSays status.Damaged pack told before after = IsRefused told before after
PackSays _ pack told before after = ⊥
