-- What the commands that take no script are answered. Own; the lists are those of the storage interfaces of ZODB.
use Rattle.std.specs.Prelude.{◌≡◌, ◌≢◌, ◌⊎◌, ℕ, List, [], ◌∷◌, ◌++◌, Option, Some, None, map}
use Rattle.std.specs.Io.KnownBytes.{Appends}
use Rattle.btree_checking.specs.declared.verdict.Verdict.{Verdict}
use Rattle.btree_checking.specs.Verdicts.{verdict_of}
use Rattle.btree_shapes.specs.Nodes.{objects_of}
use Rattle.file_store.specs.Kept.{StandsForList}
use Rattle.file_store.specs.Opening.{IsNewFile, without_tail}
use Rattle.zb_base.specs.Counts.{Rose}
use Rattle.zb_model.specs.declared.data.Transaction.{Transaction}
use Rattle.zb_model.specs.declared.found.Found.{Found}
use Rattle.zb_model.specs.declared.found.Found.TheVariants as found
use Rattle.zb_model.specs.Lists.{history_of, undo_log_of}
use Rattle.zb_model.specs.Queries.{found_below}
use Rattle.zb_outside.specs.Written.{AppendsPrefix}
use Rattle.zb_answers.specs.Lists.{log_text, revision_text}
use Rattle.zb_answers.specs.Objects.{shown_line}
use Rattle.zb_volume.specs.declared.areas.Area.TheVariants.{Main}
use Rattle.zb_volume.specs.Moments.{Leaves}
use Rattle.zodb_core.specs.Machine.{front_of}
use Rattle.program_words.specs.declared.command.Asked.{Asked}
use Rattle.program_words.specs.declared.command.Asked.TheVariants.{UndoLog, History, Show, Digest, Check}
use Rattle.script_runs.specs.declared.status.Status.{Status}
use Rattle.script_runs.specs.declared.status.Status.TheVariants as status
use Rattle.zodb_top.specs.Opened.{FailedToOpen, IsRefused, IsUnfailed, OpensAs}
use Rattle.zodb_top.specs.Outside.{Outside, main_of}
use Rattle.script_runs.specs.Texts.{cut_lines, joined}
use Rattle.zodb_top.specs.Texts.{digest_line, missing_line, refused_line, verdict_line}

-- a revision is shown by its serial and its record, or by its serial and its record's digest
abbrev pub shown : Found → List ℕ
shown (found.Held serial bytes end) = shown_line serial bytes
shown (found.Absent serial) = missing_line
shown found.Nothing = missing_line

abbrev pub digested : Found → List ℕ
digested (found.Held serial bytes end) = digest_line serial bytes
digested (found.Absent serial) = missing_line
digested found.Nothing = missing_line

-- an object's revision below the tid after the newest
abbrev pub last_of : ℕ → List Transaction → Found
last_of oid list = found_below oid (front_of list) list

-- what a revision has: bytes, where it has some
abbrev pub content_of : Found → Option (List ℕ)
content_of (found.Held serial bytes end) = Some bytes
content_of (found.Absent serial) = None
content_of found.Nothing = None

-- what each object has in its last revision
abbrev pub last_contents : List Transaction → ℕ → Option (List ℕ)
last_contents list oid = content_of (last_of oid list)

-- what a check says of the tree with this root
abbrev pub last_verdict : ℕ → List Transaction → Verdict
last_verdict root list = verdict_of (objects_of (last_contents list) root) root

-- the lines of an answer
abbrev pub lines_of : Asked → List Transaction → List (List ℕ)
lines_of UndoLog list = map log_text (undo_log_of list)
lines_of (History oid) list = map revision_text (history_of oid list)
lines_of (Show oid) list = shown (last_of oid list) ∷ []
lines_of (Digest oid) list = digested (last_of oid list) ∷ []
lines_of (Check oid) list = verdict_line (last_verdict oid list) ∷ []

-- The lines are that of the tail that was cut off, if there was one, and those of the answer; or that a read failed, where `unread` says that one did.
abbrev pub IsSaid : List Transaction → Option ℕ → Asked → Type 0 → List (List ℕ) → Type 0
IsSaid list cut asked unread lines = (lines ≡ cut_lines cut ++ lines_of asked list) ⊎ (unread × (lines ≡ cut_lines cut ++ refused_line ∷ []))

-- The lines are what is said of the list that Main stood for, or of that of a new database where Main was empty; and Main stands for that list, as it is and
-- whatever a crash leaves. Its bytes are what they were, without the tail; where it was empty, the file of a new database.
pub record IsAnswer (asked : Asked) (before after : Outside) (lines : List (List ℕ)) : Type 0 where
  pub list : List Transaction
  pub cut : Option ℕ
  pub opens : OpensAs (main_of before) before.stamps after.stamps list cut
  pub says : IsSaid list cut asked (Rose before.read_faults after.read_faults) lines
  pub bytes : main_of before ≢ [] → main_of after ≡ without_tail (main_of before) cut
  pub new_file : main_of before ≡ [] → IsNewFile before.stamps (main_of after)
  pub main : StandsForList (main_of after) list
  pub images : Leaves Main (λ bytes. StandsForList bytes list) after.log

-- What each status says: its cause, and what was written. `told` says that the volume tells.
abbrev pub AskSays : Status → Asked → Type 0 → Outside → Outside → Type 0
AskSays status.Done asked told before after =
    (lines : List (List ℕ)) × (told → IsAnswer asked before after lines) × Appends before.taken after.taken (joined lines)
AskSays status.NoMemory asked told before after = (after.taken ≡ before.taken) × IsUnfailed before after
AskSays status.SinkFault asked told before after =
    Rose before.sink_faults after.sink_faults × ((lines : List (List ℕ)) × (told → IsAnswer asked before after lines) × AppendsPrefix before.taken after.taken (joined lines))
AskSays status.StoreFault asked told before after = FailedToOpen told before after
AskSays status.Damaged asked told before after = IsRefused told before after
AskSays _ asked told before after = ⊥
