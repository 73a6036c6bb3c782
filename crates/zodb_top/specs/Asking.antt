-- What the code of a command that takes no script says of replies.
use Rattle.std.specs.Prelude.{◌≡◌, ℕ, List, [], ◌∷◌, ◌++◌, Option, Some, None, Result, Ok, Err, IsErrOf, Bool, true, false, map}
use Rattle.std.specs.Io.KnownBytes.{Appends}
use Rattle.zb_base.specs.Counts.{Rose}
use Rattle.zb_ids.specs.declared.stamp.Stamp.{Stamp}
use Rattle.zb_outside.specs.Written.{AppendsPrefix}
use Rattle.zb_model.specs.declared.data.Transaction.{Transaction}
use Rattle.zb_model.specs.declared.refusal.Refusal.{Refusal}
use Rattle.zb_model.specs.declared.refusal.Refusal.TheVariants as refusal
use Rattle.zb_model.specs.Stores.{StoreState}
use Rattle.zb_answers.specs.Lists.{log_text, revision_text}
use Rattle.zb_answers.specs.Objects.{shown_line}
use Rattle.zb_volume.specs.declared.areas.Area.TheVariants.{Main}
use Rattle.zb_volume.specs.Moments.{Leaves}
use Rattle.zodb_core.specs.declared.reply.Reply.{Reply}
use Rattle.zodb_core.specs.declared.reply.Reply.TheVariants as reply
use Rattle.zodb_core.specs.declared.request.Request.{Request}
use Rattle.zodb_core.specs.declared.request.Request.TheVariants as request
use Rattle.zodb_core.specs.HubState.{HubState, StandsForMachine, counts_of}
use Rattle.zodb_core.specs.Machine.{Machine}
use Rattle.zodb_core.specs.Outcomes.{AreLaterCounts}
use Rattle.zodb_core.specs.Steps.{step_of}
use Rattle.zodb_top.specs.declared.asking.AskError.{AskError}
use Rattle.zodb_top.specs.declared.asking.AskError.TheVariants as error
use Rattle.script_runs.specs.declared.status.Status.{Status}
use Rattle.script_runs.specs.declared.status.Status.TheVariants as status
use Rattle.program_words.specs.declared.command.Asked.{Asked}
use Rattle.program_words.specs.declared.command.Asked.TheVariants.{UndoLog, History, Show, Digest, Check}
use Rattle.zodb_top.specs.Asked.{IsSaid, content_of, digested, last_of, shown}
use Rattle.side_by_side.specs.Runs.{stock}
use Rattle.zodb_top.specs.Texts.{digest_line, missing_line, refused_line}
use Rattle.script_runs.specs.Texts.{joined}

-- a request that only reads
abbrev pub only_reads : Request → Bool
only_reads request.Front = true
only_reads (request.LoadBefore oid front) = true
only_reads (request.History oid) = true
only_reads request.UndoLog = true
only_reads _ = false

-- how a refusal ends what was asked, if the reply is one
abbrev pub ask_refusal : Reply → Option AskError
ask_refusal (reply.Refused refusal.ReadFault) = Some error.ReadFault
ask_refusal (reply.Refused why) = Some error.Memory
ask_refusal _ = None

-- how the reply to a load is shown
abbrev pub shown_reply : Reply → List ℕ
shown_reply (reply.Loaded serial bytes end upto) = shown_line serial bytes
shown_reply _ = missing_line

abbrev pub digested_reply : Reply → List ℕ
digested_reply (reply.Loaded serial bytes end upto) = digest_line serial bytes
digested_reply _ = missing_line

-- the lines that a reply gives to what is asked, if it answers that
abbrev pub replied_lines : Asked → Reply → Option (List (List ℕ))
replied_lines UndoLog (reply.UndoLog list) = Some (map log_text list)
replied_lines UndoLog _ = None
replied_lines (History oid) (reply.History list) = Some (map revision_text list)
replied_lines (History oid) _ = None
replied_lines (Show oid) r = Some (shown_reply r ∷ [])
replied_lines (Digest oid) r = Some (digested_reply r ∷ [])
replied_lines (Check oid) r = None

-- a check, which takes more than one reply
abbrev pub is_check : Asked → Bool
is_check (Check oid) = true
is_check _ = false

-- what the reply to a load says that an object has
abbrev pub reply_content : Reply → Option (List ℕ)
reply_content (reply.Loaded serial bytes end upto) = Some bytes
reply_content _ = None

-- A hub that was asked stands for a machine with the same list; its volume and the clock are as they were, and its store hasn't failed.
pub record KeepsList {R F : Type 0} (m : Machine) (old new : HubState R F) (before after : Option (List Stamp)) : Type 0 where
  pub left : Machine
  pub list : left.list ≡ m.list
  pub stands : StandsForMachine new left
  pub log : new.store.log ≡ old.store.log
  pub whole : new.store.broken ≡ false
  pub clock : after ≡ before

-- the store of such a hub
pub record KeepsStore (old new : StoreState) (before after : Option (List Stamp)) : Type 0 where
  pub list : new.list ≡ old.list
  pub log : new.log ≡ old.log
  pub whole : new.broken ≡ false
  pub clock : after ≡ before

-- What is asked of a hub only reads: it keeps the list, where the store tells and hasn't failed; a failed read is answered only where its count rose, and with any
-- other answer no count has moved; that of other faults never moves, and none falls.
pub record AsksOnly {R F A : Type 0} (told : Type 0) (old new : HubState R F) (before after : Option (List Stamp)) (result : Result A AskError) : Type 0 where
  pub keeps : told → (m : Machine) → StandsForMachine old m → old.store.broken ≡ false → KeepsList m old new before after
  pub failed : IsErrOf result error.ReadFault → Rose old.store.read_faults new.store.read_faults
  pub calm : ¬ IsErrOf result error.ReadFault → counts_of new.store ≡ counts_of old.store
  pub others : new.store.faults ≡ old.store.faults
  pub later : AreLaterCounts (counts_of old.store) (counts_of new.store)

-- What is left of a store that was asked, and is handed back: it keeps the list, where it tells, and a crash leaves that; the count of other faults has not moved,
-- and none has fallen.
pub record LeavesStore (told lasts : Type 0) (stands : List ℕ → List Transaction → Type 0) (old new : StoreState) (before after : Option (List Stamp)) : Type 0 where
  pub keeps : told → KeepsStore old new before after
  pub images : lasts → new.broken ≡ false → Leaves Main (λ bytes. stands bytes new.list) new.log
  pub others : new.faults ≡ old.faults
  pub later : AreLaterCounts (counts_of old) (counts_of new)

-- A step that only reads was answered by the machine.
pub record IsStepped (m : Machine) (n : ℕ) (q : Request) (r : Reply) : Type 0 where
  pub stamp : ℕ
  pub is : r ≡ (step_of stock m n q stamp).reply
  pub unrefused : (why : Refusal) → ¬ (r ≡ reply.Refused why)

-- the reply to a load of what an object has last
pub record IsLast (oid : ℕ) (list : List Transaction) (r : Reply) : Type 0 where
  pub shown : shown_reply r ≡ shown (last_of oid list)
  pub digested : digested_reply r ≡ digested (last_of oid list)
  pub content : reply_content r ≡ content_of (last_of oid list)

-- some lines and those of an answer, or the one that says that reading failed, have this to do with what was written
abbrev pub WritesAnswer : (List ℕ → Type 0) → List (List ℕ) → Result (List (List ℕ)) AskError → Type 0
WritesAnswer written first (Ok lines) = written (joined (first ++ lines))
WritesAnswer written first (Err error.ReadFault) = written (joined (first ++ refused_line ∷ []))
WritesAnswer written first (Err error.Memory) = ⊥

-- What each status says of an answer that is written behind some lines.
abbrev pub AnswerSays : Status → List (List ℕ) → Result (List (List ℕ)) AskError → Option (List ℕ) → Option (List ℕ) → ℕ → ℕ → Type 0
AnswerSays status.Done first answer old new before now = WritesAnswer (Appends old new) first answer
AnswerSays status.NoMemory first answer old new before now = (new ≡ old) × (answer ≡ Err error.Memory)
AnswerSays status.SinkFault first answer old new before now = Rose before now × WritesAnswer (AppendsPrefix old new) first answer
AnswerSays _ first answer old new before now = ⊥

-- What each status says of what is asked of a store.
abbrev pub StoreAnswers : Status → Asked → Type 0 → Option ℕ → Option (List ℕ) → Option (List ℕ) → ℕ → ℕ → StoreState → StoreState → Type 0
StoreAnswers status.Done asked told cut taken taken' before now old new =
    (lines : List (List ℕ)) × (told → IsSaid old.list cut asked (Rose old.read_faults new.read_faults) lines) × Appends taken taken' (joined lines)
StoreAnswers status.NoMemory asked told cut taken taken' before now old new = (taken' ≡ taken) × (counts_of new ≡ counts_of old)
StoreAnswers status.SinkFault asked told cut taken taken' before now old new =
    Rose before now × ((lines : List (List ℕ)) × (told → IsSaid old.list cut asked (Rose old.read_faults new.read_faults) lines) × AppendsPrefix taken taken' (joined lines))
StoreAnswers _ asked told cut taken taken' before now old new = ⊥
