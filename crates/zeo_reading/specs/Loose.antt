-- Messages read loosely: what stands where a row has a field, whatever else stands there. Own.
use Rattle.std.specs.Prelude.{ℕ, ◌-◌, Bool, true, false, ◌&&◌, ◌||◌, ◌==◌, List, Option, Some, None, length, take, codes, if◌then◌else◌}
use Rattle.std.specs.Str.{bytes_eq}
use Rattle.zb_model.specs.declared.lists.LogLine.{LogLine}
use Rattle.zb_model.specs.declared.lists.Revision.{Revision}
use Rattle.zb_model.specs.declared.news.NewsCommit.{NewsCommit}
use Rattle.zb_model.specs.declared.refusal.Refusal.{Refusal}
use Rattle.zb_model.specs.declared.refusal.Refusal.TheVariants as refusals
use Rattle.zb_model.specs.declared.refusal.Why.{Why}
use Rattle.zb_model.specs.declared.refusal.Why.TheVariants as why
use Rattle.std.specs.Option.{option_map}
use Rattle.zeo_values.specs.Leaves.{behind, behind_bytes, behind_count, behind_ids, behind_maybe_count, behind_maybe_id, behind_name, bytes_in, count_in, id_in, ids_at, ids_in, items_in, maybe_count_in, maybe_id_in, name_in, read_items, small, truth_in}
use Rattle.zeo_values.specs.Values.{byte_in}
use Rattle.zeo_messages.specs.declared.answer.Answer.{Answer}
use Rattle.zeo_messages.specs.declared.answer.Answer.TheVariants as answers
use Rattle.zeo_messages.specs.declared.answer.Stage.{Stage}
use Rattle.zeo_messages.specs.declared.answer.Stage.TheVariants as stages
use Rattle.zeo_messages.specs.declared.call.Call.{Call}
use Rattle.zeo_messages.specs.declared.call.Call.TheVariants as calls
use Rattle.zeo_messages.specs.declared.message.Message.{Message}
use Rattle.zeo_messages.specs.declared.message.Message.TheVariants.{Asked, Answered, Told}
use Rattle.zeo_messages.specs.declared.message.Notice.{Notice}
use Rattle.zeo_messages.specs.declared.message.Notice.TheVariants as notices

-- ---- items of lists

-- a revision, behind its mark
abbrev pub user_of_revision : List ℕ → List ℕ
user_of_revision bytes = behind_maybe_count (behind 11 bytes)

abbrev pub revision_in : List ℕ → Revision
revision_in bytes = record {
  tid = id_in (behind 1 bytes);
  size = maybe_count_in (behind 11 bytes);
  user = bytes_in (user_of_revision bytes);
  description = bytes_in (behind_bytes (user_of_revision bytes));
}

abbrev pub behind_revision : List ℕ → List ℕ
behind_revision bytes = behind 1 (behind_bytes (behind_bytes (user_of_revision bytes)))

abbrev pub line_in : List ℕ → LogLine
line_in bytes = record { tid = id_in bytes; user = bytes_in (behind 10 bytes); description = bytes_in (behind_bytes (behind 10 bytes)) }

abbrev pub behind_line : List ℕ → List ℕ
behind_line bytes = behind 1 (behind_bytes (behind_bytes (behind 10 bytes)))

abbrev pub commit_in : List ℕ → NewsCommit
commit_in bytes = record { tid = id_in bytes; oids = ids_in (behind 10 bytes) }

abbrev pub behind_commit : List ℕ → List ℕ
behind_commit bytes = behind 1 (behind_ids (behind 10 bytes))

-- the items of lists, from the first on
abbrev pub revisions_at : List ℕ → List Revision
revisions_at bytes = read_items 0x28 revision_in behind_revision (length bytes) bytes

abbrev pub lines_at : List ℕ → List LogLine
lines_at bytes = read_items 0x43 line_in behind_line (length bytes) bytes

abbrev pub commits_at : List ℕ → List NewsCommit
commits_at bytes = read_items 0x43 commit_in behind_commit (length bytes) bytes

-- ---- calls

abbrev pub triple_in : (List ℕ → List ℕ → List ℕ → Call) → List ℕ → Call
triple_in form rest = form (bytes_in rest) (bytes_in (behind_bytes rest)) (bytes_in (behind_bytes (behind_bytes rest)))

-- calls without an argument
abbrev pub bare_call : List ℕ → Option Call
bare_call name =
    if bytes_eq name (codes "vote") then Some calls.Vote
    else if bytes_eq name (codes "tpc_finish") then Some calls.TpcFinish
    else if bytes_eq name (codes "tpc_abort") then Some calls.TpcAbort
    else if bytes_eq name (codes "undoInfo") then Some calls.UndoInfo
    else if bytes_eq name (codes "packTurn") then Some calls.PackTurn
    else if bytes_eq name (codes "sync") then Some calls.Sync
    else if bytes_eq name (codes "lastTransaction") then Some calls.LastTransaction else None

-- calls of one object or of one transaction
abbrev pub single_call : List ℕ → ℕ → Option Call
single_call name id =
    if bytes_eq name (codes "history") then Some (calls.History id)
    else if bytes_eq name (codes "pack") then Some (calls.Pack id true)
    else if bytes_eq name (codes "packNoGc") then Some (calls.Pack id false)
    else if bytes_eq name (codes "packBegin") then Some (calls.PackBegin id true)
    else if bytes_eq name (codes "packBeginNoGc") then Some (calls.PackBegin id false) else None

-- calls of an object and a transaction
abbrev pub double_call : List ℕ → ℕ → ℕ → Option Call
double_call name oid tid =
    if bytes_eq name (codes "loadBefore") then Some (calls.LoadBefore oid tid)
    else if bytes_eq name (codes "checkCurrentSerialInTransaction") then Some (calls.CheckCurrentSerial oid tid)
    else if bytes_eq name (codes "deleteObject") then Some (calls.DeleteObject oid tid) else None

-- calls with bytes
abbrev pub long_call : List ℕ → List ℕ → Option Call
long_call name rest =
    if bytes_eq name (codes "storea") then Some (calls.Storea (id_in rest) (id_in (behind 10 rest)) (bytes_in (behind 20 rest)))
    else if bytes_eq name (codes "tpc_begin") then Some (calls.TpcBegin (bytes_in rest) (bytes_in (behind_bytes rest)) (bytes_in (behind_bytes (behind_bytes rest))))
    else if bytes_eq name (codes "undoa") then Some (calls.Undoa (bytes_in rest) (bytes_in (behind_bytes rest)) (ids_in (behind_bytes (behind_bytes rest)))) else None

-- calls with numbers
abbrev pub counting_call : List ℕ → List ℕ → Option Call
counting_call name rest =
    if bytes_eq name (codes "register") then Some (calls.Register (byte_in 5 rest == 50))
    else if bytes_eq name (codes "new_oids") then Some (calls.NewOids (small (count_in rest)))
    else if bytes_eq name (codes "getInvalidations") then Some (calls.GetInvalidations (id_in rest) (count_in (behind 10 rest))) else None

-- the first of two that stands
abbrev pub or_else : {T : Type 0} → Option T → Option T → Option T
or_else (Some x) other = Some x
or_else None other = other

abbrev pub short_call : List ℕ → List ℕ → Option Call
short_call name rest =
    or_else (double_call name (id_in rest) (id_in (behind 10 rest)))
    (or_else (bare_call name) (or_else (single_call name (id_in rest)) (counting_call name rest)))

abbrev pub call_in : List ℕ → List ℕ → Option Call
call_in name rest = or_else (long_call name rest) (short_call name rest)

-- ---- answers

-- what the list behind a mark, or without one, is of
abbrev pub is_line_list : List ℕ → Bool
is_line_list first =
    (byte_in 0 (behind_bytes first) == 0x43 || byte_in 0 (behind_bytes first) == 0x42) && byte_in 0 (behind_bytes (behind_bytes first)) == 0x87

abbrev pub lines_or_oids : Bool → List ℕ → Answer
lines_or_oids true items = answers.LogLines (lines_at items)
lines_or_oids false items = answers.Oids (ids_at items)

abbrev pub is_size : ℕ → Bool
is_size byte = byte == 0x4b || (byte == 0x4d || (byte == 0x4a || (byte == 0x8a || byte == 0x4e)))

-- by what stands behind the first number
abbrev pub list_by : ℕ → List ℕ → List ℕ → Answer
list_by next bytes items =
    if next == 0x61 then answers.Oids (ids_at items)
    else if next == 0x5d then answers.Commits (commits_at items)
    else if is_size next then answers.Revisions (revisions_at (behind 1 bytes))
    else lines_or_oids (next == 0x42 || is_line_list (behind 10 items)) items

abbrev pub list_in : List ℕ → Answer
list_in bytes =
    if byte_in 1 bytes == 0x74 then answers.EmptyList
    else if byte_in 0 (items_in bytes) == 0x43 then list_by (byte_in 10 (items_in bytes)) bytes (items_in bytes)
    else answers.Revisions (revisions_at (items_in bytes))

abbrev pub stage_in : List ℕ → Stage
stage_in name =
    if bytes_eq name (codes "marked") then stages.Marked
    else if bytes_eq name (codes "copying") then stages.Copying
    else if bytes_eq name (codes "copied") then stages.Copied else stages.Marking

abbrev pub turn_in : List ℕ → List ℕ → Answer
turn_in name rest =
    if bytes_eq name (codes "packed") then answers.Switched (count_in rest) (count_in (behind_count rest)) else answers.Turned (stage_in name) (count_in rest)

abbrev pub loaded_in : List ℕ → List ℕ → Answer
loaded_in bytes rest =
    answers.Loaded bytes (id_in rest) (maybe_id_in (behind 10 rest)) (id_in (behind_maybe_id (behind 10 rest)))

abbrev pub none_answer : List ℕ → Answer
none_answer bytes = if byte_in 1 bytes == 0x74 then answers.Done else answers.Nothing (count_in (behind 1 bytes))

abbrev pub tid_answer : List ℕ → Answer
tid_answer bytes = if byte_in 10 bytes == 0x74 then answers.OneTid (id_in bytes) else answers.TidAndCount (id_in bytes) (count_in (behind 10 bytes))

abbrev pub reply_in : List ℕ → Answer
reply_in bytes =
    if byte_in 0 bytes == 0x4e then none_answer bytes
    else if byte_in 0 bytes == 0x43 then tid_answer bytes
    else if byte_in 0 bytes == 0x28 then loaded_in (bytes_in (behind 1 bytes)) (behind_bytes (behind 1 bytes))
    else if byte_in 0 bytes == 0x5d then list_in bytes
    else if byte_in 0 bytes == 0x58 then turn_in (name_in bytes) (behind_name bytes)
    else answers.Packed (count_in bytes) (count_in (behind_count bytes))

-- ---- refusals

-- a key reaches up to the ends of both tuples and the STOP
abbrev pub key_in : List ℕ → List ℕ
key_in rest = take (length rest - 3) rest

abbrev pub plain_why : List ℕ → Option Why
plain_why name =
    if bytes_eq name (codes "NoRule") then Some why.NoRule
    else if bytes_eq name (codes "Gone") then Some why.Gone
    else if bytes_eq name (codes "NoOld") then Some why.NoOld
    else if bytes_eq name (codes "Unreadable") then Some why.Unreadable
    else if bytes_eq name (codes "NotEmbedded") then Some why.NotEmbedded
    else if bytes_eq name (codes "Link") then Some why.Link
    else if bytes_eq name (codes "EmptySide") then Some why.EmptySide
    else if bytes_eq name (codes "FirstKey") then Some why.FirstKey
    else if bytes_eq name (codes "Overflow") then Some why.Overflow else None

abbrev pub or_key : Option Why → List ℕ → Why
or_key (Some reason) rest = reason
or_key None rest = why.Key (key_in rest)

abbrev pub why_in : List ℕ → List ℕ → Why
why_in name rest = or_key (plain_why name) rest

-- refusals without a field
abbrev pub bare_refusal : List ℕ → Option Refusal
bare_refusal name =
    if bytes_eq name (codes "TidsSpent") then Some refusals.TidsSpent
    else if bytes_eq name (codes "StoreFault") then Some refusals.StoreFault
    else if bytes_eq name (codes "NoTransaction") then Some refusals.NoTransaction
    else if bytes_eq name (codes "InTransaction") then Some refusals.InTransaction
    else if bytes_eq name (codes "NotVoted") then Some refusals.NotVoted
    else if bytes_eq name (codes "Voted") then Some refusals.Voted
    else if bytes_eq name (codes "OidsSpent") then Some refusals.OidsSpent
    else if bytes_eq name (codes "NotOpen") then Some refusals.NotOpen
    else None

abbrev pub other_bare_refusal : List ℕ → Option Refusal
other_bare_refusal name =
    if bytes_eq name (codes "BadMessage") then Some refusals.BadMessage
    else if bytes_eq name (codes "LinkFault") then Some refusals.LinkFault
    else if bytes_eq name (codes "Closed") then Some refusals.Closed
    else if bytes_eq name (codes "NoPack") then Some refusals.NoPack
    else if bytes_eq name (codes "BadKey") then Some refusals.BadKey
    else if bytes_eq name (codes "ReadFault") then Some refusals.ReadFault
    else if bytes_eq name (codes "StepsSpent") then Some refusals.StepsSpent
    else if bytes_eq name (codes "Memory") then Some refusals.Memory
    else None

-- refusals with a number
abbrev pub counting_refusal : List ℕ → ℕ → Option Refusal
counting_refusal name n =
    if bytes_eq name (codes "TooLong") then Some (refusals.TooLong n)
    else if bytes_eq name (codes "Busy") then Some (refusals.Busy (small n))
    else if bytes_eq name (codes "PackRunning") then Some (refusals.PackRunning (small n))
    else if bytes_eq name (codes "JournalFull") then Some (refusals.JournalFull n)
    else if bytes_eq name (codes "TooManySessions") then Some (refusals.TooManySessions (small n))
    else if bytes_eq name (codes "NoSavepoint") then Some (refusals.NoSavepoint n)
    else if bytes_eq name (codes "FrameTooLong") then Some (refusals.FrameTooLong (small n))
    else if bytes_eq name (codes "Mixed") then Some (refusals.Mixed n)
    else if bytes_eq name (codes "Connected") then Some (refusals.Connected (small n)) else None

-- refusals of one object or of one transaction
abbrev pub single_refusal : List ℕ → ℕ → Option Refusal
single_refusal name id =
    if bytes_eq name (codes "UndoUnknown") then Some (refusals.UndoUnknown id)
    else if bytes_eq name (codes "UndoPacked") then Some (refusals.UndoPacked id)
    else if bytes_eq name (codes "PackedAlready") then Some (refusals.PackedAlready id)
    else if bytes_eq name (codes "NotATree") then Some (refusals.NotATree id)
    else if bytes_eq name (codes "NodeMissing") then Some (refusals.NodeMissing id) else None

-- refusals of an object and a transaction
abbrev pub double_refusal : List ℕ → ℕ → ℕ → Option Refusal
double_refusal name oid tid =
    if bytes_eq name (codes "UndoConflict") then Some (refusals.UndoConflict oid tid)
    else if bytes_eq name (codes "Overtaken") then Some (refusals.Overtaken oid tid)
    else if bytes_eq name (codes "Unreadable") then Some (refusals.Unreadable oid tid)
    else if bytes_eq name (codes "NothingToDelete") then Some (refusals.NothingToDelete oid tid) else None

-- refusals of an object and more
abbrev pub conflict_in : List ℕ → List ℕ → Option Refusal
conflict_in name rest =
    if bytes_eq name (codes "Conflict") then
    Some (refusals.Conflict (id_in rest) (id_in (behind 10 rest)) (id_in (behind 20 rest)) (why_in (name_in (behind 30 rest)) (behind_name (behind 30 rest))))
    else if bytes_eq name (codes "ReadConflict") then Some (refusals.ReadConflict (id_in rest) (id_in (behind 10 rest)) (id_in (behind 20 rest)))
    else if bytes_eq name (codes "Missing") then Some (refusals.Missing (id_in rest) (truth_in (behind 10 rest))) else None

abbrev pub short_refusal : List ℕ → List ℕ → Option Refusal
short_refusal name rest =
    or_else (bare_refusal name)
    (or_else (other_bare_refusal name)
    (or_else (counting_refusal name (count_in rest))
    (or_else (single_refusal name (id_in rest)) (double_refusal name (id_in rest) (id_in (behind 10 rest))))))

abbrev pub named_refusal : List ℕ → List ℕ → Option Refusal
named_refusal name rest = or_else (conflict_in name rest) (short_refusal name rest)

-- the name behind the mark that stands before four or more items
abbrev pub refusal_start : List ℕ → List ℕ
refusal_start bytes = if byte_in 0 bytes == 0x28 then behind 1 bytes else bytes

abbrev pub refusal_in : List ℕ → Option Refusal
refusal_in bytes = named_refusal (name_in (refusal_start bytes)) (behind_name (refusal_start bytes))

-- ---- messages

abbrev pub refused : Option Refusal → Option Answer
refused refusal = option_map (λ r. answers.Refused r) refusal

abbrev pub answer_in : List ℕ → List ℕ → Option Answer
answer_in name rest =
    if bytes_eq name (codes ".reply") then Some (reply_in rest)
    else if bytes_eq name (codes ".error") then refused (refusal_in rest) else None

abbrev pub notice_in : List ℕ → List ℕ → Option Notice
notice_in name rest =
    if bytes_eq name (codes "invalidateTransaction") then Some (notices.Invalidate (id_in rest) (ids_in (behind 10 rest)))
    else if bytes_eq name (codes "forget") then Some (notices.Forget (id_in rest))
    else if bytes_eq name (codes "packed") then Some (notices.Packed (id_in rest)) else None

-- what stands behind a number and a flag, by its method
abbrev pub named_message : ℕ → List ℕ → List ℕ → Option Message
named_message number name rest =
    or_else (option_map (λ answer. Answered number answer) (answer_in name rest))
    (or_else (option_map (λ notice. Told notice) (notice_in name rest)) (option_map (λ call. Asked number call) (call_in name rest)))

-- behind the number, and behind the flag
abbrev pub flagged_message : ℕ → List ℕ → Option Message
flagged_message number rest = named_message number (name_in (behind 2 rest)) (behind_name (behind 2 rest))

abbrev pub numbered_message : List ℕ → Option Message
numbered_message rest = flagged_message (small (count_in rest)) (behind_count rest)

-- behind PROTO 3 and the mark
abbrev pub loose_message : List ℕ → Option Message
loose_message bytes = numbered_message (behind 3 bytes)
