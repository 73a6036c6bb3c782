-- What a server answers, row by row. From: ZEO; which rows there are is own.
use Rattle.std.specs.Prelude.{ℕ, ◌<◌, ◌^◌, Bool, true, ◌&&◌, List, [], ◌∷◌, Option, Some, None, length, nat_lt, codes}
use Rattle.std.specs.List.{AllByRecursion, list_all}
use Rattle.zb_model.specs.declared.lists.LogLine.{LogLine}
use Rattle.zb_model.specs.declared.lists.Revision.{Revision}
use Rattle.zb_model.specs.declared.news.NewsCommit.{NewsCommit}
use Rattle.zb_model.specs.declared.refusal.Refusal.{Refusal}
use Rattle.zb_model.specs.declared.refusal.Refusal.TheVariants as refusals
use Rattle.zb_model.specs.declared.refusal.Why.{Why}
use Rattle.zb_model.specs.declared.refusal.Why.TheVariants as why
use Rattle.zeo_messages.specs.declared.answer.Answer.{Answer}
use Rattle.zeo_messages.specs.declared.answer.Answer.TheVariants as answers
use Rattle.zeo_messages.specs.declared.answer.Stage.{Stage}
use Rattle.zeo_messages.specs.declared.answer.Stage.TheVariants as stages
use Rattle.zeo_values.specs.Keys.{is_key_spelled}
use Rattle.zeo_values.specs.Values.{bytes_text, count_text, id_text, list_of, maybe_text, name_text, none_text, truth_text, tuple_text, IsId, AreIds}
use Rattle.zeo_messages.specs.Calls.{is_short, is_filled}

-- ---- items of lists

abbrev pub revision_text : Revision → List ℕ
revision_text r = tuple_text (id_text r.tid ∷ maybe_text count_text r.size ∷ bytes_text r.user ∷ bytes_text r.description ∷ [])

abbrev pub line_text : LogLine → List ℕ
line_text l = tuple_text (id_text l.tid ∷ bytes_text l.user ∷ bytes_text l.description ∷ [])

abbrev pub commit_text : NewsCommit → List ℕ
commit_text c = tuple_text (id_text c.tid ∷ list_of id_text c.oids ∷ [])

-- ---- refusals

-- a reason; behind that of a key the key, as it is spelled
abbrev pub why_name : Why → List ℕ
why_name why.NoRule = codes "NoRule"
why_name why.Gone = codes "Gone"
why_name why.NoOld = codes "NoOld"
why_name why.Unreadable = codes "Unreadable"
why_name why.NotEmbedded = codes "NotEmbedded"
why_name why.Link = codes "Link"
why_name why.EmptySide = codes "EmptySide"
why_name (why.Key spelling) = codes "Key"
why_name why.FirstKey = codes "FirstKey"
why_name why.Overflow = codes "Overflow"

abbrev pub why_fields : Why → List (List ℕ)
why_fields (why.Key spelling) = spelling ∷ []
why_fields _ = []

-- a refusal's name, and its fields
abbrev pub refusal_name : Refusal → List ℕ
refusal_name refusals.TidsSpent = codes "TidsSpent"
refusal_name refusals.StoreFault = codes "StoreFault"
refusal_name (refusals.Conflict oid base current reason) = codes "Conflict"
refusal_name (refusals.ReadConflict oid base current) = codes "ReadConflict"
refusal_name (refusals.TooLong n) = codes "TooLong"
refusal_name (refusals.UndoUnknown tid) = codes "UndoUnknown"
refusal_name (refusals.UndoPacked tid) = codes "UndoPacked"
refusal_name (refusals.UndoConflict oid later) = codes "UndoConflict"
refusal_name (refusals.Overtaken oid tid) = codes "Overtaken"
refusal_name (refusals.Unreadable oid tid) = codes "Unreadable"
refusal_name (refusals.PackedAlready packed) = codes "PackedAlready"
refusal_name (refusals.Missing oid packed) = codes "Missing"
refusal_name refusals.NoTransaction = codes "NoTransaction"
refusal_name refusals.InTransaction = codes "InTransaction"
refusal_name refusals.NotVoted = codes "NotVoted"
refusal_name refusals.Voted = codes "Voted"
refusal_name (refusals.Busy holder) = codes "Busy"
refusal_name (refusals.PackRunning session) = codes "PackRunning"
refusal_name refusals.OidsSpent = codes "OidsSpent"
refusal_name (refusals.JournalFull count) = codes "JournalFull"
refusal_name (refusals.TooManySessions count) = codes "TooManySessions"
refusal_name refusals.NotOpen = codes "NotOpen"
refusal_name (refusals.NoSavepoint number) = codes "NoSavepoint"
refusal_name (refusals.FrameTooLong n) = codes "FrameTooLong"
refusal_name refusals.BadMessage = codes "BadMessage"
refusal_name refusals.LinkFault = codes "LinkFault"
refusal_name refusals.Closed = codes "Closed"
refusal_name (refusals.Mixed stores) = codes "Mixed"
refusal_name refusals.NoPack = codes "NoPack"
refusal_name (refusals.NotATree oid) = codes "NotATree"
refusal_name (refusals.NodeMissing oid) = codes "NodeMissing"
refusal_name refusals.BadKey = codes "BadKey"
refusal_name refusals.ReadFault = codes "ReadFault"
refusal_name (refusals.NothingToDelete oid current) = codes "NothingToDelete"
refusal_name (refusals.Connected session) = codes "Connected"
refusal_name refusals.StepsSpent = codes "StepsSpent"
refusal_name refusals.Memory = codes "Memory"

abbrev pub refusal_fields : Refusal → List (List ℕ)
refusal_fields (refusals.Conflict oid base current reason) = id_text oid ∷ id_text base ∷ id_text current ∷ name_text (why_name reason) ∷ why_fields reason
refusal_fields (refusals.ReadConflict oid base current) = id_text oid ∷ id_text base ∷ id_text current ∷ []
refusal_fields (refusals.TooLong n) = count_text n ∷ []
refusal_fields (refusals.UndoUnknown tid) = id_text tid ∷ []
refusal_fields (refusals.UndoPacked tid) = id_text tid ∷ []
refusal_fields (refusals.UndoConflict oid later) = id_text oid ∷ id_text later ∷ []
refusal_fields (refusals.Overtaken oid tid) = id_text oid ∷ id_text tid ∷ []
refusal_fields (refusals.Unreadable oid tid) = id_text oid ∷ id_text tid ∷ []
refusal_fields (refusals.PackedAlready packed) = id_text packed ∷ []
refusal_fields (refusals.Missing oid packed) = id_text oid ∷ truth_text packed ∷ []
refusal_fields (refusals.Busy holder) = count_text holder ∷ []
refusal_fields (refusals.PackRunning session) = count_text session ∷ []
refusal_fields (refusals.JournalFull count) = count_text count ∷ []
refusal_fields (refusals.TooManySessions count) = count_text count ∷ []
refusal_fields (refusals.NoSavepoint number) = count_text number ∷ []
refusal_fields (refusals.FrameTooLong n) = count_text n ∷ []
refusal_fields (refusals.Mixed stores) = count_text stores ∷ []
refusal_fields (refusals.NotATree oid) = id_text oid ∷ []
refusal_fields (refusals.NodeMissing oid) = id_text oid ∷ []
refusal_fields (refusals.NothingToDelete oid current) = id_text oid ∷ id_text current ∷ []
refusal_fields (refusals.Connected session) = count_text session ∷ []
refusal_fields _ = []

abbrev pub refusal_text : Refusal → List ℕ
refusal_text refusal = tuple_text (name_text (refusal_name refusal) ∷ refusal_fields refusal)

-- ---- values

abbrev pub stage_name : Stage → List ℕ
stage_name stages.Marking = codes "marking"
stage_name stages.Marked = codes "marked"
stage_name stages.Copying = codes "copying"
stage_name stages.Copied = codes "copied"

-- the method of an answer
abbrev pub kind_of : Answer → List ℕ
kind_of (answers.Refused refusal) = codes ".error"
kind_of _ = codes ".reply"

abbrev pub value_of : Answer → List ℕ
value_of answers.Done = none_text
value_of (answers.OneTid tid) = id_text tid
value_of (answers.Loaded bytes serial end upto) = tuple_text (bytes_text bytes ∷ id_text serial ∷ maybe_text id_text end ∷ id_text upto ∷ [])
value_of (answers.Nothing switches) = tuple_text (none_text ∷ count_text switches ∷ [])
value_of answers.EmptyList = list_of id_text []
value_of (answers.Oids oids) = list_of id_text oids
value_of (answers.Revisions list) = list_of revision_text list
value_of (answers.LogLines list) = list_of line_text list
value_of (answers.Commits list) = list_of commit_text list
value_of (answers.Packed kept dropped) = tuple_text (count_text kept ∷ count_text dropped ∷ [])
value_of (answers.Turned stage count) = tuple_text (name_text (stage_name stage) ∷ count_text count ∷ [])
value_of (answers.Switched kept dropped) = tuple_text (name_text (codes "packed") ∷ count_text kept ∷ count_text dropped ∷ [])
value_of (answers.TidAndCount tid count) = tuple_text (id_text tid ∷ count_text count ∷ [])
value_of (answers.Refused refusal) = refusal_text refusal

-- ---- what an answer may say, beside what the types of its fields say

abbrev pub fits_why : Why → Bool
fits_why (why.Key spelling) = is_key_spelled spelling
fits_why _ = true

abbrev pub fits_refusal : Refusal → Bool
fits_refusal (refusals.Conflict oid base current reason) = fits_why reason
fits_refusal _ = true

abbrev pub fits_revision : Revision → Bool
fits_revision r = is_short r.user && is_short r.description

abbrev pub fits_line : LogLine → Bool
fits_line l = is_short l.user && is_short l.description

abbrev pub fits_answer : Answer → Bool
fits_answer (answers.Loaded bytes serial end upto) = nat_lt (length bytes) (2 ^ 32)
fits_answer (answers.Oids oids) = is_filled oids
fits_answer (answers.Revisions list) = is_filled list && list_all fits_revision list
fits_answer (answers.LogLines list) = is_filled list && list_all fits_line list
fits_answer (answers.Commits list) = is_filled list
fits_answer (answers.Refused refusal) = fits_refusal refusal
fits_answer _ = true

-- ---- what the types of its fields say

abbrev pub IsMaybeId : Option ℕ → Type 0
IsMaybeId None = Unit {0}
IsMaybeId (Some n) = IsId n

abbrev pub IsSmall : ℕ → Type 0
IsSmall n = n < 2 ^ 32

abbrev pub HoldsRevision : Revision → Type 0
HoldsRevision r = IsId r.tid × IsMaybeId r.size

abbrev pub HoldsLine : LogLine → Type 0
HoldsLine l = IsId l.tid

abbrev pub HoldsCommit : NewsCommit → Type 0
HoldsCommit c = IsId c.tid × AreIds c.oids

abbrev pub HoldsRefusal : Refusal → Type 0
HoldsRefusal (refusals.Conflict oid base current reason) = IsId oid × IsId base × IsId current
HoldsRefusal (refusals.ReadConflict oid base current) = IsId oid × IsId base × IsId current
HoldsRefusal (refusals.TooLong n) = IsId n
HoldsRefusal (refusals.UndoUnknown tid) = IsId tid
HoldsRefusal (refusals.UndoPacked tid) = IsId tid
HoldsRefusal (refusals.UndoConflict oid later) = IsId oid × IsId later
HoldsRefusal (refusals.Overtaken oid tid) = IsId oid × IsId tid
HoldsRefusal (refusals.Unreadable oid tid) = IsId oid × IsId tid
HoldsRefusal (refusals.PackedAlready packed) = IsId packed
HoldsRefusal (refusals.Missing oid packed) = IsId oid
HoldsRefusal (refusals.Busy holder) = IsSmall holder
HoldsRefusal (refusals.PackRunning session) = IsSmall session
HoldsRefusal (refusals.JournalFull count) = IsId count
HoldsRefusal (refusals.TooManySessions count) = IsSmall count
HoldsRefusal (refusals.NoSavepoint number) = IsId number
HoldsRefusal (refusals.FrameTooLong n) = IsSmall n
HoldsRefusal (refusals.Mixed stores) = IsId stores
HoldsRefusal (refusals.NotATree oid) = IsId oid
HoldsRefusal (refusals.NodeMissing oid) = IsId oid
HoldsRefusal (refusals.NothingToDelete oid current) = IsId oid × IsId current
HoldsRefusal (refusals.Connected session) = IsSmall session
HoldsRefusal _ = Unit {0}

abbrev pub HoldsAnswer : Answer → Type 0
HoldsAnswer (answers.OneTid tid) = IsId tid
HoldsAnswer (answers.Loaded bytes serial end upto) = IsId serial × IsMaybeId end × IsId upto
HoldsAnswer (answers.Nothing switches) = IsId switches
HoldsAnswer (answers.Oids oids) = AreIds oids
HoldsAnswer (answers.Revisions list) = AllByRecursion HoldsRevision list
HoldsAnswer (answers.LogLines list) = AllByRecursion HoldsLine list
HoldsAnswer (answers.Commits list) = AllByRecursion HoldsCommit list
HoldsAnswer (answers.Packed kept dropped) = IsId kept × IsId dropped
HoldsAnswer (answers.Turned stage count) = IsId count
HoldsAnswer (answers.Switched kept dropped) = IsId kept × IsId dropped
HoldsAnswer (answers.TidAndCount tid count) = IsId tid × IsId count
HoldsAnswer (answers.Refused refusal) = HoldsRefusal refusal
HoldsAnswer _ = Unit {0}
