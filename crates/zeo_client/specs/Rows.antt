-- Which answers a call may have. From: ZEO; which rows there are is own.
use Rattle.std.specs.Prelude.{ℕ, Bool, true, false, ◌==◌, ◌||◌, ◌&&◌, length, Option, Some, None, if◌then◌else◌}
use Rattle.zeo_messages.specs.declared.answer.Answer.{Answer}
use Rattle.zeo_messages.specs.declared.answer.Answer.TheVariants as answers
use Rattle.zeo_messages.specs.declared.call.Call.{Call}
use Rattle.zeo_messages.specs.declared.call.Call.TheVariants as calls
use Rattle.zeo_messages.specs.declared.message.Message.{Message}
use Rattle.zeo_messages.specs.declared.message.Message.TheVariants.{Asked, Answered, Told}

-- ---- the forms of answers

abbrev pub is_done : Answer → Bool
is_done answers.Done = true
is_done _ = false

abbrev pub is_tid : Answer → Bool
is_tid (answers.OneTid tid) = true
is_tid _ = false

abbrev pub is_tid_or_done : Answer → Bool
is_tid_or_done (answers.OneTid tid) = true
is_tid_or_done answers.Done = true
is_tid_or_done _ = false

abbrev pub is_revision : Answer → Bool
is_revision (answers.Loaded bytes serial end upto) = true
is_revision (answers.Nothing switches) = true
is_revision _ = false

abbrev pub are_oids : ℕ → Answer → Bool
are_oids count (answers.Oids oids) = length oids == count
are_oids count _ = false

abbrev pub are_revisions : Answer → Bool
are_revisions (answers.Revisions list) = true
are_revisions answers.EmptyList = true
are_revisions _ = false

abbrev pub are_lines : Answer → Bool
are_lines (answers.LogLines list) = true
are_lines answers.EmptyList = true
are_lines _ = false

abbrev pub are_commits : Answer → Bool
are_commits (answers.Commits list) = true
are_commits answers.EmptyList = true
are_commits answers.Done = true
are_commits _ = false

abbrev pub is_pack : Answer → Bool
is_pack (answers.Packed kept dropped) = true
is_pack _ = false

abbrev pub is_turn : Answer → Bool
is_turn (answers.Turned stage count) = true
is_turn (answers.Switched kept dropped) = true
is_turn _ = false

abbrev pub is_tid_and_count : Answer → Bool
is_tid_and_count (answers.TidAndCount tid count) = true
is_tid_and_count _ = false

abbrev pub is_refusal : Answer → Bool
is_refusal (answers.Refused refusal) = true
is_refusal _ = false

-- ---- rows

-- the value is of the call's row; a call that isn't answered has none
abbrev pub is_value_of : Call → Answer → Bool
is_value_of (calls.Register again) answer = is_tid answer
is_value_of (calls.LoadBefore oid front) answer = is_revision answer
is_value_of (calls.NewOids count) answer = are_oids count answer
is_value_of (calls.TpcBegin user description extension) answer = false
is_value_of (calls.Storea oid base bytes) answer = false
is_value_of (calls.DeleteObject oid base) answer = false
is_value_of (calls.CheckCurrentSerial oid serial) answer = false
is_value_of calls.Vote answer = is_done answer
is_value_of (calls.Undoa user description tids) answer = is_done answer
is_value_of calls.TpcFinish answer = is_tid_or_done answer
is_value_of calls.TpcAbort answer = is_done answer
is_value_of (calls.History oid) answer = are_revisions answer
is_value_of calls.UndoInfo answer = are_lines answer
is_value_of (calls.Pack tid collect) answer = is_pack answer
is_value_of (calls.PackBegin tid collect) answer = is_tid answer
is_value_of calls.PackTurn answer = is_turn answer
is_value_of calls.Sync answer = is_tid_and_count answer
is_value_of calls.LastTransaction answer = is_tid_and_count answer
is_value_of (calls.GetInvalidations tid changes) answer = are_commits answer

-- the answer may be the call's: it is refused, or the value is of its row
abbrev pub answers_call : Call → Answer → Bool
answers_call call answer = is_refusal answer || is_value_of call answer

abbrev pub answers_last : Option Call → Answer → Bool
answers_last None answer = false
answers_last (Some call) answer = answers_call call answer

-- ---- what may come

-- what a server sends without being asked, and the answer to the last call, which had this number
abbrev pub may_come : ℕ → Option Call → Message → Bool
may_come number last (Told notice) = true
may_come number last (Answered n answer) = n == number && answers_last last answer
may_come number last (Asked n call) = false

abbrev pub if_it_may : ℕ → Option Call → Option Message → Option Message
if_it_may number last None = None
if_it_may number last (Some message) = if may_come number last message then Some message else None
