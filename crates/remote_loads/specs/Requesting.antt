-- What a client asks of its server beside the calls of its loads, and what it is told of the reply. Own.
use Rattle.std.specs.Prelude.{ℕ, Bool, true, false, List, [], Option, Some, None, Result, Ok, Err, nat_le, if◌then◌else◌}
use Rattle.std.specs.List.{list_all}
use Rattle.zb_model.specs.declared.lists.LogLine.{LogLine}
use Rattle.zb_model.specs.declared.lists.Revision.{Revision}
use Rattle.zb_model.specs.declared.refusal.Refusal.{Refusal}
use Rattle.zb_model.specs.declared.refusal.Refusal.TheVariants as refusals
use Rattle.zodb_core.specs.declared.reply.Reply.{Reply}
use Rattle.zodb_core.specs.declared.reply.Reply.TheVariants as replies
use Rattle.zodb_core.specs.declared.request.Request.{Request}
use Rattle.zodb_core.specs.declared.request.Request.TheVariants as request
use Rattle.zodb_core.specs.Machine.{Machine}
use Rattle.connection_view.specs.Views.{Client}
use Rattle.zeo_frames.specs.declared.limit.TheConstants.{FRAME_LIMIT}
use Rattle.zeo_messages.specs.declared.answer.Answer.{Answer}
use Rattle.zeo_messages.specs.declared.answer.Answer.TheVariants as answers
use Rattle.zeo_messages.specs.declared.answer.Stage.{Stage}
use Rattle.zeo_messages.specs.declared.answer.Stage.TheVariants as stages
use Rattle.zeo_messages.specs.declared.call.Call.{Call}
use Rattle.zeo_messages.specs.declared.call.Call.TheVariants as calls
use Rattle.zeo_messages.specs.declared.message.Message.TheVariants.{Answered}
use Rattle.zeo_messages.specs.Answers.{fits_line, fits_revision}
use Rattle.zeo_messages.specs.Messages.{length_of}
use Rattle.zeo_desk.specs.Desks.{DeskState}
use Rattle.zeo_client.specs.Taking.{ClientState}
use Rattle.remote_loads.specs.Answers.{refusal_in}
use Rattle.remote_loads.specs.Served.{MaySteps}
use Rattle.remote_loads.specs.Standing.{Stands}
use Rattle.remote_loads.specs.Talking.{IsWayLost}

-- ---- questions

-- a request of the list, or of a pack of it
abbrev pub is_question : Request → Bool
is_question (request.History oid) = true
is_question request.UndoLog = true
is_question (request.Pack tid collect) = true
is_question (request.PackBegin tid collect) = true
is_question request.PackTurn = true
is_question request.Last = true
is_question _ = false

-- the call that asks for it
abbrev pub call_of : Request → Call
call_of (request.History oid) = calls.History oid
call_of request.UndoLog = calls.UndoInfo
call_of (request.Pack tid collect) = calls.Pack tid collect
call_of (request.PackBegin tid collect) = calls.PackBegin tid collect
call_of request.PackTurn = calls.PackTurn
call_of _ = calls.LastTransaction

-- ---- what an answer says

-- the changes of an object are asked for
abbrev pub asks_history : Request → Bool
asks_history (request.History oid) = true
asks_history _ = false

-- an empty list is one of what was asked for
abbrev pub empty_reply : Bool → Reply
empty_reply true = replies.History []
empty_reply false = replies.UndoLog []

abbrev pub turned_reply : Stage → ℕ → Reply
turned_reply stages.Marking count = replies.Marking count
turned_reply stages.Marked count = replies.Marked count
turned_reply stages.Copying count = replies.Copying count
turned_reply stages.Copied count = replies.Copied count

-- the reply that an answer is, by whether the changes of an object were asked for
abbrev pub reply_in : Bool → Answer → Result Reply Refusal
reply_in history answers.EmptyList = Ok (empty_reply history)
reply_in history (answers.Revisions list) = Ok (replies.History list)
reply_in history (answers.LogLines list) = Ok (replies.UndoLog list)
reply_in history (answers.Packed kept dropped) = Ok (replies.Packed kept dropped)
reply_in history (answers.Switched kept dropped) = Ok (replies.Packed kept dropped)
reply_in history (answers.OneTid tid) = Ok (replies.Packing tid)
reply_in history (answers.Turned stage count) = Ok (turned_reply stage count)
reply_in history (answers.TidAndCount tid count) = Ok (replies.Last tid count)
reply_in history answer = Err (refusal_in answer)

-- ---- what is told of a reply

-- a length that is past the limit of frames
abbrev pub past_limit : ℕ → Option Refusal
past_limit n = if nat_le n FRAME_LIMIT then None else Some (refusals.TooLong n)

-- a list is told unless one of its texts is longer than its row allows, or it doesn't fit a frame
abbrev pub history_untold : List Revision → Option Refusal
history_untold list = if list_all fits_revision list then past_limit (length_of (Answered 0 (answers.Revisions list))) else Some refusals.BadMessage

abbrev pub log_untold : List LogLine → Option Refusal
log_untold list = if list_all fits_line list then past_limit (length_of (Answered 0 (answers.LogLines list))) else Some refusals.BadMessage

abbrev pub told_unless : Option Refusal → Reply → Result Reply Refusal
told_unless None reply = Ok reply
told_unless (Some why) reply = Err why

-- what is told of the reply to a question: a refusal as it is, a list where it can be told, and any other reply
abbrev pub reply_told : Reply → Result Reply Refusal
reply_told (replies.Refused why) = Err why
reply_told (replies.History list) = told_unless (history_untold list) (replies.History list)
reply_told (replies.UndoLog list) = told_unless (log_untold list) (replies.UndoLog list)
reply_told reply = Ok reply

-- ---- what a question makes and leaves

-- The answer was lost, and the step was made or not; or the step was made, and is answered by what is told of its reply.
pub data IsQuestionMade {S : Type 0} (steps : Request → Reply → S → S → Type 0) (q : Request) (before : S) : Result Reply Refusal → S → Type 0 where
  question_lost : (r : Refusal) (now : S) → IsWayLost r → MaySteps steps q before now → IsQuestionMade steps q before (Err r) now
  question_told : (reply : Reply) (now : S) → steps q reply before now → IsQuestionMade steps q before (reply_told reply) now

-- what it leaves, makes and answers
pub record QuestionLeaves {S : Type 0} (steps : Request → Reply → S → S → Type 0) (machine : S → Machine) (n : ℕ) (before : S) (q : Request) (c : Client) (result : Result Reply Refusal) (new : ClientState) (now : S) (left : DeskState) : Type 0 where
  pub stands : Stands (machine now) n left new c
  pub made : IsQuestionMade steps q before result now
