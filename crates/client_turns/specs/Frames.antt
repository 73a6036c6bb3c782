-- What fits a frame of the link between a client and its session. From: ZEO; that what doesn't fit is refused is own.
use Rattle.std.specs.Prelude.{◌≡◌, ℕ, List, Option, Some, None, nat_le, if◌then◌else◌}
use Rattle.zb_model.specs.declared.refusal.Refusal.TheVariants as refusal
use Rattle.zb_model.specs.Queries.{found_below}
use Rattle.zodb_core.specs.declared.reply.Reply.{Reply}
use Rattle.zodb_core.specs.declared.reply.Reply.TheVariants as reply
use Rattle.zodb_core.specs.declared.request.Request.{Request}
use Rattle.zodb_core.specs.declared.request.Request.TheVariants as request
use Rattle.zodb_core.specs.Machine.{Machine}
use Rattle.zodb_core.specs.Steps.{loaded}
use Rattle.zeo_frames.specs.declared.limit.TheConstants.{FRAME_LIMIT}
use Rattle.zeo_messages.specs.declared.answer.Answer.TheVariants as answers
use Rattle.zeo_messages.specs.declared.call.Call.TheVariants as calls
use Rattle.zeo_messages.specs.declared.message.Message.TheVariants.{Answered, Asked}
use Rattle.zeo_messages.specs.Messages.{length_of}

-- the length of a payload, where it doesn't fit a frame
abbrev pub past_frame : ℕ → Option ℕ
past_frame n = if nat_le n FRAME_LIMIT then None else Some n

-- how long the call is that asks for a step, with its number counted as 5 bytes, where it doesn't fit a frame: only the list of an undo may be so long
abbrev pub call_excess : Request → Option ℕ
call_excess (request.Undo user description tids) = past_frame (length_of (Asked 0 (calls.Undoa user description tids)))
call_excess _ = None

-- and so the answer to a step: a revision, one of the lists, or a conflict, which may name a key
abbrev pub reply_excess : Reply → Option ℕ
reply_excess (reply.Loaded serial bytes end upto) = past_frame (length_of (Answered 0 (answers.Loaded bytes serial end upto)))
reply_excess (reply.History list) = past_frame (length_of (Answered 0 (answers.Revisions list)))
reply_excess (reply.UndoLog list) = past_frame (length_of (Answered 0 (answers.LogLines list)))
reply_excess (reply.Refused (refusal.Conflict oid base current why)) = past_frame (length_of (Answered 0 (answers.Refused (refusal.Conflict oid base current why))))
reply_excess _ = None

-- what was read has fitted a frame: the shortest that it may have come in, without the serial of a revision behind it
abbrev pub HasFitted : ℕ × List ℕ → Type 0
HasFitted d = reply_excess (reply.Loaded d.0 d.1 None 0) ≡ None

-- what an object has below a front doesn't fit a frame, as it is answered while the machine stands so
abbrev pub IsPastFrame : Machine → ℕ → ℕ → ℕ → Type 0
IsPastFrame m oid front n = reply_excess (loaded m oid (found_below oid front m.list)) ≡ Some n
