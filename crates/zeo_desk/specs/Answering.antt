-- What is sent for a reply: the answer that it is, or what stands in its place, in a frame behind the news. From: ZEO; the profile is own.
use Rattle.std.specs.Prelude.{◌≡◌, ℕ, zero, suc, ◌+◌, ◌-◌, ◌^◌, ◌≤◌, Bool, true, false, List, [], ◌∷◌, ◌++◌, Option, Some, None, length, nat_le, nat_lt, if◌then◌else◌}
use Rattle.zb_model.specs.declared.news.NewsCommit.{NewsCommit}
use Rattle.zb_model.specs.declared.refusal.Refusal.TheVariants as refusals
use Rattle.zodb_core.specs.declared.reply.Reply.{Reply}
use Rattle.zodb_core.specs.declared.reply.Reply.TheVariants as replies
use Rattle.zodb_core.specs.declared.request.Request.{Request}
use Rattle.zodb_core.specs.declared.request.Request.TheVariants as requests
use Rattle.zeo_frames.specs.declared.limit.TheConstants.{FRAME_LIMIT}
use Rattle.zeo_frames.specs.Frames.{frame}
use Rattle.zeo_messages.specs.declared.answer.Answer.{Answer}
use Rattle.zeo_messages.specs.declared.answer.Answer.TheVariants as answers
use Rattle.zeo_messages.specs.declared.answer.Stage.TheVariants as stages
use Rattle.zeo_messages.specs.declared.message.Message.TheVariants.{Answered}
use Rattle.zeo_messages.specs.Answers.{fits_answer}
use Rattle.zeo_messages.specs.Messages.{length_of, payload_of}
use Rattle.zeo_news.specs.Notices.{news_frames}
use Rattle.zeo_desk.specs.declared.asked.Asked.{Asked}
use Rattle.zeo_desk.specs.declared.asked.Asked.TheVariants as asked

-- ---- the answer that a reply is

-- an empty list is an answer of its own
abbrev pub listed : {T : Type 0} → (List T → Answer) → List T → Answer
listed form [] = answers.EmptyList
listed form (x ∷ rest) = form (x ∷ rest)

-- a number, where an object can have it
abbrev pub number_alone : ℕ → List ℕ
number_alone n = if nat_lt n (2 ^ 64) then n ∷ [] else []

-- so many numbers from the first on
abbrev pub oids_from : ℕ → ℕ → List ℕ
oids_from zero first = []
oids_from (suc count) first = oids_from count first ++ number_alone (first + count)

-- a front: whoever registers is told the newest tid, and whoever asks for news the front with the number of packs
abbrev pub front_answer : Asked → ℕ → ℕ → Answer
front_answer asked.Register front switches = answers.OneTid (front - 1)
front_answer _ front switches = answers.TidAndCount front switches

-- a pack that is over: the last turn of a pack says that it is the last
abbrev pub packed_answer : Asked → ℕ → ℕ → Answer
packed_answer asked.PackTurn kept dropped = answers.Switched kept dropped
packed_answer _ kept dropped = answers.Packed kept dropped

-- what changed since: nothing is told where not all of it is known
abbrev pub since_answer : Bool → List NewsCommit → Answer
since_answer true commits = listed answers.Commits commits
since_answer false commits = answers.Done

-- the answer that a reply is to what was asked
abbrev pub reply_answer : Asked → Reply → Answer
reply_answer a (replies.Front front news switches) = front_answer a front switches
reply_answer a (replies.Loaded serial bytes end upto) = answers.Loaded bytes serial end upto
reply_answer a (replies.Nothing oid switches) = answers.Nothing switches
reply_answer a (replies.Oids first count) = listed answers.Oids (oids_from count first)
reply_answer a replies.Voted = answers.Done
reply_answer a (replies.Committed tid) = answers.OneTid tid
reply_answer a replies.Empty = answers.Done
reply_answer a replies.Aborted = answers.Done
reply_answer a (replies.History list) = listed answers.Revisions list
reply_answer a (replies.UndoLog list) = listed answers.LogLines list
reply_answer a (replies.Packed kept dropped) = packed_answer a kept dropped
reply_answer a (replies.Packing tid) = answers.OneTid tid
reply_answer a (replies.Marking count) = answers.Turned stages.Marking count
reply_answer a (replies.Marked count) = answers.Turned stages.Marked count
reply_answer a (replies.Copying count) = answers.Turned stages.Copying count
reply_answer a (replies.Copied count) = answers.Turned stages.Copied count
reply_answer a (replies.Last tid changes) = answers.TidAndCount tid changes
reply_answer a (replies.Since keep commits) = since_answer keep commits
reply_answer a replies.Closed = answers.Done
reply_answer a (replies.Refused refusal) = answers.Refused refusal

-- the news behind a commit of the session are no answer: the commit is answered, whatever they are
abbrev pub answer_to : Asked → Reply → Answer
answer_to (asked.NewsBehind tid) reply = answers.OneTid tid
answer_to a reply = reply_answer a reply

-- ---- what stands in its place

-- the length of its payload, with the number of the call counted as 5 bytes
abbrev pub counted_length : Answer → ℕ
counted_length answer = length_of (Answered 0 answer)

-- whether its row allows what it says; how long a record may be, the limit of frames says
abbrev pub is_allowed : Answer → Bool
is_allowed (answers.Loaded bytes serial end upto) = true
is_allowed answer = fits_answer answer

-- how many bytes more than its record the counted length of a revision's answer has, where the record has more than 255 bytes
abbrev pub bytes_round : Option ℕ → ℕ
bytes_round None = 51
bytes_round (Some end) = 60

-- an answer that doesn't fit a frame: a list of what changed is told as not all known, and any other is too long
abbrev pub in_place_of : Asked → ℕ → Answer
in_place_of asked.Since length = answers.Done
in_place_of _ length = answers.Refused (refusals.TooLong length)

abbrev pub within_frame : Asked → Answer → ℕ → Answer
within_frame a answer length = if nat_le length FRAME_LIMIT then answer else in_place_of a length

-- what is answered: the answer, where it is one of its row and fits a frame
abbrev pub sent_answer : Asked → Answer → Answer
sent_answer a answer = if is_allowed answer then within_frame a answer (counted_length answer) else answers.Refused refusals.BadMessage

-- what a request asks, where its reply is answered by itself
abbrev pub asked_of : Request → Asked
asked_of requests.Finish = asked.Finish
asked_of requests.PackTurn = asked.PackTurn
asked_of (requests.Since tid changes) = asked.Since
asked_of _ = asked.Other

-- the answer to a request by its reply
abbrev pub answer_of : Request → Reply → Answer
answer_of request reply = sent_answer (asked_of request) (reply_answer (asked_of request) reply)

-- ---- frames

-- an answer to the call of this number, in a frame
abbrev pub answer_frame : ℕ → Answer → List ℕ
answer_frame number answer = frame (payload_of (Answered number answer))

-- an answer that fits a frame whatever it says
pub record IsShortAnswer (number : ℕ) (answer : Answer) : Type 0 where
  pub allowed : fits_answer answer ≡ true
  pub within : length (payload_of (Answered number answer)) ≤ FRAME_LIMIT

-- the news of a front
abbrev pub frames_before : Reply → List (List ℕ)
frames_before (replies.Front front news switches) = news_frames front news
frames_before _ = []

-- the news, and behind them the answer
abbrev pub reply_frames : ℕ → Asked → Reply → List (List ℕ)
reply_frames number a reply = frames_before reply ++ answer_frame number (sent_answer a (answer_to a reply)) ∷ []
