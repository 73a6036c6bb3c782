-- What a client sends for its calls. From: ZEO; which calls a vote is made of is own.
use Rattle.std.specs.Prelude.{◌≡◌, ℕ, ◌+◌, ◌-◌, ◌<◌, ◌^◌, ◌==◌, List, [], ◌∷◌, ◌++◌, Option, Some, None, map, length, nat_lt, if◌then◌else◌}
use Rattle.zb_model.specs.declared.data.Content.{Content}
use Rattle.zb_model.specs.declared.data.Content.TheVariants.{Held, Absent}
use Rattle.zb_model.specs.declared.pending.PendingCheck.{PendingCheck}
use Rattle.zb_model.specs.declared.pending.PendingStore.{PendingStore}
use Rattle.zeo_frames.specs.declared.limit.TheConstants.{FRAME_LIMIT}
use Rattle.zeo_frames.specs.Frames.{frame}
use Rattle.zeo_messages.specs.declared.call.Call.{Call}
use Rattle.zeo_messages.specs.declared.call.Call.TheVariants as calls
use Rattle.zeo_messages.specs.declared.message.Message.{Message}
use Rattle.zeo_messages.specs.declared.message.Message.TheVariants.{Asked}
use Rattle.zeo_messages.specs.Messages.{length_of, payload_of}

-- the number of the call behind one
abbrev pub next_number : ℕ → ℕ
next_number number = if nat_lt number (2 ^ 31 - 1) then number + 1 else 1

-- the frame of a call
abbrev pub call_frame : ℕ → Call → List ℕ
call_frame number call = frame (payload_of (Asked number call))

-- the length of its payload, with its number counted as 5 bytes
abbrev pub call_length : Call → ℕ
call_length call = length_of (Asked 0 call)

-- the frames of calls that follow one another behind the number of one, and the number of the last of them
abbrev pub call_frames : ℕ → List Call → List ℕ
call_frames number [] = []
call_frames number (call ∷ rest) = call_frame (next_number number) call ++ call_frames (next_number number) rest

abbrev pub number_behind : ℕ → List Call → ℕ
number_behind number [] = number
number_behind number (call ∷ rest) = number_behind (next_number number) rest

-- a store or a delete that is to wait for the vote
abbrev pub content_call : ℕ → ℕ → Content → Call
content_call oid base (Held bytes) = calls.Storea oid base bytes
content_call oid base Absent = calls.DeleteObject oid base

abbrev pub store_call : PendingStore → Call
store_call p = content_call p.oid p.base p.content

abbrev pub check_call : PendingCheck → Call
check_call c = calls.CheckCurrentSerial c.oid c.serial

-- the calls of a vote: what waits is emptied, the stores, the deletes and the checks wait in their order, and all that is voted on
abbrev pub vote_calls : List ℕ → List ℕ → List PendingStore → List PendingCheck → List Call
vote_calls user description stores checks = calls.TpcBegin user description [] ∷ (map store_call stores ++ map check_call checks) ++ calls.Vote ∷ []

-- a call that doesn't fit a frame: so long is its payload
pub record IsTooLong (call : Call) (n : ℕ) : Type 0 where
  pub long : call_length call ≡ n
  pub above : FRAME_LIMIT < n

-- these calls, behind the number of one, have these frames, and the last of them has this number
pub record AreSpelled (first : ℕ) (made : List Call) (text : List ℕ) (number : ℕ) : Type 0 where
  pub frames : text ≡ call_frames first made
  pub last : number ≡ number_behind first made

-- and so with more calls behind them
pub record SpellsBehind (more : List Call) (text : List ℕ) (number : ℕ) (now : List ℕ) (now_number : ℕ) : Type 0 where
  pub each : (first : ℕ) (made : List Call) → AreSpelled first made text number → AreSpelled first (made ++ more) now now_number
