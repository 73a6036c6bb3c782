-- What the finish of a remote client is made of, makes and leaves, over a carrier that tells. Own.
use Rattle.std.specs.Prelude.{◌≡◌, ℕ, Option, Some, None, Result, Ok, Err, IfErr, IfOk, MatchOption}
use Rattle.zb_model.specs.declared.refusal.Refusal.{Refusal}
use Rattle.zodb_core.specs.declared.reply.Reply.{Reply}
use Rattle.zodb_core.specs.declared.reply.Reply.TheVariants as replies
use Rattle.zodb_core.specs.declared.request.Request.{Request}
use Rattle.zodb_core.specs.declared.request.Request.TheVariants as request
use Rattle.zodb_core.specs.Machine.{Machine}
use Rattle.connection_view.specs.Loading.{IsNothingDone}
use Rattle.connection_view.specs.Views.{Client, committed, unvoted, view_of}
use Rattle.zeo_messages.specs.declared.answer.Answer.{Answer}
use Rattle.zeo_messages.specs.declared.call.Call.TheVariants as calls
use Rattle.zeo_desk.specs.declared.asked.Asked.TheVariants as asked
use Rattle.zeo_desk.specs.Answering.{reply_answer, sent_answer}
use Rattle.zeo_desk.specs.Desks.{DeskState, committed_tid}
use Rattle.zeo_serving.specs.Serving.{asks_for, server_at}
use Rattle.zeo_client.specs.declared.asking.AskError.{AskError}
use Rattle.zeo_client.specs.Renewing.{HoldsUnless, IsButCache, nothing, standing_as}
use Rattle.zeo_client.specs.Taking.{ClientState}
use Rattle.remote_loads.specs.Answers.{count_answer, finish_answer}
use Rattle.remote_loads.specs.Causes.{behind_commit, unasked}
use Rattle.remote_loads.specs.Making.{IsMadeBy, MakesFront, answered_so, left_alone}
use Rattle.remote_loads.specs.Standing.{Stands}
use Rattle.remote_loads.specs.Talking.{IsAsked, IsUnsent, IsWayLost}

-- ---- what it is made of

-- the entries of the objects that the next commit of the client may change are dropped
pub record IsDropped (old new : ClientState) : Type 0 where
  pub dropped : HoldsUnless (λ oid. asks_for old.held.standing.asked oid) old.held.cache.entries new.held.cache.entries
  pub others : IsButCache old new

-- the next commit of the client changes nothing
abbrev pub asks_nothing : ClientState → ClientState
asks_nothing client = standing_as client (record client.held.standing { asked = nothing })

-- a commit is answered once the news behind it was heard; what refuses that leaves it open what the client knows
abbrev pub behind_finish : ℕ → Result ℕ Refusal → Result (Option ℕ) Refusal
behind_finish tid (Ok front) = Ok (Some tid)
behind_finish tid (Err r) = Err (behind_commit r)

-- and so the sync
pub data IsToldBehind {S : Type 0} (steps : Request → Reply → S → S → Type 0) (before : S) (d : DeskState) (old : ClientState) (tid : ℕ) : Result (Option ℕ) Refusal → ClientState → S → DeskState → Type 0 where
  told_behind : (synced : Result ℕ Refusal) (new : ClientState) (now : S) (left : DeskState) → IsMadeBy steps before d old calls.Sync count_answer left_alone synced new now left
      → IsToldBehind steps before d old tid (behind_finish tid synced) new now left

-- A finish: the entries that it may change are dropped and its message is sent; where that commits, the client syncs.
pub data IsFinishMade {S : Type 0} (steps : Request → Reply → S → S → Type 0) (before : S) (d : DeskState) (old : ClientState) : Result (Option ℕ) Refusal → ClientState → S → DeskState → Type 0 where
  finish_refused : (mid : ClientState) (result : Result Answer Refusal) (r : Refusal) (new : ClientState) (now : S) (left : DeskState) → IsDropped old mid
      → IsAsked steps before d mid calls.TpcFinish result new now left → answered_so finish_answer result ≡ Err r → IsFinishMade steps before d old (Err r) new now left
  finish_empty : (mid : ClientState) (result : Result Answer Refusal) (new : ClientState) (now : S) (left : DeskState) → IsDropped old mid
      → IsAsked steps before d mid calls.TpcFinish result new now left → answered_so finish_answer result ≡ Ok None → IsFinishMade steps before d old (Ok None) (asks_nothing new) now left
  finish_commits : (mid : ClientState) (result : Result Answer Refusal) (tid : ℕ) (new : ClientState) (now : S) (left : DeskState) (told : Result (Option ℕ) Refusal) (last : ClientState) (end : S) (gone : DeskState)
      → IsDropped old mid → IsAsked steps before d mid calls.TpcFinish result new now left → answered_so finish_answer result ≡ Ok (Some tid)
      → IsToldBehind steps now left (asks_nothing new) tid told last end gone → IsFinishMade steps before d old told last end gone

-- ---- what it makes

-- no step was made, or a finish, or a finish that committed and a front behind it
pub data FinishSteps {S : Type 0} (steps : Request → Reply → S → S → Type 0) (before : S) : S → Type 0 where
  no_finish : FinishSteps steps before before
  one_finish : (reply : Reply) (now : S) → steps request.Finish reply before now → FinishSteps steps before now
  finish_and_front : (tid : ℕ) (reply : Reply) (between now : S) → steps request.Finish (replies.Committed tid) before between → steps request.Front reply between now → FinishSteps steps before now

-- A finish wasn't sent, or its answer was lost; or it is answered as its reply says, which is none of a commit; or it committed, the front behind it was made, and one
-- more, if its answer wasn't lost.
pub data IsRemoteFinish {S : Type 0} (steps : Request → Reply → S → S → Type 0) (before : S) : Result (Option ℕ) Refusal → S → Type 0 where
  not_finished : (error : AskError) → IsUnsent calls.TpcFinish error → IsRemoteFinish steps before (Err (unasked error)) before
  finish_lost : (r : Refusal) (now : S) → IsWayLost r → FinishSteps steps before now → IsRemoteFinish steps before (Err r) now
  finish_answered : (reply : Reply) (now : S) → steps request.Finish reply before now → committed_tid reply ≡ None
      → IsRemoteFinish steps before (finish_answer (sent_answer asked.Finish (reply_answer asked.Finish reply))) now
  finish_committed : (tid : ℕ) (reply : Reply) (between middle : S) (synced : Result ℕ Refusal) (now : S) → steps request.Finish (replies.Committed tid) before between
      → steps request.Front reply between middle → MakesFront steps middle synced now → IsRemoteFinish steps before (behind_finish tid synced) now

-- ---- what it leaves

-- Where nothing was to be written the client holds no vote; where something was it knows the list as it stands, its own commit in it; and where a refusal says that
-- nothing was done it is the client that it was.
pub record FinishLeaves {S : Type 0} (steps : Request → Reply → S → S → Type 0) (machine : S → Machine) (n : ℕ) (before : S) (c : Client) (result : Result (Option ℕ) Refusal) (new : ClientState) (now : S) (left : DeskState) : Type 0 where
  pub committed : IfOk result (λ tid. MatchOption tid (Stands (machine now) n left new (unvoted c)) (λ tid. Stands (machine now) n left new (committed (view_of (server_at (machine now))) c)))
  pub same : IfErr result (λ r. IsNothingDone r → Stands (machine now) n left new c)
  pub made : IsRemoteFinish steps before result now
