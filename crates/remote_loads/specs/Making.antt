-- What the calls of a remote client make at the other end of a carrier that tells. Own.
use Rattle.std.specs.Prelude.{◌≡◌, ◌≤◌, ℕ, List, [], Some, None, Result, Ok, Err, true}
use Rattle.std.specs.List.{AllByRecursion}
use Rattle.zb_model.specs.declared.pending.PendingCheck.{PendingCheck}
use Rattle.zb_model.specs.declared.pending.PendingStore.{PendingStore}
use Rattle.zb_model.specs.declared.refusal.Refusal.{Refusal}
use Rattle.zb_model.specs.declared.refusal.Refusal.TheVariants as refusal
use Rattle.zodb_core.specs.declared.reply.Reply.{Reply}
use Rattle.zodb_core.specs.declared.request.Request.{Request}
use Rattle.zodb_core.specs.declared.request.Request.TheVariants as request
use Rattle.connection_view.specs.declared.loads.Loaded.{Loaded}
use Rattle.connection_view.specs.declared.loads.Loaded.TheVariants as loaded
use Rattle.zeo_frames.specs.declared.limit.TheConstants.{FRAME_LIMIT}
use Rattle.zeo_messages.specs.declared.answer.Answer.{Answer}
use Rattle.zeo_messages.specs.declared.call.Call.{Call}
use Rattle.zeo_messages.specs.declared.call.Call.TheVariants as calls
use Rattle.zeo_messages.specs.Calls.{HoldsCall, fits_call, is_falling}
use Rattle.zeo_values.specs.Values.{AreIds}
use Rattle.zeo_desk.specs.Desks.{DeskState}
use Rattle.zeo_client.specs.declared.asking.AskError.{AskError}
use Rattle.zeo_client.specs.Asking.{call_frames, call_length, number_behind, vote_calls}
use Rattle.zeo_client.specs.Hearing.{Held}
use Rattle.zeo_client.specs.Renewing.{IsAskedBeside, IsButCache, found_known, nothing, standing_as}
use Rattle.zeo_client.specs.Taking.{ClientState}
use Rattle.zeo_cache.specs.Intervals.{HoldsSame}
use Rattle.remote_loads.specs.Answers.{count_answer, done_answer, load_answer}
use Rattle.remote_loads.specs.Causes.{IsUndoRefused, unasked}
use Rattle.remote_loads.specs.Talking.{IsAsked, IsUnsent, IsWayLost, Talks, answer_given}

-- One step at most: the call wasn't sent, or no step was made, or its answer was lost, or it is answered as its reply says.
pub data MakesOne {S T : Type 0} (steps : Request → Reply → S → S → Type 0) (request : Request) (call : Call) (answer_of : Answer → Result T Refusal) (before : S) : Result T Refusal → S → Type 0 where
  makes_unsent : (error : AskError) → IsUnsent call error → MakesOne steps request call answer_of before (Err (unasked error)) before
  makes_none : (r : Refusal) → IsWayLost r → MakesOne steps request call answer_of before (Err r) before
  makes_lost : (r : Refusal) (reply : Reply) (now : S) → IsWayLost r → steps request reply before now → MakesOne steps request call answer_of before (Err r) now
  makes_answered : (reply : Reply) (now : S) → steps request reply before now → MakesOne steps request call answer_of before (answer_of (answer_given request reply)) now

-- a call is answered as another one, but for what it gives
abbrev pub IsAnsweredLike : {T U : Type 0} → Result T Refusal → Result U Refusal → Type 0
IsAnsweredLike (Ok x) (Ok y) = Unit {0}
IsAnsweredLike (Err r) (Err s) = r ≡ s
IsAnsweredLike _ _ = ⊥

-- the asking for a front is one step at most, and answered so
abbrev pub MakesFront : {S T : Type 0} → (Request → Reply → S → S → Type 0) → S → Result T Refusal → S → Type 0
MakesFront steps before result now = (said : Result ℕ Refusal) × MakesOne steps request.Front calls.Sync count_answer before said now × IsAnsweredLike said result

-- ---- what is sent and taken

abbrev pub answered_so : {T : Type 0} → (Answer → Result T Refusal) → Result Answer Refusal → Result T Refusal
answered_so answer_of (Ok answer) = answer_of answer
answered_so answer_of (Err r) = Err r

-- but for the order in which entries were used last a client is as it was
pub record IsUsed (old new : ClientState) : Type 0 where
  pub same : HoldsSame old.held.cache.entries new.held.cache.entries
  pub others : IsButCache old new

-- A load: there was no memory for what is found in the cache; or it is answered by that; or else by a call.
pub data IsLoadMade {S : Type 0} (steps : Request → Reply → S → S → Type 0) (before : S) (d : DeskState) (old : ClientState) (oid front : ℕ) : Result Loaded Refusal → ClientState → S → DeskState → Type 0 where
  no_room : IsLoadMade steps before d old oid front (Err refusal.Memory) old before d
  hit : (found : ℕ × List ℕ) (new : ClientState) → found_known old.held oid front ≡ Some found → IsUsed old new → IsLoadMade steps before d old oid front (Ok (loaded.Held found.0 found.1)) new before d
  miss : (mid : ClientState) (result : Result Answer Refusal) (new : ClientState) (now : S) (left : DeskState) → found_known old.held oid front ≡ None → IsUsed old mid
      → IsAsked steps before d mid (calls.LoadBefore oid front) result new now left → IsLoadMade steps before d old oid front (answered_so load_answer result) new now left

-- ---- what is made

-- A load makes no step where the cache answers it, or there is no memory for that; else one at most.
pub data IsRemoteLoad {S : Type 0} (steps : Request → Reply → S → S → Type 0) (before : S) (old : Held) (oid front : ℕ) : Result Loaded Refusal → S → Type 0 where
  cached : (found : ℕ × List ℕ) → found_known old oid front ≡ Some found → IsRemoteLoad steps before old oid front (Ok (loaded.Held found.0 found.1)) before
  starved : IsRemoteLoad steps before old oid front (Err refusal.Memory) before
  missed : (result : Result Loaded Refusal) (now : S) → found_known old oid front ≡ None
      → MakesOne steps (request.LoadBefore oid front) (calls.LoadBefore oid front) load_answer before result now → IsRemoteLoad steps before old oid front result now

-- A call that is made by its message alone, what is left of the client then being a matter of the result.
pub data IsMadeBy {S T : Type 0} (steps : Request → Reply → S → S → Type 0) (before : S) (d : DeskState) (old : ClientState) (call : Call) (answer_of : Answer → Result T Refusal) (left_by : Result T Refusal → ClientState → ClientState) : Result T Refusal → ClientState → S → DeskState → Type 0 where
  made_by : (result : Result Answer Refusal) (new : ClientState) (now : S) (left : DeskState) → IsAsked steps before d old call result new now left
      → IsMadeBy steps before d old call answer_of left_by (answered_so answer_of result) (left_by (answered_so answer_of result) new) now left

-- nothing more is done
abbrev pub left_alone : {T : Type 0} → Result T Refusal → ClientState → ClientState
left_alone result client = client

-- where the vote was dropped, the next commit of the client changes nothing
abbrev pub free_if_done : {T : Type 0} → Result T Refusal → ClientState → ClientState
free_if_done (Ok done) client = standing_as client (record client.held.standing { asked = nothing })
free_if_done (Err r) client = client

-- ---- votes and undos

-- the numbers in calls are those that their types can hold
abbrev pub AreHeld : List Call → Type 0
AreHeld made = AllByRecursion HoldsCall made

-- the client asks for votes on these stores
pub record IsAskedFor (stores : List PendingStore) (old new : ClientState) : Type 0 where
  pub asked : IsAskedBeside stores old.held.standing.asked new.held.standing.asked
  pub others : new ≡ standing_as old (record old.held.standing { asked = new.held.standing.asked })

-- it waits for the answer of a vote, whose calls were made
abbrev pub waiting_for_vote : ClientState → List Call → ClientState
waiting_for_vote client made = record client { number = number_behind client.number made; last = Some calls.Vote }

-- the messages of a vote stand in this text, and the client, which has asked for it, waits for the answer
pub record IsVoteSpelled (user description : List ℕ) (stores : List PendingStore) (checks : List PendingCheck) (old new : ClientState) (text : List ℕ) : Type 0 where
  pub mid : ClientState
  pub asked : IsAskedFor stores old mid
  pub held : AreHeld (vote_calls user description stores checks)
  pub spelled : text ≡ call_frames mid.number (vote_calls user description stores checks)
  pub waits : new ≡ waiting_for_vote mid (vote_calls user description stores checks)

-- A vote: there was no memory for its messages; or they went out.
pub data IsVoteMade {S : Type 0} (steps : Request → Reply → S → S → Type 0) (before : S) (d : DeskState) (old : ClientState) (user description : List ℕ) (stores : List PendingStore) (checks : List PendingCheck) : Result (Unit {0}) Refusal → ClientState → S → DeskState → Type 0 where
  vote_unsent : (new : ClientState) → IsAskedFor stores old new → IsVoteMade steps before d old user description stores checks (Err refusal.Memory) new before d
  vote_sent : (mid : ClientState) (result : Result Answer Refusal) (new : ClientState) (now : S) (left : DeskState) → IsAskedFor stores old mid → AreHeld (vote_calls user description stores checks)
      → Talks steps before d (waiting_for_vote mid (vote_calls user description stores checks)) (call_frames mid.number (vote_calls user description stores checks)) result new now left
      → IsVoteMade steps before d old user description stores checks (answered_so done_answer result) new now left

-- A vote makes one step at most, behind messages that make none.
pub data IsRemoteVote {S : Type 0} (steps : Request → Reply → S → S → Type 0) (before : S) (user description : List ℕ) (stores : List PendingStore) (checks : List PendingCheck) : Result (Unit {0}) Refusal → S → Type 0 where
  not_voted : IsRemoteVote steps before user description stores checks (Err refusal.Memory) before
  voted : (result : Result (Unit {0}) Refusal) (now : S) → MakesOne steps (request.Vote user description [] (record { stores = stores; checks = checks })) calls.Vote done_answer before result now
      → IsRemoteVote steps before user description stores checks result now

-- the next commit of the client may change any object
abbrev pub asks_all : ClientState → ClientState
asks_all client = standing_as client (record client.held.standing { asked = record client.held.standing.asked { all = true } })

-- An undo: its tids don't fall, or its call doesn't fit a frame, or there was no memory for it; or that was made.
pub data IsUndoMade {S : Type 0} (steps : Request → Reply → S → S → Type 0) (before : S) (d : DeskState) (old : ClientState) (user description tids : List ℕ) : Result (Unit {0}) Refusal → ClientState → S → DeskState → Type 0 where
  undo_unasked : (r : Refusal) → IsUndoRefused (calls.Undoa user description tids) (is_falling tids) r → IsUndoMade steps before d old user description tids (Err r) (asks_all old) before d
  undo_asked : (result : Result Answer Refusal) (new : ClientState) (now : S) (left : DeskState) → AreIds tids → fits_call (calls.Undoa user description tids) ≡ true → call_length (calls.Undoa user description tids) ≤ FRAME_LIMIT
      → IsAsked steps before d (asks_all old) (calls.Undoa user description tids) result new now left → IsUndoMade steps before d old user description tids (answered_so done_answer result) new now left

pub data IsRemoteUndo {S : Type 0} (steps : Request → Reply → S → S → Type 0) (before : S) (user description tids : List ℕ) : Result (Unit {0}) Refusal → S → Type 0 where
  not_undone : (r : Refusal) → IsUndoRefused (calls.Undoa user description tids) (is_falling tids) r → IsRemoteUndo steps before user description tids (Err r) before
  undone : (result : Result (Unit {0}) Refusal) (now : S) → call_length (calls.Undoa user description tids) ≤ FRAME_LIMIT → MakesOne steps (request.Undo user description tids) (calls.Undoa user description tids) done_answer before result now
      → IsRemoteUndo steps before user description tids result now
