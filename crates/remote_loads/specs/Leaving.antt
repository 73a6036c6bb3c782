-- What the calls of a remote client leave of it, answer and make, over a carrier that tells. Own.
use Rattle.std.specs.Prelude.{ℕ, ◌≤◌, List, IfOk, OnErr, OnOk, Result}
use Rattle.zb_model.specs.declared.pending.PendingCheck.{PendingCheck}
use Rattle.zb_model.specs.declared.pending.PendingStore.{PendingStore}
use Rattle.zb_model.specs.declared.refusal.Refusal.{Refusal}
use Rattle.zodb_core.specs.declared.reply.Reply.{Reply}
use Rattle.zodb_core.specs.declared.request.Request.{Request}
use Rattle.zodb_core.specs.declared.request.Request.TheVariants as request
use Rattle.zodb_core.specs.Machine.{Machine}
use Rattle.connection_view.specs.declared.loads.Loaded.{Loaded}
use Rattle.connection_view.specs.Loading.{IsLoaded}
use Rattle.connection_view.specs.Views.{Client, each_object, stored_in, unvoted, voting}
use Rattle.zeo_messages.specs.declared.call.Call.TheVariants as calls
use Rattle.zeo_desk.specs.Desks.{DeskState}
use Rattle.zeo_serving.specs.Serving.{server_at, synced, view_at}
use Rattle.zeo_client.specs.Taking.{ClientState}
use Rattle.remote_loads.specs.Answers.{done_answer, oid_answer}
use Rattle.remote_loads.specs.Making.{IsRemoteLoad, IsRemoteUndo, IsRemoteVote, MakesFront, MakesOne}
use Rattle.remote_loads.specs.Standing.{Stands}

-- what a load leaves, answers and makes
pub record LoadLeaves {S : Type 0} (steps : Request → Reply → S → S → Type 0) (machine : S → Machine) (n : ℕ) (before : S) (d : DeskState) (old : ClientState) (oid front : ℕ) (c : Client) (result : Result Loaded Refusal) (new : ClientState) (now : S) (left : DeskState) : Type 0 where
  pub stands : Stands (machine now) n left new c
  pub loaded : IfOk result (λ l. front ≤ c.told.front → IsLoaded oid front c.told (server_at (machine before)) l)
  pub made : IsRemoteLoad steps before old.held oid front result now

-- and so a new number, and an abort
pub record OidLeaves {S : Type 0} (steps : Request → Reply → S → S → Type 0) (machine : S → Machine) (n : ℕ) (before : S) (c : Client) (result : Result ℕ Refusal) (new : ClientState) (now : S) (left : DeskState) : Type 0 where
  pub stands : Stands (machine now) n left new c
  pub made : MakesOne steps (request.NewOids 1) (calls.NewOids 1) oid_answer before result now

pub record AbortLeaves {S : Type 0} (steps : Request → Reply → S → S → Type 0) (machine : S → Machine) (n : ℕ) (before : S) (c : Client) (result : Result (Unit {0}) Refusal) (new : ClientState) (now : S) (left : DeskState) : Type 0 where
  pub unvoted : OnOk result (Stands (machine now) n left new (unvoted c))
  pub same : OnErr result (Stands (machine now) n left new c)
  pub made : MakesOne steps request.Abort calls.TpcAbort done_answer before result now

-- and a vote and an undo: whether they are refused or not, the next commit of the client may change what they ask for
pub record VoteLeaves {S : Type 0} (steps : Request → Reply → S → S → Type 0) (machine : S → Machine) (n : ℕ) (before : S) (user description : List ℕ) (stores : List PendingStore) (checks : List PendingCheck) (c : Client) (result : Result (Unit {0}) Refusal) (new : ClientState) (now : S) (left : DeskState) : Type 0 where
  pub stands : Stands (machine now) n left new (voting (stored_in stores) c)
  pub made : IsRemoteVote steps before user description stores checks result now

pub record UndoLeaves {S : Type 0} (steps : Request → Reply → S → S → Type 0) (machine : S → Machine) (n : ℕ) (before : S) (user description tids : List ℕ) (c : Client) (result : Result (Unit {0}) Refusal) (new : ClientState) (now : S) (left : DeskState) : Type 0 where
  pub stands : Stands (machine now) n left new (voting each_object c)
  pub made : IsRemoteUndo steps before user description tids result now

-- And a sync. Where it is answered, the client knows the list as it stood. One front at most is made: its answer was lost, or the sync is answered as it is, whatever number
-- that has.
abbrev pub SyncLeaves : {S T : Type 0} → (Request → Reply → S → S → Type 0) → (S → Machine) → ℕ → S → Client → Result T Refusal → ClientState → S → DeskState → Type 0
SyncLeaves steps machine n before c result new now left = OnOk result (Stands (machine now) n left new (synced (view_at (machine before)) c)) × MakesFront steps before result now
