-- What lines of a client with a link leave over a carrier, whatever that is: what the calls of its connection promise, by what stands at both ends of the link. Own.
use Rattle.std.specs.Prelude.{◌≡◌, ◌≢◌, ◌⊎◌, ℕ, ◌-◌, List, [], Option, Some, None, Result, Ok, Err, Bool, true, IfErr, IfOk, IsOk, MatchOption, OnErr, OnOk, if◌then◌else◌, length, nat_le}
use Rattle.zb_model.specs.declared.data.Content.TheVariants.{Held}
use Rattle.zb_model.specs.declared.pending.PendingStore.{PendingStore}
use Rattle.zb_model.specs.declared.refusal.Refusal.{Refusal}
use Rattle.zb_model.specs.declared.refusal.Refusal.TheVariants as refusal
use Rattle.zb_answers.specs.declared.answer.Answer.{Answer}
use Rattle.zb_answers.specs.declared.answer.Answer.TheVariants as answer
use Rattle.zb_script.specs.declared.line.Line.{Line}
use Rattle.zb_script.specs.declared.line.Line.TheVariants as line
use Rattle.commit_phases.specs.Pending.{pending_of}
use Rattle.zodb_core.specs.declared.reply.Reply.{Reply}
use Rattle.zodb_core.specs.declared.request.Request.{Request}
use Rattle.zodb_core.specs.Machine.{Machine}
use Rattle.connection_view.specs.declared.connection.Connection.{Connection}
use Rattle.connection_view.specs.Works.{Work}
use Rattle.connection_view.specs.Connections.{Between, InView, IsFrontBy, IsNewWork, IsReadBy, LeavesWork, base_read, begin_refusal, changeable, checked_in_work, deleted_in_work, followed_by, rolled_back, saved, stored_all, stored_in_work, unmixed, waiting_read, work_of}
use Rattle.connection_view.specs.Connections as connections
use Rattle.connection_view.specs.Loading.{Abort, Finish, IsNothingDone, LoadsCall, Reads, Undo, Vote}
use Rattle.connection_view.specs.Views.{Client, Server, View, committed, each_object, renewed, stored_in, unvoted, view_of, voting}
use Rattle.zeo_client.specs.Taking.{ClientState}
use Rattle.zeo_desk.specs.Desks.{DeskState}
use Rattle.zeo_frames.specs.declared.limit.TheConstants.{FRAME_LIMIT}
use Rattle.zeo_serving.specs.Serving.{server_at}
use Rattle.remote_loads.specs.Leaving.{SyncLeaves}
use Rattle.remote_loads.specs.Relating.{IsCallMade}
use Rattle.remote_loads.specs.Standing.{Stands}
use Rattle.client_turns.specs.Asking.{answered}
use Rattle.client_turns.specs.Calls.{CallsAbort, CallsBegin, CallsChange, CallsDeliver, CallsFinish, CallsGet, CallsRead, CallsSave, CallsUndo, CallsVote, done_as}
use Rattle.client_turns.specs.Lines.{data_of, object_of}

-- ---- both ends of a link

-- at the other end what its carrier tells, with the session and its desk; at this one the client
pub record LinkAt (E : Type 0) : Type 0 where
  pub there : E
  pub session : ℕ
  pub desk : DeskState
  pub client : ClientState

abbrev pub link_at : {E : Type 0} → E → ℕ → DeskState → ClientState → LinkAt E
link_at there session desk client = record { there = there; session = session; desk = desk; client = client }

-- ---- what was read

-- bytes for which the shortest answer that they may have come in fits a frame
abbrev pub is_fitting : List ℕ → Bool
is_fitting bytes = nat_le (length bytes) (FRAME_LIMIT - 51)

-- What was read over a link, which has fitted a frame. Where it couldn't have, there was no memory: so it never is.
abbrev pub fitting : Result (ℕ × List ℕ) Refusal → Result (ℕ × List ℕ) Refusal
fitting (Ok d) = if is_fitting d.1 then Ok d else Err refusal.Memory
fitting (Err r) = Err r

-- ---- what was asked for

-- What is heard of a vote or an undo. Where it says that a message was bad, the answer was lost, or there was none: a conflict that names a key in no spelling of one; tids of
-- an undo that don't fall, which no line of a script has.
abbrev pub heard_of : Result (Unit {0}) Refusal → Result (Unit {0}) Refusal
heard_of (Err refusal.BadMessage) = Err refusal.Memory
heard_of r = r

-- what is answered of one
abbrev pub heard_as : Result (Unit {0}) Refusal → Answer
heard_as r = answered (heard_of r) answer.Voted

module _ {E : Type 0} (told : Type 0) (steps : ℕ → Request → Reply → E → E → Type 0) (machine : E → Machine) where
  -- the client that may be at this link
  abbrev pub MayBeAt : LinkAt E → Client → Type 0
  MayBeAt l v = told × Stands (machine l.there) l.session l.desk l.client v

  -- a call that may have been made from these ends to those
  abbrev pub MakesAt : LinkAt E → LoadsCall → LinkAt E → Type 0
  MakesAt a call b = told → (v : Client) → Stands (machine a.there) a.session a.desk a.client v → IsCallMade (steps a.session) a.there a.client call b.there

  -- and a sync, which is no call of a connection
  abbrev pub HearsAt : LinkAt E → Result ℕ Refusal → LinkAt E → Type 0
  HearsAt a result b = told → (v : Client) → Stands (machine a.there) a.session a.desk a.client v → SyncLeaves (steps a.session) machine a.session a.there v result b.client b.there b.desk

  -- what stands at the other end
  abbrev pub server_there : LinkAt E → Server
  server_there l = server_at (machine l.there)

  -- ---- calls of a connection, from these ends to those

  -- what a front gives to a client at this link: the view that it knows
  abbrev pub known_view : LinkAt E → Client → View
  known_view l v = v.known

  abbrev pub BeginOver : Connection → LinkAt E → Answer → Connection → LinkAt E → Type 0
  BeginOver x a reply y b = CallsBegin MayBeAt known_view MakesAt server_there x a reply y b

  abbrev pub ChangeOver : {T : Type 0} → Connection → LinkAt E → (Work → Result Work Refusal) → (Result T Refusal → Answer) → Answer → Connection → LinkAt E → Type 0
  ChangeOver x a f said reply y b = CallsChange MayBeAt known_view MakesAt server_there x a f said reply y b

  abbrev pub SaveOver : Connection → LinkAt E → Answer → Connection → LinkAt E → Type 0
  SaveOver x a reply y b = CallsSave MayBeAt known_view MakesAt server_there x a reply y b

  abbrev pub FinishOver : Connection → LinkAt E → Answer → Connection → LinkAt E → Type 0
  FinishOver x a reply y b = CallsFinish MayBeAt known_view MakesAt server_there x a reply y b

  abbrev pub AbortOver : Connection → LinkAt E → Answer → Connection → LinkAt E → Type 0
  AbortOver x a reply y b = CallsAbort MayBeAt known_view MakesAt server_there x a reply y b

  -- the connection is told what its client knows
  abbrev pub ToldOver : Connection → LinkAt E → Answer → Connection → LinkAt E → Type 0
  ToldOver x a reply y b = CallsDeliver MayBeAt known_view MakesAt server_there x a reply y b

  abbrev pub VoteOver : Connection → LinkAt E → List ℕ → List ℕ → Answer → Connection → LinkAt E → Type 0
  VoteOver x a user description reply y b = CallsVote MayBeAt known_view MakesAt server_there x a user description heard_as reply y b

  abbrev pub UndoOver : Connection → LinkAt E → List ℕ → List ℕ → List ℕ → Answer → Connection → LinkAt E → Type 0
  UndoOver x a user description tids reply y b = CallsUndo MayBeAt known_view MakesAt server_there x a user description tids heard_as reply y b

  abbrev pub ReadOver : Connection → LinkAt E → ℕ → Result (ℕ × List ℕ) Refusal → Connection → LinkAt E → Type 0
  ReadOver x a oid result y b = CallsRead MayBeAt known_view MakesAt server_there x a oid result y b

  abbrev pub GotOver : Connection → LinkAt E → ℕ → Result (ℕ × List ℕ) Refusal → Connection → LinkAt E → Type 0
  GotOver x a oid result y b = CallsGet MayBeAt known_view MakesAt server_there x a oid result y b

  module _ (x : Connection) (a : LinkAt E) where
    -- what was read of it has fitted a frame
    abbrev pub FittingOver : ℕ → Result (ℕ × List ℕ) Refusal → Connection → LinkAt E → Type 0
    FittingOver oid result y b = (raw : Result (ℕ × List ℕ) Refusal) × (result ≡ fitting raw) × GotOver x a oid raw y b

    -- what waits may be changed, or why it may not; it stays as it is
    pub record MayChangeOver (result : Result (Unit {0}) Refusal) (y : Connection) : Type 0 where
      pub leaves : LeavesWork (followed_by (changeable (work_of x)) (stored_all [])) (work_of x) (work_of y) result
      pub view : (u : View) (v : Client) → InView x u v → InView y u v
      pub between : (v : Client) → Between x v → Between y v

  -- A put: what waits may not be changed; or what the object has can't be read; or it is stored as made from that.
  pub data PutOver (x : Connection) (a : LinkAt E) (oid : ℕ) (bytes : List ℕ) (reply : Answer) (y : Connection) (b : LinkAt E) : Type 0 where
    put_refused : (r : Refusal) → MayChangeOver x a (Err r) y → b ≡ a → reply ≡ answer.Refused r → PutOver x a oid bytes reply y b
    put_unread : (mid : Connection) (result : Result (ℕ × List ℕ) Refusal) (r : Refusal) → MayChangeOver x a (Ok tt) mid → FittingOver mid a oid result y b → base_read result ≡ Err r → reply ≡ answer.Refused r
        → PutOver x a oid bytes reply y b
    put_read : (mid : Connection) (result : Result (ℕ × List ℕ) Refusal) (base : ℕ) (read : Connection) → MayChangeOver x a (Ok tt) mid → FittingOver mid a oid result read b → base_read result ≡ Ok base
        → ChangeOver read b (stored_in_work (record { oid = oid; base = base; content = Held bytes })) (done_as answer.Stored) reply y b → PutOver x a oid bytes reply y b

  -- ---- lines

  abbrev pub LoadOver : Connection → LinkAt E → ℕ → Answer → Connection → LinkAt E → Type 0
  LoadOver x a oid reply y b = (result : Result (ℕ × List ℕ) Refusal) × (reply ≡ data_of (fitting result)) × ReadOver x a oid result y b

  abbrev pub GetOver : Connection → LinkAt E → ℕ → Answer → Connection → LinkAt E → Type 0
  GetOver x a oid reply y b = (result : Result (ℕ × List ℕ) Refusal) × (reply ≡ object_of result) × FittingOver x a oid result y b

  -- a delivery: the client asks for the news, and where that is answered its connection is told
  pub data DeliverOver (x : Connection) (a : LinkAt E) (reply : Answer) (y : Connection) (b : LinkAt E) : Type 0 where
    unheard : (r : Refusal) → HearsAt a (Err r) b → reply ≡ answer.Refused r → y ≡ x → DeliverOver x a reply y b
    heard : (front : ℕ) (mid : LinkAt E) → HearsAt a (Ok front) mid → mid.session ≡ a.session → ToldOver x mid reply y b → DeliverOver x a reply y b

  -- a line that a connection answers
  abbrev pub CalledOver : Line → Connection → LinkAt E → Answer → Connection → LinkAt E → Type 0
  CalledOver line.Begin x a reply y b = BeginOver x a reply y b
  CalledOver (line.Load oid) x a reply y b = LoadOver x a oid reply y b
  CalledOver (line.Get oid) x a reply y b = GetOver x a oid reply y b
  CalledOver (line.Store oid base bytes) x a reply y b = ChangeOver x a (stored_in_work (record { oid = oid; base = base; content = Held bytes })) (done_as answer.Stored) reply y b
  CalledOver (line.Put oid bytes) x a reply y b = PutOver x a oid bytes reply y b
  CalledOver (line.Check oid serial) x a reply y b = ChangeOver x a (checked_in_work (record { oid = oid; serial = serial })) (done_as answer.Checked) reply y b
  CalledOver (line.Delete oid base) x a reply y b = ChangeOver x a (deleted_in_work oid base) (done_as answer.Deleted) reply y b
  CalledOver line.Savepoint x a reply y b = SaveOver x a reply y b
  CalledOver (line.Rollback number) x a reply y b = ChangeOver x a (rolled_back number) (done_as (answer.Rolled number)) reply y b
  CalledOver (line.Vote user description) x a reply y b = VoteOver x a user description reply y b
  CalledOver (line.Undo user description tids) x a reply y b = UndoOver x a user description tids reply y b
  CalledOver line.Finish x a reply y b = FinishOver x a reply y b
  CalledOver line.Abort x a reply y b = AbortOver x a reply y b
  CalledOver line.Deliver x a reply y b = DeliverOver x a reply y b
  CalledOver _ x a reply y b = ⊥

  -- and so, or for want of memory nothing was called
  pub data LineOver (l : Line) (x : Connection) (a : LinkAt E) (reply : Answer) (y : Connection) (b : LinkAt E) : Type 0 where
    uncalled : reply ≡ answer.Refused refusal.Memory → y ≡ x → b ≡ a → LineOver l x a reply y b
    called : CalledOver l x a reply y b → LineOver l x a reply y b
