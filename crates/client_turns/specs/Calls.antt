-- What a line leaves that a connection answers, over any loads: what its call promises, and what is answered of that. Own.
use Rattle.std.specs.Prelude.{◌≡◌, ◌≢◌, ◌⊎◌, ℕ, List, Option, Some, None, Result, Ok, Err, true, IfErr, IfOk, IsOk, MatchOption, OnErr, OnOk, length}
use Rattle.zb_model.specs.declared.data.Content.TheVariants.{Held}
use Rattle.zb_model.specs.declared.pending.PendingStore.{PendingStore}
use Rattle.zb_model.specs.declared.refusal.Refusal.{Refusal}
use Rattle.zb_model.specs.declared.refusal.Refusal.TheVariants as refusal
use Rattle.zb_answers.specs.declared.answer.Answer.{Answer}
use Rattle.zb_answers.specs.declared.answer.Answer.TheVariants as answer
use Rattle.zb_script.specs.declared.line.Line.{Line}
use Rattle.zb_script.specs.declared.line.Line.TheVariants as line
use Rattle.commit_phases.specs.Pending.{pending_of}
use Rattle.connection_view.specs.declared.connection.Connection.{Connection}
use Rattle.connection_view.specs.Works.{Work}
use Rattle.connection_view.specs.Connections.{Between, InView, IsCallMade, IsFrontBy, IsNewWork, IsPutAsRead, IsReadBy, LeavesWork, begin_refusal, changeable, checked_in_work, deleted_in_work, followed_by, rolled_back, saved, stored_in_work, unmixed, waiting_read, work_of}
use Rattle.connection_view.specs.Loading.{Abort, Finish, IsNothingDone, LoadsCall, Reads, Undo, Vote}
use Rattle.connection_view.specs.Views.{Client, Server, View, committed, each_object, renewed, stored_in, unvoted, view_of, voting}
use Rattle.client_turns.specs.Asking.{answered, begun_as, delivered_with, finished_as, saved_as}
use Rattle.client_turns.specs.Lines.{data_of, object_of}

-- what is answered of a call that gives nothing
abbrev pub done_as : Answer → Result (Unit {0}) Refusal → Answer
done_as a r = answered r a

-- Over loads that stand as S says: which client may be at this end, the view that a front gives to it, the calls that may have been made between two of them, and what stands at the other end.
module _ {S : Type 0} (here : S → Client → Type 0) (fresh : S → Client → View) (may : S → LoadsCall → S → Type 0) (server : S → Server) where
  module _ (x : Connection) (a : S) where
    pub record CallsBegin (reply : Answer) (y : Connection) (b : S) : Type 0 where
      pub result : Result ℕ Refusal
      pub answer : reply ≡ begun_as result
      pub front : IfOk result (λ front. (v : Client) → here a v → front ≡ (fresh a v).front)
      pub begun : IfOk result (λ front. (w : Work) × (work_of y ≡ Ok w) × IsNewWork front w)
      pub view : OnOk result ((v : Client) → here a v → Between x v → InView y (fresh a v) (renewed (fresh a v) v))
      pub stands : OnOk result ((v : Client) → here a v → here b (renewed (fresh a v) v))
      pub refused : (r : Refusal) → begin_refusal (work_of x) ≡ Some r → (result ≡ Err r) × (b ≡ a)
      pub makes : begin_refusal (work_of x) ≡ None → IsFrontBy may a b result
      pub err : OnErr result (y ≡ x)

    -- a change, for which no call is made: what the transaction becomes by it, and what is answered
    pub record CallsChange {T : Type 0} (f : Work → Result Work Refusal) (said : Result T Refusal → Answer) (reply : Answer) (y : Connection) (b : S) : Type 0 where
      pub result : Result T Refusal
      pub answer : reply ≡ said result
      pub leaves : LeavesWork (followed_by (changeable (work_of x)) f) (work_of x) (work_of y) result
      pub kept : b ≡ a
      pub view : (u : View) (v : Client) → InView x u v → InView y u v
      pub between : (v : Client) → Between x v → Between y v

    -- a savepoint has the next number
    pub record CallsSave (reply : Answer) (y : Connection) (b : S) : Type 0 where
      pub change : CallsChange saved saved_as reply y b
      pub number : IfOk change.result (λ number. (w : Work) → work_of x ≡ Ok w → number ≡ length w.savepoints)

    pub record CallsFinish (reply : Answer) (y : Connection) (b : S) : Type 0 where
      pub result : Result (Option ℕ) Refusal
      pub answer : reply ≡ finished_as result
      pub ended : OnOk result (work_of y ≡ Err refusal.NoTransaction)
      pub left : IfOk result (λ tid. MatchOption tid ((u : View) (v : Client) → here a v → InView x u v → (here b (unvoted v)) × (Between y (unvoted v)))
          (λ tid. (u : View) (v : Client) → here a v → InView x u v → (here b (committed (view_of (server b)) v)) × (Between y (committed (view_of (server b)) v))))
      pub refused : (r : Refusal) → work_of x ≡ Err r → (result ≡ Err r) × (b ≡ a)
      pub makes : (w : Work) → work_of x ≡ Ok w → may a (Finish result) b
      pub err : OnErr result (y ≡ x)
      pub same : IfErr result (λ r. IsNothingDone r → (v : Client) → here a v → here b v)

    pub record CallsAbort (reply : Answer) (y : Connection) (b : S) : Type 0 where
      pub result : Result (Unit {0}) Refusal
      pub answer : reply ≡ answered result answer.Aborted
      pub ended : OnOk result (work_of y ≡ Err refusal.NoTransaction)
      pub dropped : OnOk result ((u : View) (v : Client) → here a v → InView x u v → (here b (unvoted v)) × (Between y (unvoted v)))
      pub refused : (r : Refusal) → work_of x ≡ Err r → (result ≡ Err r) × (b ≡ a)
      pub makes : (w : Work) → work_of x ≡ Ok w → may a (Abort result) b
      pub err : OnErr result (y ≡ x)
      pub same : OnErr result ((v : Client) → here a v → here b v)

    -- a delivery: the connection is told of the view that is fresh
    pub record CallsDeliver (reply : Answer) (y : Connection) (b : S) : Type 0 where
      pub result : Result ℕ Refusal
      pub answer : reply ≡ delivered_with result
      pub front : IfOk result (λ front. (v : Client) → here a v → front ≡ (fresh a v).front)
      pub view : OnOk result ((u : View) (v : Client) → here a v → InView x u v → InView y u (renewed (fresh a v) v))
      pub between : OnOk result ((v : Client) → here a v → Between x v → Between y (renewed (fresh a v) v))
      pub stands : OnOk result ((v : Client) → here a v → here b (renewed (fresh a v) v))
      pub refused : work_of x ≡ Err refusal.NotOpen → (result ≡ Err refusal.NotOpen) × (b ≡ a)
      pub makes : (work_of x ≢ Err refusal.NotOpen) → IsFrontBy may a b result
      pub work : work_of y ≡ work_of x
      pub err : OnErr result (y ≡ x)

    -- a vote, and what is answered of it
    pub record CallsVote (user description : List ℕ) (said : Result (Unit {0}) Refusal → Answer) (reply : Answer) (y : Connection) (b : S) : Type 0 where
      pub result : Result (Unit {0}) Refusal
      pub answer : reply ≡ said result
      pub voted : OnOk result ((w : Work) → work_of x ≡ Ok w → work_of y ≡ Ok (record w { is_voted = true }))
      pub err : OnErr result (work_of y ≡ work_of x)
      pub view : (u : View) (v : Client) (w : Work) → work_of x ≡ Ok w → here a v → InView x u v
          → (now : Client) × (here b now) × (InView y u now) × ((now ≡ v) ⊎ (now ≡ voting (stored_in w.pending.stores) v))
      pub refused : (r : Refusal) → changeable (work_of x) ≡ Err r → (result ≡ Err r) × (b ≡ a) × (y ≡ x)
      pub makes : (w : Work) → changeable (work_of x) ≡ Ok w → IsCallMade may a b (Vote user description w.pending.stores w.pending.checks result) result

    pub record CallsUndo (user description tids : List ℕ) (said : Result (Unit {0}) Refusal → Answer) (reply : Answer) (y : Connection) (b : S) : Type 0 where
      pub result : Result (Unit {0}) Refusal
      pub answer : reply ≡ said result
      pub voted : OnOk result ((w : Work) → work_of x ≡ Ok w → work_of y ≡ Ok (record w { is_voted = true }))
      pub err : OnErr result (work_of y ≡ work_of x)
      pub view : (u : View) (v : Client) → IsOk (followed_by (changeable (work_of x)) unmixed) → here a v → InView x u v → (here b (voting each_object v)) × (InView y u (voting each_object v))
      pub refused : (r : Refusal) → followed_by (changeable (work_of x)) unmixed ≡ Err r → (result ≡ Err r) × (b ≡ a) × (y ≡ x)
      pub makes : IsOk (followed_by (changeable (work_of x)) unmixed) → may a (Undo user description tids result) b

    -- what an object has in the view of the transaction
    pub record CallsRead (oid : ℕ) (result : Result (ℕ × List ℕ) Refusal) (y : Connection) (b : S) : Type 0 where
      pub reads : (u : View) (v : Client) → here a v → InView x u v → Reads u (server a) oid result
      pub view : (u : View) (v : Client) → here a v → InView x u v → InView y u v
      pub between : (v : Client) → Between x v → Between y v
      pub stands : (v : Client) → here a v → here b v
      pub refused : (r : Refusal) → work_of x ≡ Err r → (result ≡ Err r) × (b ≡ a)
      pub makes : (w : Work) → work_of x ≡ Ok w → IsReadBy may a b oid w.front w.switches result
      pub work : work_of y ≡ work_of x

    -- what waits for it, or else that
    pub record CallsGet (oid : ℕ) (result : Result (ℕ × List ℕ) Refusal) (y : Connection) (b : S) : Type 0 where
      pub waiting : (w : Work) (p : PendingStore) → work_of x ≡ Ok w → pending_of w.pending.stores oid ≡ Some p → ((result ≡ waiting_read oid p) ⊎ (result ≡ Err refusal.Memory)) × (b ≡ a)
      pub reads : (w : Work) → work_of x ≡ Ok w → pending_of w.pending.stores oid ≡ None → (u : View) (v : Client) → here a v → InView x u v → Reads u (server a) oid result
      pub view : (u : View) (v : Client) → here a v → InView x u v → InView y u v
      pub between : (v : Client) → Between x v → Between y v
      pub stands : (v : Client) → here a v → here b v
      pub refused : (r : Refusal) → work_of x ≡ Err r → (result ≡ Err r) × (b ≡ a)
      pub makes : (w : Work) → work_of x ≡ Ok w → pending_of w.pending.stores oid ≡ None → IsReadBy may a b oid w.front w.switches result
      pub work : work_of y ≡ work_of x

    pub record CallsPut (oid : ℕ) (bytes : List ℕ) (reply : Answer) (y : Connection) (b : S) : Type 0 where
      pub result : Result (Unit {0}) Refusal
      pub answer : reply ≡ answered result answer.Stored
      pub waiting : (w : Work) (p : PendingStore) → changeable (work_of x) ≡ Ok w → pending_of w.pending.stores oid ≡ Some p
          → LeavesWork (stored_in_work (record { oid = oid; base = p.base; content = Held bytes }) w) (work_of x) (work_of y) result × (b ≡ a)
      pub reads : (w : Work) → changeable (work_of x) ≡ Ok w → pending_of w.pending.stores oid ≡ None → IsPutAsRead may (here a) (server a) a b x y w oid bytes result
      pub refused : (r : Refusal) → changeable (work_of x) ≡ Err r → (result ≡ Err r) × (b ≡ a) × (work_of y ≡ work_of x)
      pub view : (u : View) (v : Client) → here a v → InView x u v → InView y u v
      pub between : (v : Client) → Between x v → Between y v

    -- a line that a connection answers
    abbrev pub Calls : Line → Answer → Connection → S → Type 0
    Calls line.Begin reply y b = CallsBegin reply y b
    Calls (line.Load oid) reply y b = (result : Result (ℕ × List ℕ) Refusal) × (reply ≡ data_of result) × CallsRead oid result y b
    Calls (line.Get oid) reply y b = (result : Result (ℕ × List ℕ) Refusal) × (reply ≡ object_of result) × CallsGet oid result y b
    Calls (line.Store oid base bytes) reply y b = CallsChange (stored_in_work (record { oid = oid; base = base; content = Held bytes })) (done_as answer.Stored) reply y b
    Calls (line.Put oid bytes) reply y b = CallsPut oid bytes reply y b
    Calls (line.Check oid serial) reply y b = CallsChange (checked_in_work (record { oid = oid; serial = serial })) (done_as answer.Checked) reply y b
    Calls (line.Delete oid base) reply y b = CallsChange (deleted_in_work oid base) (done_as answer.Deleted) reply y b
    Calls line.Savepoint reply y b = CallsSave reply y b
    Calls (line.Rollback number) reply y b = CallsChange (rolled_back number) (done_as (answer.Rolled number)) reply y b
    Calls (line.Vote user description) reply y b = CallsVote user description (done_as answer.Voted) reply y b
    Calls (line.Undo user description tids) reply y b = CallsUndo user description tids (done_as answer.Voted) reply y b
    Calls line.Finish reply y b = CallsFinish reply y b
    Calls line.Abort reply y b = CallsAbort reply y b
    Calls line.Deliver reply y b = CallsDeliver reply y b
    Calls _ reply y b = ⊥

    -- and so, or for want of memory nothing was called
    pub data CallsLine (l : Line) (reply : Answer) (y : Connection) (b : S) : Type 0 where
      is_unmade : reply ≡ answer.Refused refusal.Memory → y ≡ x → b ≡ a → CallsLine l reply y b
      is_made : Calls l reply y b → CallsLine l reply y b
