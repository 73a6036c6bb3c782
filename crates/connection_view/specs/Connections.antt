-- What a connection has of its client, and what its calls answer and leave. Source: `Connection` of ZODB; the order of the refusals is own.
use Rattle.std.specs.Prelude.{◌≡◌, ◌⊎◌, ℕ, ◌+◌, List, [], ◌∷◌, ◌++◌, Option, Some, None, Result, Ok, Err, Bool, true, false, IsOk, length, if◌then◌else◌, not, ◌==◌, take, slice_get}
use Rattle.zb_model.specs.declared.data.Content.{Content}
use Rattle.zb_model.specs.declared.data.Content.TheVariants.{Held, Absent}
use Rattle.zb_model.specs.declared.refusal.Refusal.{Refusal}
use Rattle.zb_model.specs.declared.refusal.Refusal.TheVariants as refusal
use Rattle.object_cache.specs.declared.cache.CachedRevision.{CachedRevision}
use Rattle.object_cache.specs.CachedLaws.{EachCached}
use Rattle.zb_model.specs.declared.pending.PendingStore.{PendingStore}
use Rattle.zb_model.specs.declared.pending.PendingCheck.{PendingCheck}
use Rattle.commit_phases.specs.declared.errors.PendingError.{PendingError}
use Rattle.commit_phases.specs.declared.errors.PendingError.TheVariants as pending_error
use Rattle.commit_phases.specs.Pending.{PendingChanges, excess_with, stores_after, with_pending}
use Rattle.connection_view.specs.declared.loads.FrontView.{FrontView}
use Rattle.connection_view.specs.declared.loads.Loaded.{Loaded}
use Rattle.connection_view.specs.declared.loads.Loaded.TheVariants as loaded
use Rattle.connection_view.specs.Works.{Work}
use Rattle.connection_view.specs.declared.named.Named.{Named}
use Rattle.connection_view.specs.declared.connection.Connection.{Connection}
use Rattle.connection_view.specs.Views.{View, Server, Client, Later, current}
use Rattle.connection_view.specs.Loading.{LoadsCall, Front, Load, IsServerRefusal, Reads}
use Rattle.connection_view.specs.Named.{names}

-- ---- the open transaction

-- the open transaction, or why there is none: the connection is closed, or none is open
abbrev pub open_work : Bool → Option Work → Result Work Refusal
open_work false work = Err refusal.NotOpen
open_work true None = Err refusal.NoTransaction
open_work true (Some work) = Ok work

abbrev pub work_of : Connection → Result Work Refusal
work_of k = open_work k.is_open k.work

-- a step that may be refused, behind another one
abbrev pub followed_by : {A B : Type 0} → Result A Refusal → (A → Result B Refusal) → Result B Refusal
followed_by (Ok x) next = next x
followed_by (Err r) next = Err r

-- what isn't voted may still be changed
abbrev pub unvoted_work : Work → Result Work Refusal
unvoted_work w = if w.is_voted then Err refusal.Voted else Ok w

abbrev pub changeable : Result Work Refusal → Result Work Refusal
changeable work = followed_by work unvoted_work

-- ---- what a transaction becomes

-- a transaction that has just begun sees from a front, and nothing waits in it
pub record IsNewWork (front : ℕ) (w : Work) : Type 0 where
  pub front_is : w.front ≡ front
  pub stores : w.pending.stores ≡ []
  pub checks : w.pending.checks ≡ []
  pub savepoints : w.savepoints ≡ []
  pub unvoted : w.is_voted ≡ false

abbrev pub with_stores : Work → List PendingStore → Work
with_stores w stores = record w { pending = record { stores = stores; checks = w.pending.checks } }

abbrev pub stored_unless : Work → PendingStore → Option ℕ → Result Work Refusal
stored_unless w p None = Ok (with_stores w (with_pending w.pending.stores p))
stored_unless w p (Some length) = Err (refusal.TooLong length)

-- an object's store waits for the vote, unless a length passes a limit
abbrev pub stored_in_work : PendingStore → Work → Result Work Refusal
stored_in_work p w = stored_unless w p (excess_with w.pending.stores p)

-- what is answered of a store that waits, or doesn't
abbrev pub store_told : Result (Unit {0}) PendingError → Result (Unit {0}) Refusal
store_told (Ok done) = Ok done
store_told (Err (pending_error.TooLong length)) = Err (refusal.TooLong length)
store_told (Err pending_error.Memory) = Err refusal.Memory

-- an object's delete waits for the vote
abbrev pub deleted_in_work : ℕ → ℕ → Work → Result Work Refusal
deleted_in_work oid base w = Ok (with_stores w (with_pending w.pending.stores (record { oid = oid; base = base; content = Absent })))

abbrev pub stored_all_as : Work → Result (List PendingStore) ℕ → Result Work Refusal
stored_all_as w (Ok stores) = Ok (with_stores w stores)
stored_all_as w (Err length) = Err (refusal.TooLong length)

-- several stores and deletes wait for the vote, unless a length passes a limit
abbrev pub stored_all : List PendingStore → Work → Result Work Refusal
stored_all stores w = stored_all_as w (stores_after w.pending.stores stores)

-- a check waits for the vote, behind the others
abbrev pub checked_in_work : PendingCheck → Work → Result Work Refusal
checked_in_work check w = Ok (record w { pending = record { stores = w.pending.stores; checks = w.pending.checks ++ check ∷ [] } })

-- what waits is saved, behind the other savepoints
abbrev pub saved : Work → Result Work Refusal
saved w = Ok (record w { savepoints = w.savepoints ++ w.pending ∷ [] })

abbrev pub rolled_back_to : Work → ℕ → Option PendingChanges → Result Work Refusal
rolled_back_to w number None = Err (refusal.NoSavepoint number)
rolled_back_to w number (Some pending) = Ok (record w { pending = pending; savepoints = take (number + 1) w.savepoints })

-- what waits is what was saved under a number, whose savepoint stays and is the last one
abbrev pub rolled_back : ℕ → Work → Result Work Refusal
rolled_back number w = rolled_back_to w number (slice_get w.savepoints number)

-- how many stores, deletes and checks wait
abbrev pub waiting_count : PendingChanges → ℕ
waiting_count pending = length pending.stores + length pending.checks

-- an undo goes into a transaction in which nothing waits
abbrev pub unmixed : Work → Result Work Refusal
unmixed w = if waiting_count w.pending == 0 then Ok w else Err (refusal.Mixed (waiting_count w.pending))

-- A transaction that should become the next one, or be refused so, has become it or was refused so; or there was no memory. What is refused leaves it
-- as it was.
abbrev pub LeavesWork : {T : Type 0} → Result Work Refusal → Result Work Refusal → Result Work Refusal → Result T Refusal → Type 0
LeavesWork next old new (Ok x) = (new ≡ next) × IsOk next
LeavesWork next old new (Err r) = ((next ≡ Err r) ⊎ (r ≡ refusal.Memory)) × (new ≡ old)

-- a transaction sees from where it saw, or there is none as there was none
abbrev pub KeepsSight : Option Work → Option Work → Type 0
KeepsSight None None = Unit {0}
KeepsSight None (Some w) = ⊥
KeepsSight (Some v) None = ⊥
KeepsSight (Some v) (Some w) = (w.front ≡ v.front) × (w.switches ≡ v.switches)

-- ---- what is cached

-- each cached revision is the one that its object has in the view
abbrev pub CachesView : View → List (ℕ × CachedRevision) → Type 0
CachesView u objects = EachCached (λ oid serial bytes. current u oid ≡ Some (serial, bytes)) objects

-- Of objects that aren't named, each cached revision is the one that its object has in the view that the client was told of, and no commit of its
-- own has changed it since.
abbrev pub CachesTold : Client → Named → List (ℕ × CachedRevision) → Type 0
CachesTold c stale objects =
    EachCached (λ oid serial bytes. names stale oid ≡ false → (c.own oid ≡ false) × (current c.told oid ≡ Some (serial, bytes))) objects

-- ---- a connection and its client

-- This client's transaction reads the view u: it sees from that front, and what is cached is what the view has. The client was told of a later
-- view, if of another, which differs from u only where objects are named; it has committed nothing since; and only objects that were asked for can be
-- changed by a vote.
pub record SeesView (front switches : ℕ) (asked stale : Named) (objects : List (ℕ × CachedRevision)) (u : View) (c : Client) : Type 0 where
  pub front_is : front ≡ u.front
  pub switches_are : switches ≡ u.switches
  pub later : Later u c.told
  pub quiet : (oid : ℕ) → names stale oid ≡ false → current c.told oid ≡ current u oid
  pub own : (oid : ℕ) → c.own oid ≡ false
  pub asked_for : (oid : ℕ) → names asked oid ≡ false → c.voted oid ≡ false
  pub cached : CachesView u objects

abbrev pub IsInView : Option Work → Named → Named → List (ℕ × CachedRevision) → View → Client → Type 0
IsInView None asked stale objects u c = ⊥
IsInView (Some work) asked stale objects u c = SeesView work.front work.switches asked stale objects u c

-- the connection has an open transaction of this client, which reads the view u
abbrev pub InView : Connection → View → Client → Type 0
InView k u c = IsInView k.work k.asked k.stale k.cache.objects u c

-- the connection has no open transaction, and what is cached is as this client was told, but for named objects
pub record Between (k : Connection) (c : Client) : Type 0 where
  pub none : k.work ≡ None
  pub unvoted : (oid : ℕ) → c.voted oid ≡ false
  pub cached : CachesTold c k.stale k.cache.objects

-- ---- reads

-- what a read is answered where nothing is cached and this was loaded, for a view that had seen so many packs; memory is free to run out
abbrev pub IsReadAnswered : ℕ → ℕ → Result Loaded Refusal → Result (ℕ × List ℕ) Refusal → Type 0
IsReadAnswered oid switches (Err r) result = (result ≡ Err r) × IsServerRefusal r
IsReadAnswered oid switches (Ok (loaded.Held serial bytes)) result = (result ≡ Ok (serial, bytes)) ⊎ (result ≡ Err refusal.Memory)
IsReadAnswered oid switches (Ok (loaded.Nothing now)) result = result ≡ Err (refusal.Missing oid (not (now == switches)))

-- a read that asked for nothing: it was answered, or there was no memory
abbrev pub IsUnasked : Result (ℕ × List ℕ) Refusal → Type 0
IsUnasked (Ok d) = Unit {0}
IsUnasked (Err r) = r ≡ refusal.Memory

-- a read made one load, by whose answer it is answered
abbrev pub IsLoadedBy : {S : Type 0} → (S → LoadsCall → S → Type 0) → S → S → ℕ → ℕ → ℕ → Result (ℕ × List ℕ) Refusal → Type 0
IsLoadedBy makes old new oid front switches result = (answer : Result Loaded Refusal) × makes old (Load oid front answer) new × IsReadAnswered oid switches answer result

-- a read made no call, and was answered by what is cached, or refused for want of memory; or it made one load
abbrev pub IsReadBy : {S : Type 0} → (S → LoadsCall → S → Type 0) → S → S → ℕ → ℕ → ℕ → Result (ℕ × List ℕ) Refusal → Type 0
IsReadBy makes old new oid front switches result = ((new ≡ old) × IsUnasked result) ⊎ IsLoadedBy makes old new oid front switches result

-- ---- refusals and calls

-- why no transaction begins: the connection is closed, or one is open
abbrev pub begin_refusal : Result Work Refusal → Option Refusal
begin_refusal (Ok w) = Some refusal.InTransaction
begin_refusal (Err refusal.NoTransaction) = None
begin_refusal (Err r) = Some r

-- what a front is answered
abbrev pub front_answer : Result FrontView Refusal → Result ℕ Refusal
front_answer (Ok told) = Ok told.front
front_answer (Err r) = Err r

-- one front was taken, by whose answer this is answered
abbrev pub IsFrontBy : {S : Type 0} → (S → LoadsCall → S → Type 0) → S → S → Result ℕ Refusal → Type 0
IsFrontBy makes old new result = (answer : Result FrontView Refusal) × makes old (Front answer) new × (result ≡ front_answer answer)

-- this call was made, and answered so; or there was no memory for it, and none was made
abbrev pub IsCallMade : {S T : Type 0} → (S → LoadsCall → S → Type 0) → S → S → LoadsCall → Result T Refusal → Type 0
IsCallMade makes old new call result = makes old call new ⊎ ((new ≡ old) × (result ≡ Err refusal.Memory))

-- ---- what waits under an object

-- what is answered of it: its base and its bytes, or that the object is missing, where it is deleted
abbrev pub waiting_as : ℕ → ℕ → Content → Result (ℕ × List ℕ) Refusal
waiting_as oid base (Held bytes) = Ok (base, bytes)
waiting_as oid base Absent = Err (refusal.Missing oid false)

abbrev pub waiting_read : ℕ → PendingStore → Result (ℕ × List ℕ) Refusal
waiting_read oid p = waiting_as oid p.base p.content

-- ---- what is put

-- the base of what is put, by what is read: the serial, or 0 where the object is missing and never was there
abbrev pub base_read : Result (ℕ × List ℕ) Refusal → Result ℕ Refusal
base_read (Ok d) = Ok d.0
base_read (Err (refusal.Missing oid false)) = Ok 0
base_read (Err r) = Err r

-- A put of an object under which nothing waits: it is read in the view, and what waits is as that base says, unless the read or a limit refuses it.
pub record IsPutAsRead {S : Type 0} (makes : S → LoadsCall → S → Type 0) (stands : Client → Type 0) (state : Server) (before after : S) (old new : Connection) (w : Work) (oid : ℕ) (bytes : List ℕ) (result : Result (Unit {0}) Refusal) : Type 0 where
  pub read : Result (ℕ × List ℕ) Refusal
  pub reads : (u : View) (c : Client) → stands c → InView old u c → Reads u state oid read
  pub made : IsReadBy makes before after oid w.front w.switches read
  pub leaves : LeavesWork (followed_by (base_read read) (λ base. stored_in_work (record { oid = oid; base = base; content = Held bytes }) w)) (work_of old) (work_of new) result
  pub refused : (r : Refusal) → base_read read ≡ Err r → result ≡ Err r
