-- Laws of turns: what holds of all that scripts are answered, over whatever rules, stamps and faults. Own.
use Rattle.std.specs.Prelude.{◌≡◌, ◌⊎◌, ℕ, ◌<◌, ◌≤◌, List, ◌∷◌, Option, Some, None, Ok, Err, length, All, IfSome, slice_get, Bool, true, false}
use Rattle.std.specs.List.{AllByRecursion, AllPairs}
use Rattle.zb_base.specs.Counts.{Rose}
use Rattle.zb_ids.specs.declared.stamp.Stamp.{Stamp}
use Rattle.zb_model.specs.declared.data.Content.TheVariants.{Held, Absent}
use Rattle.zb_model.specs.declared.data.Transaction.{Transaction}
use Rattle.zb_model.specs.declared.pending.PendingStore.{PendingStore}
use Rattle.zb_model.specs.declared.refusal.Refusal.{Refusal}
use Rattle.zb_model.specs.declared.refusal.Refusal.TheVariants as refusal
use Rattle.zb_model.specs.Database.{IsDatabase, revision_below}
use Rattle.zb_model.specs.Queries.{greatest_oid}
use Rattle.zb_answers.specs.declared.answer.Answer.{Answer}
use Rattle.zb_answers.specs.declared.answer.Answer.TheVariants as answer
use Rattle.zb_script.specs.declared.line.Line.TheVariants as line
use Rattle.zb_script.specs.declared.line.Turn.{Turn}
use Rattle.zb_script.specs.declared.tree_call.TreeCall.{TreeCall}
use Rattle.commit_phases.specs.Pending.{PendingChanges, excess_with, pending_of, stores_after}
use Rattle.tree_attempts.specs.declared.known.Seen.{Seen}
use Rattle.tree_attempts.specs.declared.put.TreePut.{TreePut}
use Rattle.tree_attempts.specs.declared.operation.TreeAnswer.{TreeAnswer}
use Rattle.tree_attempts.specs.Calls.{IsMade, IsRefused}
use Rattle.zodb_core.specs.declared.reply.Reply.TheVariants as reply
use Rattle.zodb_core.specs.declared.request.Request.{Request}
use Rattle.zodb_core.specs.declared.request.Request.TheVariants as request
use Rattle.zodb_core.specs.Machine.{Machine, Rules, front_of, session_limit, switches_of}
use Rattle.zodb_core.specs.Outcomes.{FaultCounts}
use Rattle.zodb_core.specs.Sound.{AreWellFormedStores, ComesTo, GrowsTo, IsSoundMachine}
use Rattle.zodb_core.specs.Steps.{step_of}
use Rattle.client_turns.specs.Clients.{Changes, Client, Linked, Local, Moment, OpenTransaction, Standing, changes_of, first_moment, place_of_client}
use Rattle.client_turns.specs.Fronts.{IsNotBelow, fronts_given}
use Rattle.client_turns.specs.Lines.{answering_excess, asking_excess, request_of, waiting, with_changes}
use Rattle.client_turns.specs.Numbers.{numbers_given}
use Rattle.client_turns.specs.Output.{FlaggedTurn, Out, TurnAnswer}
use Rattle.client_turns.specs.Reads.{IsMissedFor}
use Rattle.client_turns.specs.Refusing.{connection_refusal, opening_in}
use Rattle.client_turns.specs.Trees.{AllCameWhole, Draws, NeedsMore, Sees, answer_told, operation_of, seen_waiting, stores_put}
use Rattle.client_turns.specs.Turns.{IsTold, IsTurn, opened_far}
use Rattle.client_turns.specs.Views.{server_of}
use Rattle.connection_view.specs.Loading.{IsMissing}
use Rattle.connection_view.specs.Views.{View}
use Rattle.client_turns.specs.Frames.{HasFitted, IsPastFrame}

-- ---- words

-- stores that wait are of each object once, and none of an empty record
abbrev pub IsFormedPending : PendingChanges → Type 0
IsFormedPending pending = AreWellFormedStores pending.stores

-- and so were those that waited at each savepoint
abbrev pub AreFormed : Changes → Type 0
AreFormed ch = IsFormedPending ch.pending × AllByRecursion IsFormedPending ch.savepoints

-- and what waits in a client's transaction
abbrev pub IsFormedClient : Client → Type 0
IsFormedClient c = IfSome (changes_of c) AreFormed

-- what is known behind a link is no newer than a list with this front
abbrev pub KnowsUpTo : ℕ → Standing → Type 0
KnowsUpTo front Local = Unit {0}
KnowsUpTo front (Linked known) = known.front ≤ front

-- the machine is sound, and so are the stores that wait; and no client with a link knows what is newer than the list
pub record IsSoundMoment (m : Moment) : Type 0 where
  pub machine : IsSoundMachine m.machine
  pub formed : AllByRecursion IsFormedClient m.clients
  pub known : AllByRecursion (λ c. KnowsUpTo (front_of m.machine.list) c.standing) m.clients

-- A machine that steps led to: its list has only grown, by later transactions, or was packed; neither the number of packs nor the greatest number fell; and where
-- there was no pack, the list has only grown.
pub record Follows (m now : Machine) : Type 0 where
  pub sound : IsSoundMachine now
  pub comes : ComesTo m.list now.list
  pub switches : switches_of m.journal ≤ switches_of now.journal
  pub grows : switches_of now.journal ≡ switches_of m.journal → GrowsTo m.list now.list
  pub greatest : m.greatest ≤ now.greatest

-- ---- the list

-- what turns leave of a list: a database, which came of it by later transactions and by packs; and where there was no pack, it begins with the list
pub record LeavesDatabase (list : List Transaction) (now : Machine) : Type 0 where
  pub database : IsDatabase now.list
  pub comes : ComesTo list now.list
  pub grows : switches_of now.journal ≡ 0 → GrowsTo list now.list

abbrev pub TheListStaysADatabase : Type 0
TheListStaysADatabase = (rules : Rules) (list : List Transaction) (stamps : Option (List Stamp)) (counts : FaultCounts) (turns : List FlaggedTurn) (out : List TurnAnswer) (now : Moment)
    → IsDatabase list → Out rules (first_moment list stamps counts) turns out now → LeavesDatabase list now.machine

-- ---- fronts

-- no front that a turn is given is below one that was given before, to whatever client; but a client with a link begins with what it knows, which isn't below what it was given before
abbrev pub FrontsNeverFall : Type 0
FrontsNeverFall = (rules : Rules) (list : List Transaction) (stamps : Option (List Stamp)) (counts : FaultCounts) (turns : List FlaggedTurn) (out : List TurnAnswer) (now : Moment)
    → IsDatabase list → (output : Out rules (first_moment list stamps counts) turns out now) → AllPairs IsNotBelow (fronts_given rules (first_moment list stamps counts) turns out now output)

-- ---- new numbers

-- Numbers of new objects rise, and each is above all objects of the list at a moment.
pub record AreNew (m : Moment) (numbers : List ℕ) : Type 0 where
  pub rising : AllPairs (λ earlier later. earlier < later) numbers
  pub unlisted : All (λ n. greatest_oid m.machine.list < n) numbers

-- from any moment on that turns led to, the numbers that turns are given are new, those among them that calls on trees draw
abbrev pub NumbersAreNew : Type 0
NumbersAreNew = (rules : Rules) (list : List Transaction) (stamps : Option (List Stamp)) (counts : FaultCounts) (turns more : List FlaggedTurn) (out behind : List TurnAnswer) (m now : Moment)
    → IsDatabase list → Out rules (first_moment list stamps counts) turns out m → (output : Out rules m more behind now) → AreNew m (numbers_given rules m more behind now output)

-- ---- reads

-- a client's open transaction, by the client's name
pub record HasOpen (m : Moment) (name : List ℕ) (t : OpenTransaction) : Type 0 where
  pub at : ℕ
  pub client : Client
  pub place : place_of_client name m.clients ≡ Some at
  pub there : slice_get m.clients at ≡ Some client
  pub begun : client.transaction ≡ Some t

-- an object's revision below a front, in a list, has these bytes
pub record IsHeldBelow (oid front : ℕ) (list : List Transaction) (serial : ℕ) (bytes : List ℕ) : Type 0 where
  pub below : serial < front
  pub revision : revision_below oid front list ≡ Some (record { serial = serial; content = Held bytes })

-- and so below a view's front, in the view's list
abbrev pub IsInViewBelow : View → ℕ → ℕ → List ℕ → Type 0
IsInViewBelow v oid serial bytes = IsHeldBelow oid v.front v.list serial bytes

-- `load`: what is read is the object's revision below the front, in the view's list; over a link it has fitted a frame
pub record IsReadBelow (m : Moment) (t : Turn) (serial : ℕ) (bytes : List ℕ) : Type 0 where
  pub transaction : OpenTransaction
  pub oid : ℕ
  pub line : t.line ≡ line.Load oid
  pub has : HasOpen m t.client transaction
  pub held : IsInViewBelow transaction.view oid serial bytes
  pub whole : transaction.framed ≡ true → HasFitted (serial, bytes)

-- `get`: what waits for the object, with its base, or else that revision
abbrev pub IsGotFrom : View → ℕ → Option PendingStore → ℕ → List ℕ → Type 0
IsGotFrom v oid (Some p) serial bytes = (p.base ≡ serial) × (p.content ≡ Held bytes)
IsGotFrom v oid None serial bytes = IsInViewBelow v oid serial bytes

pub record IsGotBelow (m : Moment) (t : Turn) (oid serial : ℕ) (bytes : List ℕ) : Type 0 where
  pub transaction : OpenTransaction
  pub has : HasOpen m t.client transaction
  pub got : IsGotFrom transaction.view oid (pending_of transaction.changes.pending.stores oid) serial bytes

-- `put`: what it stores is made from what the store before it was made from, or else from that revision, or from nothing, where the view hasn't got the object
abbrev pub IsBaseFrom : Machine → View → ℕ → Option PendingStore → ℕ → Type 0
IsBaseFrom m v oid (Some p) base = base ≡ p.base
IsBaseFrom m v oid None base = ((bytes : List ℕ) × IsInViewBelow v oid base bytes) ⊎ ((base ≡ 0) × IsMissing v (server_of m) oid false)

pub record IsPutBelow (m : Moment) (t : Turn) (oid : ℕ) (bytes : List ℕ) (now : Moment) : Type 0 where
  pub transaction : OpenTransaction
  pub has : HasOpen m t.client transaction
  pub base : ℕ
  pub from : IsBaseFrom m.machine transaction.view oid (pending_of transaction.changes.pending.stores oid) base
  pub left : slice_get now.clients has.at ≡ Some (with_changes has.client transaction (waiting transaction.changes (record { oid = oid; base = base; content = Held bytes })))

-- a line of a tree: each object that its call sees is what waits for it, or else that revision, or nothing, where the view hasn't got it; over a link what it read has
-- fitted frames
abbrev pub IsSeenFrom : Machine → View → ℕ → Option PendingStore → Option Seen → Type 0
IsSeenFrom m v oid (Some p) x = x ≡ seen_waiting p.base p.content
IsSeenFrom m v oid None (Some x) = IsInViewBelow v oid x.serial x.bytes
IsSeenFrom m v oid None None = (packed : Bool) × IsMissing v (server_of m) oid packed

pub record IsCalledBelow (m : Moment) (t : Turn) (root : ℕ) (call : TreeCall) (a : Answer) : Type 0 where
  pub transaction : OpenTransaction
  pub has : HasOpen m t.client transaction
  pub objects : ℕ → Option Seen
  pub seen : (oid : ℕ) → IsSeenFrom m.machine transaction.view oid (pending_of transaction.changes.pending.stores oid) (objects oid)
  pub numbers : List ℕ
  pub told : TreeAnswer
  pub puts : List TreePut
  pub made : IsMade objects root (operation_of call) numbers told puts
  pub whole : AllCameWhole transaction objects made.calls
  pub answer : a ≡ answer_told told

-- Whatever a turn reads is below the front of its client's view, in the list that the view was taken of.
pub record ReadsStayBelowTheFront : Type 0 where
  pub loads : (rules : Rules) (m : Moment) (t : Turn) (last : Bool) (serial : ℕ) (bytes : List ℕ) (now : Moment) → IsTurn rules m t last (Ok (answer.Data serial bytes)) now → IsReadBelow m t serial bytes
  pub gets : (rules : Rules) (m : Moment) (t : Turn) (last : Bool) (oid serial : ℕ) (bytes : List ℕ) (now : Moment) → t.line ≡ line.Get oid → IsTurn rules m t last (Ok (answer.Object serial bytes)) now
      → IsGotBelow m t oid serial bytes
  pub puts : (rules : Rules) (m : Moment) (t : Turn) (last : Bool) (oid : ℕ) (bytes : List ℕ) (now : Moment) → t.line ≡ line.Put oid bytes → IsTurn rules m t last (Ok answer.Stored) now → IsPutBelow m t oid bytes now
  pub calls : (rules : Rules) (m : Moment) (t : Turn) (last : Bool) (root : ℕ) (call : TreeCall) (a : Answer) (now : Moment) → t.line ≡ line.Tree root call → ((why : Refusal) → ¬ (a ≡ answer.Refused why)) → IsTurn rules m t last (Ok a) now
      → IsCalledBelow m t root call a

-- ---- refusals

-- the client at the place of its name
pub record IsNamed (m : Moment) (name : List ℕ) (c : Client) : Type 0 where
  pub at : ℕ
  pub place : place_of_client name m.clients ≡ Some at
  pub there : slice_get m.clients at ≡ Some c

-- a call puts this, over what the transaction has, with some numbers for new objects
abbrev pub WouldPut : Moment → OpenTransaction → ℕ → TreeCall → List PendingStore → Type 0
WouldPut m o root call puts = (objects : ℕ → Option Seen) × (numbers : List ℕ) × (x : TreeAnswer) × (made : List TreePut) × (puts ≡ stores_put made) × Sees m.machine o objects × IsMade objects root (operation_of call) numbers x made

-- Why a turn was refused so: the client never opened a session; too many are open; its connection refuses the line; the machine refuses the line's step, or a Front step behind the opening of a client with a link; the
-- view hasn't got the object, or the transaction is to delete it; what would wait is too long, or what is asked for, answered or read doesn't fit a frame; a tree refuses the call, over what the transaction has; the machine
-- refuses a number that the call needs, over what the transaction has, once fewer were drawn; a call would put something once the transaction is voted; there is no
-- such savepoint; or reading failed, and the count of failed reads rose.
pub data IsRefusedFor (rules : Rules) (m : Moment) (t : Turn) (why : Refusal) (now : Moment) : Type 0 where
  unnamed : place_of_client t.client m.clients ≡ None → why ≡ refusal.NotOpen → IsRefusedFor rules m t why now
  crowded : session_limit ≤ length m.machine.sessions → why ≡ refusal.TooManySessions (length m.machine.sessions) → IsRefusedFor rules m t why now
  by_connection : (c : Client) → IsNamed m t.client c → connection_refusal m.machine c t.line ≡ Some why → IsRefusedFor rules m t why now
  by_step : (c : Client) (q : Request) (stamp : ℕ) → IsNamed m t.client c → request_of c.standing (changes_of c) t.line ≡ Some q
      → (step_of rules m.machine c.session q stamp).reply ≡ reply.Refused why → IsRefusedFor rules m t why now
  by_view : (o : OpenTransaction) (oid : ℕ) → HasOpen m t.client o → IsMissedFor m.machine o.view oid why → IsRefusedFor rules m t why now
  by_delete : (o : OpenTransaction) (oid : ℕ) (p : PendingStore) → HasOpen m t.client o → t.line ≡ line.Get oid → pending_of o.changes.pending.stores oid ≡ Some p → p.content ≡ Absent → why ≡ refusal.Missing oid false
      → IsRefusedFor rules m t why now
  by_length : (o : OpenTransaction) (p : PendingStore) (n : ℕ) → HasOpen m t.client o → excess_with o.changes.pending.stores p ≡ Some n → why ≡ refusal.TooLong n → IsRefusedFor rules m t why now
  by_asking : (c : Client) (q : Request) (n : ℕ) → IsNamed m t.client c → request_of c.standing (changes_of c) t.line ≡ Some q → asking_excess c.standing q ≡ Some n → why ≡ refusal.TooLong n → IsRefusedFor rules m t why now
  by_answer : (c : Client) (q : Request) (stamp n : ℕ) → IsNamed m t.client c → request_of c.standing (changes_of c) t.line ≡ Some q → answering_excess c.standing (step_of rules m.machine c.session q stamp).reply ≡ Some n → why ≡ refusal.TooLong n
      → IsRefusedFor rules m t why now
  by_front : (behind : Moment) (stamp : ℕ) → opening_in t.line ≡ Some true → IsTold rules 1 (opened_far m t.client).moment (length m.machine.sessions) behind
      → (step_of rules behind.machine (length m.machine.sessions) request.Front stamp).reply ≡ reply.Refused why → IsRefusedFor rules m t why now
  by_frame : (o : OpenTransaction) (oid n : ℕ) → HasOpen m t.client o → o.framed ≡ true → IsPastFrame m.machine oid o.view.front n → why ≡ refusal.TooLong n → IsRefusedFor rules m t why now
  by_call : (o : OpenTransaction) (objects : ℕ → Option Seen) (root : ℕ) (call : TreeCall) → HasOpen m t.client o → t.line ≡ line.Tree root call → Sees m.machine o objects
      → IsRefused objects root (operation_of call) why → IsRefusedFor rules m t why now
  by_number : (c : Client) (o : OpenTransaction) (root : ℕ) (call : TreeCall) (numbers : List ℕ) (behind : Moment) (rules' : Rules) (stamp : ℕ) → IsNamed m t.client c → HasOpen m t.client o → t.line ≡ line.Tree root call
      → NeedsMore m.machine o root (operation_of call) numbers → Draws m c.session numbers behind → (step_of rules' behind.machine c.session (request.NewOids 1) stamp).reply ≡ reply.Refused why → IsRefusedFor rules m t why now
  by_vote : (o : OpenTransaction) (root : ℕ) (call : TreeCall) (p : PendingStore) (puts : List PendingStore) → HasOpen m t.client o → t.line ≡ line.Tree root call → WouldPut m o root call (p ∷ puts) → o.changes.is_voted ≡ true
      → why ≡ refusal.Voted → IsRefusedFor rules m t why now
  by_lengths : (o : OpenTransaction) (root : ℕ) (call : TreeCall) (puts : List PendingStore) (n : ℕ) → HasOpen m t.client o → t.line ≡ line.Tree root call → WouldPut m o root call puts → stores_after o.changes.pending.stores puts ≡ Err n → why ≡ refusal.TooLong n → IsRefusedFor rules m t why now
  by_savepoint : (o : OpenTransaction) (number : ℕ) → HasOpen m t.client o → t.line ≡ line.Rollback number → slice_get o.changes.savepoints number ≡ None → why ≡ refusal.NoSavepoint number → IsRefusedFor rules m t why now
  by_reading : why ≡ refusal.ReadFault → Rose m.counts.reads now.counts.reads → IsRefusedFor rules m t why now

abbrev pub RefusalsHaveTheirCause : Type 0
RefusalsHaveTheirCause = (rules : Rules) (m : Moment) (t : Turn) (last : Bool) (why : Refusal) (now : Moment) → IsTurn rules m t last (Ok (answer.Refused why)) now → IsRefusedFor rules m t why now
