-- Lines of trees: a call over what the client's transaction has. Source: BTrees over a connection of ZODB; that each object is read once in a line is own.
use Rattle.std.specs.Prelude.{◌≡◌, ℕ, ◌<◌, ◌≤◌, List, [], ◌∷◌, length, All, Option, Some, None, Result, Ok, Err, Bool, true, false, if◌then◌else◌, ◌⊎◌}
use Rattle.zb_model.specs.declared.data.Content.{Content}
use Rattle.zb_model.specs.declared.data.Content.TheVariants.{Held, Absent}
use Rattle.zb_model.specs.declared.pending.PendingStore.{PendingStore}
use Rattle.zb_model.specs.declared.refusal.Refusal.{Refusal}
use Rattle.zb_model.specs.declared.refusal.Refusal.TheVariants as refusal
use Rattle.zb_answers.specs.declared.answer.Answer.{Answer}
use Rattle.zb_answers.specs.declared.answer.Answer.TheVariants as answer
use Rattle.zb_script.specs.declared.tree_call.TreeCall.{TreeCall}
use Rattle.zb_script.specs.declared.tree_call.TreeCall.TheVariants as tree
use Rattle.commit_phases.specs.Pending.{pending_of, stores_after}
use Rattle.tree_attempts.specs.declared.known.Seen.{Seen}
use Rattle.tree_attempts.specs.declared.put.TreePut.{TreePut}
use Rattle.tree_attempts.specs.declared.operation.TreeAnswer.{TreeAnswer}
use Rattle.tree_attempts.specs.declared.operation.TreeAnswer.TheVariants as answered
use Rattle.tree_attempts.specs.declared.operation.TreeOperation.{TreeOperation}
use Rattle.tree_attempts.specs.declared.operation.TreeOperation.TheVariants as operation
use Rattle.tree_attempts.specs.Calls.{IsAmong, IsMade, IsRefused, LacksNumbers, MayRead, NeedsNumbers, contents_of, reads_in}
use Rattle.zodb_core.specs.declared.reply.Reply.TheVariants as reply
use Rattle.zodb_core.specs.declared.request.Request.TheVariants as request
use Rattle.zodb_core.specs.Machine.{Machine, Rules}
use Rattle.tree_attempts.specs.declared.attempt.Made.{Made}
use Rattle.client_turns.specs.Clients.{Changes, Client, Moment, OpenTransaction}
use Rattle.client_turns.specs.Lines.{Changed, unchanged}
use Rattle.connection_view.specs.Loading.{IsMissing}
use Rattle.client_turns.specs.Steps.{IsChange, IsReadAt, IsStepAt}
use Rattle.client_turns.specs.Views.{server_of}
use Rattle.connection_view.specs.Views.{View, current}
use Rattle.client_turns.specs.Frames.{HasFitted}
use Rattle.btree_shapes.specs.declared.space.Call.{Call}

-- ---- what a line says

abbrev pub operation_of : TreeCall → TreeOperation
operation_of (tree.Set key value) = operation.Set key (Some value)
operation_of (tree.Insert key) = operation.Set key None
operation_of (tree.Del key) = operation.Remove key
operation_of (tree.Find key) = operation.Get key
operation_of tree.Items = operation.Items
operation_of (tree.Range from to) = operation.Range from to

abbrev pub answer_told : TreeAnswer → Answer
answer_told (answered.Value None) = answer.Absent
answer_told (answered.Value (Some value)) = answer.Found value
answer_told answered.Set = answer.Done
answer_told (answered.Removed true) = answer.Done
answer_told (answered.Removed false) = answer.Absent
answer_told (answered.Items list is_set) = answer.Items list is_set

-- ---- what is read

-- what a view has of an object: what a read may answer, or nothing where it may say that the object is missing
abbrev pub IsInView : Machine → View → ℕ → Option Seen → Type 0
IsInView m v oid (Some x) = current v oid ≡ Some (x.serial, x.bytes)
IsInView m v oid None = (packed : Bool) × IsMissing v (server_of m) oid packed

-- what waits for an object: its bytes, with its base as its serial, or nothing where it is to be deleted
abbrev pub seen_waiting : ℕ → Content → Option Seen
seen_waiting base (Held bytes) = Some (record { serial = base; bytes = bytes })
seen_waiting base Absent = None

-- what a transaction has of an object: what waits for it, or else what its view has
abbrev pub IsSeen : Machine → View → ℕ → Option PendingStore → Option Seen → Type 0
IsSeen m v oid (Some p) x = x ≡ seen_waiting p.base p.content
IsSeen m v oid None x = IsInView m v oid x

abbrev pub IsSeenIn : Machine → OpenTransaction → ℕ → Option Seen → Type 0
IsSeenIn m t oid x = IsSeen m t.view oid (pending_of t.changes.pending.stores oid) x

-- a transaction has this of each object
abbrev pub Sees : Machine → OpenTransaction → (ℕ → Option Seen) → Type 0
Sees m t objects = (oid : ℕ) → IsSeenIn m t oid (objects oid)

-- what was read of an object over a link has fitted a frame; what waits for it wasn't read
abbrev pub CameWhole : Bool → Option PendingStore → Option Seen → Type 0
CameWhole true None (Some x) = HasFitted (x.serial, x.bytes)
CameWhole _ _ _ = Unit {0}

-- and so all that these calls read
abbrev pub AllCameWhole : OpenTransaction → (ℕ → Option Seen) → List Call → Type 0
AllCameWhole t objects calls = (oid : ℕ) → IsAmong (reads_in calls) oid → CameWhole t.framed (pending_of t.changes.pending.stores oid) (objects oid)

-- ---- what is drawn

-- a machine, and the same with a greatest number that isn't lower
pub record IsRaised (m now : Machine) : Type 0 where
  pub greatest : ℕ
  pub is : now ≡ record m { greatest = greatest }
  pub up : m.greatest ≤ greatest

-- session n draws the number of a new object, over whatever rules, since drawing looks at none
abbrev pub IsDrawn : Moment → ℕ → ℕ → Moment → Type 0
IsDrawn m n oid now = (rules : Rules) × IsStepAt rules m n (request.NewOids 1) (reply.Oids oid 1) now

-- or is refused one
abbrev pub IsUndrawn : Moment → ℕ → Refusal → Moment → Type 0
IsUndrawn m n why now = (rules : Rules) × IsStepAt rules m n (request.NewOids 1) (reply.Refused why) now

-- these numbers are drawn, one after another
abbrev pub Draws : Moment → ℕ → List ℕ → Moment → Type 0
Draws m n [] now = now ≡ m
Draws m n (oid ∷ oids) now = (next : Moment) × IsDrawn m n oid next × Draws next n oids now

-- ---- a call

-- an object is missing
abbrev pub is_missing : Refusal → Bool
is_missing (refusal.Missing oid packed) = true
is_missing _ = false

-- A call is answered: over what the transaction has, with the numbers that its session drew. Each of its puts has bytes.
pub record IsCalled (m : Moment) (n : ℕ) (t : OpenTransaction) (root : ℕ) (op : TreeOperation) (x : Made) (now : Moment) : Type 0 where
  pub objects : ℕ → Option Seen
  pub sees : Sees m.machine t objects
  pub numbers : List ℕ
  pub draws : Draws m n numbers now
  pub made : IsMade objects root op numbers x.answer x.puts
  pub whole : AllCameWhole t objects made.calls
  pub filled : All (λ p. 0 < length p.bytes) x.puts

-- a call over what a transaction has needs more numbers than these
pub record NeedsMore (m : Machine) (t : OpenTransaction) (root : ℕ) (op : TreeOperation) (numbers : List ℕ) : Type 0 where
  pub objects : ℕ → Option Seen
  pub sees : Sees m t objects
  pub lacks : LacksNumbers (contents_of objects) root op (length numbers)

-- a call over what a transaction has needs all these numbers, or more
pub record NeedsAll (m : Machine) (t : OpenTransaction) (root : ℕ) (op : TreeOperation) (numbers : List ℕ) : Type 0 where
  pub objects : ℕ → Option Seen
  pub sees : Sees m t objects
  pub count : ℕ
  pub needs : NeedsNumbers (contents_of objects) root op count
  pub within : length numbers ≤ count

-- these numbers may have been drawn for a call: none, or no more than it needs
abbrev pub MayDraw : Machine → OpenTransaction → ℕ → TreeOperation → List ℕ → Type 0
MayDraw m t root op numbers = (numbers ≡ []) ⊎ NeedsAll m t root op numbers

-- an object that a call may read, over what a transaction has
pub record IsOnWay (m : Machine) (t : OpenTransaction) (root : ℕ) (op : TreeOperation) (oid : ℕ) : Type 0 where
  pub objects : ℕ → Option Seen
  pub sees : Sees m t objects
  pub may : MayRead (contents_of objects) root op oid

-- A call isn't answered. The tree refuses it, or a read for it fails, and no number was drawn; or one is refused of those that the call needs, behind fewer; or memory
-- runs out, and no more were drawn than it needs.
pub data IsUncalled (m : Moment) (n : ℕ) (t : OpenTransaction) (root : ℕ) (op : TreeOperation) (why : Refusal) (now : Moment) : Type 0 where
  by_tree : (objects : ℕ → Option Seen) → Sees m.machine t objects → (refused : IsRefused objects root op why) → AllCameWhole t objects refused.calls → now ≡ m → IsUncalled m n t root op why now
  by_read : (oid : ℕ) → IsOnWay m.machine t root op oid → IsReadAt m t oid (Err why) now → is_missing why ≡ false → IsUncalled m n t root op why now
  by_draw : (numbers : List ℕ) (behind : Moment) → NeedsMore m.machine t root op numbers → Draws m n numbers behind → IsUndrawn behind n why now → IsUncalled m n t root op why now
  by_want : (numbers : List ℕ) → MayDraw m.machine t root op numbers → Draws m n numbers now → why ≡ refusal.Memory → IsUncalled m n t root op why now

abbrev pub CallEnds : Moment → ℕ → OpenTransaction → ℕ → TreeOperation → Result Made Refusal → Moment → Type 0
CallEnds m n t root op (Ok made) now = IsCalled m n t root op made now
CallEnds m n t root op (Err why) now = IsUncalled m n t root op why now

-- ---- a line

-- what a call puts, as it waits for the vote
abbrev pub stores_put : List TreePut → List PendingStore
stores_put [] = []
stores_put (p ∷ puts) = (record { oid = p.oid; base = p.base; content = Held p.bytes }) ∷ stores_put puts

abbrev pub puts_stored : Changes → Answer → Result (List PendingStore) ℕ → Changed
puts_stored t a (Ok stores) = record { answer = a; changes = record t { pending = record { stores = stores; checks = t.pending.checks } } }
puts_stored t a (Err length) = unchanged t (answer.Refused (refusal.TooLong length))

-- what a call puts waits for the vote, all of it or nothing: unless the transaction is voted, or a length passes a limit
abbrev pub all_stored : Changes → Answer → List PendingStore → Changed
all_stored t a [] = unchanged t a
all_stored t a (p ∷ puts) = if t.is_voted then unchanged t (answer.Refused refusal.Voted) else puts_stored t a (stores_after t.pending.stores (p ∷ puts))

-- the answer to a call, and the changes that it leaves; memory is free to run out
abbrev pub IsTreeEnd : Moment → ℕ → Client → OpenTransaction → Result Made Refusal → Answer → Moment → Type 0
IsTreeEnd m at c t (Ok made) a now = IsChange m at c t (all_stored t.changes (answer_told made.answer) (stores_put made.puts)) a now ⊎ ((a ≡ answer.Refused refusal.Memory) × (now ≡ m))
IsTreeEnd m at c t (Err why) a now = (a ≡ answer.Refused why) × (now ≡ m)

-- a line of a tree: its call, and what it puts
pub record IsTreeLine (m : Moment) (at : ℕ) (c : Client) (t : OpenTransaction) (root : ℕ) (call : TreeCall) (a : Answer) (now : Moment) : Type 0 where
  pub result : Result Made Refusal
  pub behind : Moment
  pub ends : CallEnds m c.session t root (operation_of call) result behind
  pub end : IsTreeEnd behind at c t result a now
