-- What a call on a tree gathers before it is answered. Own.
use Rattle.std.specs.Prelude.{[], All, Err, List, None, Ok, Option, Result, Some, false, length, slice_get, true, ℕ, ◌+◌, ◌<◌, ◌≡◌, ◌⊎◌}
use Rattle.std.specs.Option.{option_map}
use Rattle.zb_ids.specs.declared.stamp.Stamp.{Stamp}
use Rattle.zb_model.specs.declared.data.Transaction.{Transaction}
use Rattle.zb_model.specs.declared.pending.PendingStore.{PendingStore}
use Rattle.zb_model.specs.declared.refusal.Refusal.{Refusal}
use Rattle.zb_model.specs.declared.refusal.Refusal.TheVariants as refusal
use Rattle.commit_phases.specs.Pending.{pending_of}
use Rattle.zodb_core.specs.HubState.{HubState}
use Rattle.zodb_core.specs.declared.reply.Reply.{Reply}
use Rattle.zodb_core.specs.declared.reply.Reply.TheVariants as reply
use Rattle.zodb_core.specs.Machine.{is_open_in}
use Rattle.zodb_core.specs.Outcomes.{Answered, StepOutcome}
use Rattle.tree_attempts.specs.declared.attempt.Made.{Made}
use Rattle.tree_attempts.specs.declared.known.Seen.{Seen}
use Rattle.tree_attempts.specs.declared.operation.TreeOperation.{TreeOperation}
use Rattle.tree_attempts.specs.Known.{known_at}
use Rattle.connection_view.specs.Works.{Work}
use Rattle.client_turns.specs.declared.member.Member.{Member}
use Rattle.client_turns.specs.Clients.{Client, Moment, OpenTransaction}
use Rattle.client_turns.specs.Lines.{outcome_of_result}
use Rattle.connection_view.specs.Views.{read_below}
use Rattle.client_turns.specs.Standing.{ClientsState, LeadsTo, MayTakeMember, MemberLeadsTo, StandsForMoment}
use Rattle.client_turns.specs.Steps.{IsReadAt}
use Rattle.client_turns.specs.Trees.{CallEnds, CameWhole, Draws, IsDrawn, IsOnWay, IsSeenIn, IsUndrawn, MayDraw, Sees, is_missing, seen_waiting}

-- ---- what a transaction has

abbrev pub seen_as : (ℕ × List ℕ) → Seen
seen_as got = record { serial = got.0; bytes = got.1 }

-- what waits for an object, else what a list has of it
abbrev pub seen_or : Option PendingStore → Option (ℕ × List ℕ) → Option Seen
seen_or (Some p) got = seen_waiting p.base p.content
seen_or None got = option_map seen_as got

-- what a transaction has of an object, over a list
abbrev pub objects_kept : List Transaction → Work → ℕ → Option Seen
objects_kept list work oid = seen_or (pending_of work.pending.stores oid) (read_below oid work.front list)

abbrev pub over_known : Option (Option Seen) → Option Seen → Option Seen
over_known (Some x) y = x
over_known None y = y

-- and so where one is open
abbrev pub objects_of : List Transaction → Result Work Refusal → ℕ → Option Seen
objects_of list (Ok work) oid = objects_kept list work oid
objects_of list (Err r) oid = None

-- the same, but for what is known
abbrev pub objects_over : List (ℕ × Option Seen) → List Transaction → Result Work Refusal → ℕ → Option Seen
objects_over known list work oid = over_known (known_at known oid) (objects_of list work oid)

-- ---- what is read and drawn

-- what a read gives of an object: nothing, where it is missing
abbrev pub seen_read : Result (ℕ × List ℕ) Refusal → Result (Option Seen) Refusal
seen_read (Ok got) = Ok (Some (seen_as got))
seen_read (Err (refusal.Missing oid packed)) = Ok None
seen_read (Err why) = Err why

-- the number that a reply gives
abbrev pub number_in : Reply → Result ℕ Refusal
number_in (reply.Oids first count) = Ok first
number_in (reply.Refused why) = Err why
number_in _ = Err refusal.NotOpen

abbrev pub IsSightIn : Moment → Option OpenTransaction → ℕ → Result (Option Seen) Refusal → Moment → Type 0
IsSightIn m None oid result now = ⊥
IsSightIn m (Some t) oid (Ok x) now = (now ≡ m) × IsSeenIn m.machine t oid x × CameWhole t.framed (pending_of t.changes.pending.stores oid) x
IsSightIn m (Some t) oid (Err why) now = (IsReadAt m t oid (Err why) now × (is_missing why ≡ false)) ⊎ ((why ≡ refusal.Memory) × (now ≡ m))

-- what the transaction of the client at a place has of an object
abbrev pub IsSightOf : Moment → ℕ → ℕ → Result (Option Seen) Refusal → Moment → Type 0
IsSightOf m at oid result now = (c : Client) × (slice_get m.clients at ≡ Some c) × IsSightIn m c.transaction oid result now

-- for want of memory none is drawn, or its answer was lost over a link
abbrev pub IsDrawLost : Moment → ℕ → Refusal → Moment → Type 0
IsDrawLost m n why now = (why ≡ refusal.Memory) × ((now ≡ m) ⊎ ((oid : ℕ) × IsDrawn m n oid now))

abbrev pub IsDrawIn : Moment → ℕ → Result ℕ Refusal → Moment → Type 0
IsDrawIn m n (Ok oid) now = IsDrawn m n oid now
IsDrawIn m n (Err why) now = IsUndrawn m n why now ⊎ IsDrawLost m n why now

-- a number that the session of the client at a place draws
abbrev pub IsDrawOf : Moment → ℕ → Result ℕ Refusal → Moment → Type 0
IsDrawOf m at result now = (c : Client) × (slice_get m.clients at ≡ Some c) × IsDrawIn m c.session result now

-- a number that a client with a link draws, at whatever moment
abbrev pub TakesMemberDraw : {R F : Type 0} → Type 0 → Result ℕ Refusal → HubState R F → HubState R F → Member → Member → Option (List Stamp) → Option (List Stamp) → Type 0
TakesMemberDraw told result old new x y before after =
    told → (m : Moment) (at : ℕ) (c : Client) → MayTakeMember old before m at x c → MemberLeadsTo (IsDrawIn m c.session result) m at c.session old new y after

-- how a call of the client at a place ends
abbrev pub IsCallOf : Moment → ℕ → ℕ → TreeOperation → Result Made Refusal → Moment → Type 0
IsCallOf m at root op result now =
    (c : Client) × (slice_get m.clients at ≡ Some c) × (t : OpenTransaction) × (c.transaction ≡ Some t) × CallEnds m c.session t root op result now

-- an object that is read for a call of the client at a place
abbrev pub IsAskedOf : Moment → ℕ → ℕ → TreeOperation → ℕ → Type 0
IsAskedOf m at root op oid = (c : Client) × (slice_get m.clients at ≡ Some c) × (t : OpenTransaction) × (c.transaction ≡ Some t) × IsOnWay m.machine t root op oid

-- ---- gathering

-- The clients stand for a moment to which the draws of a call led, which are no more than it needs. What is known is what the transaction has, and came whole; the
-- session is open, and but for the machine's greatest number nothing has changed.
pub record StandsGathering {R F : Type 0} (seen : ClientsState R F) (left : Option (List Stamp)) (m : Moment) (at root : ℕ) (op : TreeOperation) (known : List (ℕ × Option Seen)) (numbers : List ℕ) : Type 0 where
  pub now : Moment
  pub stands : StandsForMoment seen left now
  pub client : Client
  pub there : slice_get m.clients at ≡ Some client
  pub transaction : OpenTransaction
  pub begun : client.transaction ≡ Some transaction
  pub may : is_open_in now.machine.sessions client.session ≡ true
  pub draws : Draws m client.session numbers now
  pub list : now.machine.list ≡ m.machine.list
  pub journal : now.machine.journal ≡ m.machine.journal
  pub clients : now.clients ≡ m.clients
  pub sees : (oid : ℕ) (x : Option Seen) → known_at known oid ≡ Some x → IsSeenIn m.machine transaction oid x
  pub whole : (oid : ℕ) (x : Option Seen) → known_at known oid ≡ Some x → CameWhole transaction.framed (pending_of transaction.changes.pending.stores oid) x
  pub may_draw : MayDraw m.machine transaction root op numbers

-- how an attempt leaves them: the call has ended, or it is made again
abbrev pub AdvancesTo : {R F : Type 0} → Moment → ℕ → ℕ → TreeOperation → ClientsState R F → Option (List Stamp) → List (ℕ × Option Seen) → List ℕ → Option (Result Made Refusal) → Type 0
AdvancesTo m at root op seen left known numbers None = StandsGathering seen left m at root op known numbers
AdvancesTo m at root op seen left known numbers (Some result) = LeadsTo (IsCallOf m at root op result) seen left

-- how an attempt ended that is made again, or a call
abbrev pub outcome_of_advance : Option (Result Made Refusal) → StepOutcome
outcome_of_advance None = Answered
outcome_of_advance (Some result) = outcome_of_result result

-- ---- which calls may be gathered for

-- the clients stand for a moment of some call with this known and drawn
abbrev pub MayGather : {R F : Type 0} → ClientsState R F → Option (List Stamp) → ℕ → ℕ → TreeOperation → List (ℕ × Option Seen) → List ℕ → Type 0
MayGather seen left at root op known numbers = (m : Moment) × StandsGathering seen left m at root op known numbers

-- and one for which an object is read, or several
abbrev pub MayLearn : {R F : Type 0} → ClientsState R F → Option (List Stamp) → ℕ → List (ℕ × Option Seen) → ℕ → Type 0
MayLearn seen left at known oid = (root : ℕ) × (op : TreeOperation) × (m : Moment) × StandsGathering seen left m at root op known [] × IsAskedOf m at root op oid

abbrev pub MayLearnAll : {R F : Type 0} → ClientsState R F → Option (List Stamp) → ℕ → List (ℕ × Option Seen) → List ℕ → Type 0
MayLearnAll seen left at known oids = (root : ℕ) × (op : TreeOperation) × (m : Moment) × StandsGathering seen left m at root op known [] × All (IsAskedOf m at root op) oids

-- and one of which this holds, over what it sees
abbrev pub MayGo : {R F : Type 0} → ClientsState R F → Option (List Stamp) → ℕ → List (ℕ × Option Seen) → List ℕ → ((ℕ → Option Seen) → ℕ → TreeOperation → Type 0) → Type 0
MayGo seen left at known numbers Attempted =
    (objects : ℕ → Option Seen) × (root : ℕ) × (op : TreeOperation) × Attempted objects root op × (m : Moment) × (g : StandsGathering seen left m at root op known numbers) × Sees m.machine g.transaction objects

-- each of the puts has bytes
abbrev pub IsFilled : Made → Type 0
IsFilled made = All (λ p. 0 < length p.bytes) made.puts

-- how many objects are known, and numbers drawn
abbrev pub gathered : List (ℕ × Option Seen) → List ℕ → ℕ
gathered known numbers = length known + length numbers

-- an attempt that is made again has more than before
abbrev pub Gathers : ℕ → ℕ → Option (Result Made Refusal) → Type 0
Gathers before after None = before < after
Gathers before after (Some result) = Unit {0}
