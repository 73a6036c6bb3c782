-- What the calls of loads answer, and what a read in a view answers. Source: `load` of a connection of ZODB; what a pack may take away is own.
use Rattle.std.specs.Prelude.{◌≡◌, ℕ, ◌<◌, ◌≤◌, ◌^◌, List, Option, Some, None, Result, Ok, Err, Bool, true, false, length, map, nat_eq, All}
use Rattle.std.specs.List.{sum_by, IsDistinct}
use Rattle.zb_model.specs.declared.pending.PendingStore.{PendingStore}
use Rattle.zb_model.specs.declared.pending.PendingCheck.{PendingCheck}
use Rattle.zb_model.specs.declared.refusal.Refusal.{Refusal}
use Rattle.zb_model.specs.declared.refusal.Refusal.TheVariants as refusal
use Rattle.zb_model.specs.Database.{IsRecord}
use Rattle.commit_phases.specs.Pending.{length_of_content}
use Rattle.connection_view.specs.declared.loads.FrontView.{FrontView}
use Rattle.connection_view.specs.declared.loads.Loaded.{Loaded}
use Rattle.connection_view.specs.declared.loads.Loaded.TheVariants as loaded
use Rattle.connection_view.specs.Views.{View, Server, Client, Later, Quiet, current, read_below}

-- ---- calls

-- a call, with its answer
pub data LoadsCall : Type 0 where
  Front : Result FrontView Refusal → LoadsCall
  Load : ℕ → ℕ → Result Loaded Refusal → LoadsCall
  NewOid : Result ℕ Refusal → LoadsCall
  Vote : List ℕ → List ℕ → List PendingStore → List PendingCheck → Result (Unit {0}) Refusal → LoadsCall
  Undo : List ℕ → List ℕ → List ℕ → Result (Unit {0}) Refusal → LoadsCall
  Finish : Result (Option ℕ) Refusal → LoadsCall
  Abort : Result (Unit {0}) Refusal → LoadsCall

-- ---- refusals

-- a refusal that a server, or the way to it, may come to: none of those that a connection has of its own
abbrev pub IsServerRefusal : Refusal → Type 0
IsServerRefusal (refusal.Missing oid packed) = ⊥
IsServerRefusal refusal.NoTransaction = ⊥
IsServerRefusal refusal.InTransaction = ⊥
IsServerRefusal (refusal.NoSavepoint number) = ⊥
IsServerRefusal (refusal.Mixed stores) = ⊥
IsServerRefusal (refusal.NotATree oid) = ⊥
IsServerRefusal (refusal.NodeMissing oid) = ⊥
IsServerRefusal refusal.BadKey = ⊥
IsServerRefusal _ = Unit {0}

-- a refusal of a step that says that nothing was done: not a failed write, and not a failure on the way
abbrev pub IsNothingDone : Refusal → Type 0
IsNothingDone refusal.StoreFault = ⊥
IsNothingDone refusal.Memory = ⊥
IsNothingDone refusal.BadMessage = ⊥
IsNothingDone refusal.LinkFault = ⊥
IsNothingDone refusal.Closed = ⊥
IsNothingDone (refusal.FrameTooLong length) = ⊥
IsNothingDone _ = Unit {0}

-- ---- fronts

-- a front may tell the client of this view by this answer
pub record IsFront (c : Client) (w : View) (r : FrontView) : Type 0 where
  pub front : r.front ≡ w.front
  pub switches : r.switches ≡ w.switches
  pub later : Later c.told w
  pub known : Later c.known w
  pub quiet : Quiet c.told w r.news c.own

-- ---- reads

-- What a load below a front may answer, where the client was told of a view of that front or a later one: what the object has below the front in
-- that view; or that the list as it stands has nothing there, and how often it was packed, and where that is as often as in the view, the view
-- has nothing there either.
abbrev pub IsLoaded : ℕ → ℕ → View → Server → Loaded → Type 0
IsLoaded oid front v s (loaded.Held serial bytes) = read_below oid front v.list ≡ Some (serial, bytes)
IsLoaded oid front v s (loaded.Nothing switches) =
    (switches ≡ s.switches) × (v.switches ≤ s.switches) × (read_below oid front s.list ≡ None) × (v.switches ≡ s.switches → read_below oid front v.list ≡ None)

-- it isn't there: the view has none and the list wasn't packed since; or it was, and has none below the view's front now
abbrev pub IsMissing : View → Server → ℕ → Bool → Type 0
IsMissing v s oid false = (s.switches ≡ v.switches) × (current v oid ≡ None)
IsMissing v s oid true = (v.switches < s.switches) × (read_below oid v.front s.list ≡ None)

-- a read of an object in a view is refused so
abbrev pub IsReadRefused : View → Server → ℕ → Refusal → Type 0
IsReadRefused v s oid (refusal.Missing o packed) = (o ≡ oid) × IsMissing v s oid packed
IsReadRefused v s oid r = IsServerRefusal r

-- what a read of an object in a view may answer, while the server stands so
abbrev pub Reads : View → Server → ℕ → Result (ℕ × List ℕ) Refusal → Type 0
Reads v s oid (Ok d) = current v oid ≡ Some d
Reads v s oid (Err r) = IsReadRefused v s oid r

-- ---- votes

-- stores and deletes that a vote may be asked of: each object once, no empty record, none past the limit of an object, and all within that of a
-- transaction
pub record AreVotable (stores : List PendingStore) : Type 0 where
  pub distinct : IsDistinct nat_eq (map (λ p. p.oid) stores)
  pub filled : All (λ p. IsRecord p.content) stores
  pub short : All (λ p. length_of_content p.content ≤ 2 ^ 24) stores
  pub within : sum_by (λ p. length_of_content p.content) stores ≤ 2 ^ 26

-- a text that a transaction may have
abbrev pub IsShortText : List ℕ → Type 0
IsShortText text = length text ≤ 65535
