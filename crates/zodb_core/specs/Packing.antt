-- How the hub packs, in one step and in turns. Own.
use Rattle.std.specs.Prelude.{◌≡◌, ℕ, ◌+◌, ◌<◌, ◌≤◌, List, ◌++◌, Option, Some, None, Result, IfErr, OnOk, Bool, true, false, not, ◌==◌, length, if◌then◌else◌}
use Rattle.std.specs.List.{AllByRecursion}
use Rattle.std.specs.Option.{option_map, option_map_or, option_or}
use Rattle.std.specs.Ordering.{nat_cmp}
use Rattle.std.specs.FinSet.{FinSet, len}
use Rattle.zb_model.specs.declared.data.Transaction.{Transaction}
use Rattle.zb_model.specs.declared.packs.Copied.{Copied}
use Rattle.zb_model.specs.declared.refusal.Refusal.{Refusal}
use Rattle.zb_model.specs.declared.refusal.Refusal.TheVariants as refusal
use Rattle.zb_model.specs.Packing.{packed_by}
use Rattle.zb_model.specs.Stores.{ReadKeepsRest, StoreState}
use Rattle.pack_reach.specs.declared.marker.Marked.{Marked}
use Rattle.pack_reach.specs.declared.refusal.PackRefusal.{PackRefusal}
use Rattle.pack_reach.specs.declared.refusal.PackRefusal.TheVariants as pack_refusal
use Rattle.pack_reach.specs.Late.{overtaken}
use Rattle.pack_reach.specs.Marking.{IsMarkedWhole, MarkerState, MayMark}
use Rattle.pack_reach.specs.Outcomes.{HasMarkCause}
use Rattle.pack_reach.specs.Packed.{kept, marks_a_turn, packed, unread}
use Rattle.zodb_core.specs.declared.open_pack.HubPack.{HubPack}
use Rattle.zodb_core.specs.declared.pack_turns.SwitchStop.{SwitchStop}
use Rattle.zodb_core.specs.declared.pack_turns.SwitchStop.TheVariants as switch_stop
use Rattle.zodb_core.specs.declared.reply.Reply.{Reply}
use Rattle.zodb_core.specs.declared.reply.Reply.TheVariants as reply
use Rattle.zodb_core.specs.declared.request.Request.{Request}
use Rattle.zodb_core.specs.declared.request.Request.TheVariants as request
use Rattle.zodb_core.specs.declared.vote.HubVote.{HubVote}
use Rattle.zodb_core.specs.HubState.{HubState, pack_of_hub}
use Rattle.zodb_core.specs.Machine.{Machine, Rules, has_pack}
use Rattle.zodb_core.specs.Outcomes.{changes_store, is_pack, is_packed, reads_store, takes_memory}
use Rattle.zodb_core.specs.Replies.{pack_reply}
use Rattle.zodb_core.specs.Seen.{PackGoal}
use Rattle.zodb_core.specs.Steps.{Stepped, copying_reply, early_refusal, marks_on, refuse_if, step_of, switched}

-- why nothing is packed while the vote is held
abbrev pub busy_with : Option HubVote → Option Refusal
busy_with None = None
busy_with (Some v) = Some (refusal.Busy v.session)

-- why no pack is begun while one is open
abbrev pub running : Option HubPack → Option Refusal
running None = None
running (Some p) = Some (refusal.PackRunning p.session)

-- the machine without the pack of a session
abbrev pub without_pack_of : Machine → ℕ → Machine
without_pack_of m n = record m { pack = if has_pack n m.pack then None else m.pack }

-- how far the open pack goes, and whether objects that nothing leads to go too
abbrev pub goal_of : Option HubPack → Option PackGoal
goal_of pack = option_map (λ (p : HubPack). record { tid = p.tid; collects = p.collects }) pack

-- all that a pack up to a tid keeps is marked, and each record that it must follow can be read
pub record AreAllMarked (collects : Bool) (named : List ℕ → Option (List ℕ)) (t : ℕ) (list : List Transaction) (m : MarkerState) : Type 0 where
  pub set : m.set ≡ kept collects named t list
  pub readable : unread collects named t list ≡ None

-- a refusal names the record that is defined; a failed read and want of memory say nothing of it
abbrev pub RefusesPack : Bool → (List ℕ → Option (List ℕ)) → ℕ → List Transaction → PackRefusal → Type 0
RefusesPack collects named t list (pack_refusal.Unreadable oid tid) = unread collects named t list ≡ Some (oid, tid)
RefusesPack collects named t list pack_refusal.ReadFault = Unit {0}
RefusesPack collects named t list pack_refusal.Memory = Unit {0}

-- a request that packs the list up to a tid, with just these objects kept, where nothing refuses it at once
pub record PacksTo (rules : Rules) (m : Machine) (n : ℕ) (q : Request) (t : ℕ) (keep : FinSet nat_cmp) : Type 0 where
  pub early : early_refusal m n q ≡ None
  pub reads : reads_store q ≡ true
  pub memory : takes_memory q ≡ true
  pub packs : is_pack q ≡ true
  pub step : (stamp : ℕ) → step_of rules m n q stamp ≡ switched m t (packed_by t keep m.list)
  pub changes : (made : Stepped) → is_packed made.reply ≡ true → changes_store m n q made ≡ true

-- ---- turns

-- why a turn isn't made at once
abbrev pub turn_stop : ℕ → Option HubVote → Option HubPack → Option Refusal
turn_stop n vote None = Some refusal.NoPack
turn_stop n vote (Some p) =
    option_or (refuse_if (not (p.session == n)) (refusal.PackRunning p.session)) (if option_map_or (λ k. k.is_whole) p.copying false then busy_with vote else None)

-- what a turn that marked or copied is answered
abbrev pub marked_as : Bool → ℕ → Reply
marked_as true count = reply.Marked count
marked_as false count = reply.Marking count

abbrev pub marked_reply : Marked → Reply
marked_reply marked = marked_as marked.whole marked.count

abbrev pub copied_reply : Copied → Reply
copied_reply copied = copying_reply copied.whole copied.count

-- and a switch that isn't made
abbrev pub stop_reply : SwitchStop → Reply
stop_reply (switch_stop.Marks r) = pack_reply r
stop_reply (switch_stop.Overtaken oid tid) = reply.Refused (refusal.Overtaken oid tid)

-- the machine's open pack is the one that the hub had, the session's own
pub record TakesTurnOf {R F : Type 0} (hub : HubState R F) (m : Machine) (n : ℕ) (p : HubPack) : Type 0 where
  pub allowed : early_refusal m n request.PackTurn ≡ None
  pub pack : m.pack ≡ Some (pack_of_hub hub.store.list hub.store.begun (length hub.journal) p)

-- behind so many marks: more are left, and so many more are marked
pub record AreMoreMarked (collects : Bool) (named : List ℕ → Option (List ℕ)) (t : ℕ) (list : List Transaction) (before : ℕ) (m : MarkerState) (count : ℕ) : Type 0 where
  pub more : marks_on collects named t list before ≡ true
  pub counted : count ≡ before + marks_a_turn
  pub goes_on : MayMark named list m

-- or all that are left
pub record AreLastMarked (collects : Bool) (named : List ℕ → Option (List ℕ)) (t : ℕ) (list : List Transaction) (before : ℕ) (m : MarkerState) (count : ℕ) : Type 0 where
  pub last : marks_on collects named t list before ≡ false
  pub all : AreAllMarked collects named t list m
  pub counted : count ≡ len m.set
  pub whole : collects ≡ true → IsMarkedWhole named list m

abbrev pub IsMarkedTo : Bool → (List ℕ → Option (List ℕ)) → ℕ → List Transaction → ℕ → MarkerState → ℕ → Bool → Type 0
IsMarkedTo collects named t list before m count false = AreMoreMarked collects named t list before m count
IsMarkedTo collects named t list before m count true = AreLastMarked collects named t list before m count

-- a record that can't be read is refused at the last turn
abbrev pub RefusesMarks : Bool → (List ℕ → Option (List ℕ)) → ℕ → List Transaction → ℕ → PackRefusal → Type 0
RefusesMarks collects named t list before (pack_refusal.Unreadable oid tid) = (marks_on collects named t list before ≡ false) × (unread collects named t list ≡ Some (oid, tid))
RefusesMarks collects named t list before pack_refusal.ReadFault = Unit {0}
RefusesMarks collects named t list before pack_refusal.Memory = Unit {0}

-- ---- the switch

-- all that a pack keeps was marked over a front of the list, and what stands behind it is above the pack's tid
pub record IsFrontOf (collects : Bool) (named : List ℕ → Option (List ℕ)) (list front commits : List Transaction) (m : MarkerState) : Type 0 where
  pub split : list ≡ front ++ commits
  pub later : AllByRecursion (λ x. m.tid < x.tid) commits
  pub set : m.set ≡ kept collects named m.tid front
  pub whole : collects ≡ true → IsMarkedWhole named front m

-- it may be switched: what it marked, and what it marks now, leave of the list what a pack leaves
pub record PassesTest (collects : Bool) (named : List ℕ → Option (List ℕ)) (front commits : List Transaction) (old new : MarkerState) : Type 0 where
  pub readable : unread collects named old.tid (front ++ commits) ≡ None
  pub not_late : overtaken collects named old.set old.tid front commits ≡ None
  pub before : packed_by old.tid old.set (front ++ commits) ≡ packed collects named old.tid (front ++ commits)
  pub now : packed_by old.tid new.set (front ++ commits) ≡ packed collects named old.tid (front ++ commits)

-- it may not: a record can't be read, or a commit overtook it
abbrev pub StopsSwitch : Bool → (List ℕ → Option (List ℕ)) → List Transaction → List Transaction → MarkerState → SwitchStop → Type 0
StopsSwitch collects named front commits m (switch_stop.Marks (pack_refusal.Unreadable oid tid)) = unread collects named m.tid (front ++ commits) ≡ Some (oid, tid)
StopsSwitch collects named front commits m (switch_stop.Marks pack_refusal.ReadFault) = Unit {0}
StopsSwitch collects named front commits m (switch_stop.Marks pack_refusal.Memory) = Unit {0}
StopsSwitch collects named front commits m (switch_stop.Overtaken oid tid) =
    (unread collects named m.tid (front ++ commits) ≡ None) × (overtaken collects named m.set m.tid front commits ≡ Some (oid, tid))

-- why a switch isn't made: a read fault is told only where that count rose, and anything else where it has not moved
abbrev pub HasStopCause : ℕ → ℕ → SwitchStop → Type 0
HasStopCause before now (switch_stop.Marks r) = HasMarkCause before now r
HasStopCause before now (switch_stop.Overtaken oid tid) = now ≡ before

-- testing only reads
pub record ReadsToTest {T : Type 0} (old new : StoreState) (result : Result T SwitchStop) : Type 0 where
  pub same : ReadKeepsRest old new
  pub counted : old.read_faults ≤ new.read_faults
  pub cause : IfErr result (HasStopCause old.read_faults new.read_faults)
  pub answered : OnOk result (new.read_faults ≡ old.read_faults)
