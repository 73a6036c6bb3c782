-- What the contracts of a marker say of its answers. Own.
use Rattle.std.specs.Prelude.{◌≡◌, ℕ, ◌+◌, ◌<◌, ◌≤◌, ◌↔◌, List, ◌++◌, Option, Some, None, Result, Ok, Err, IfErr, OnOk, IsTrue, Bool, true, false}
use Rattle.std.specs.FinSet.{contains, len}
use Rattle.zb_base.specs.Counts.{Rose}
use Rattle.zb_model.specs.declared.data.Transaction.{Transaction}
use Rattle.zb_model.specs.declared.store_error.StoreError.{StoreError}
use Rattle.zb_model.specs.declared.store_error.StoreError.TheVariants as store_error
use Rattle.zb_model.specs.Stores.{StoreState, ReadKeepsRest}
use Rattle.pack_reach.specs.declared.marker.Marked.{Marked}
use Rattle.pack_reach.specs.declared.refusal.PackRefusal.{PackRefusal}
use Rattle.pack_reach.specs.declared.refusal.PackRefusal.TheVariants as pack_refusal
use Rattle.pack_reach.specs.Late.{late_from}
use Rattle.pack_reach.specs.Marking.{IsComplete, IsMarkedWhole, IsMarking, MarkerState}
use Rattle.pack_reach.specs.Packed.{marks_a_turn}
use Rattle.pack_reach.specs.Reach.{IsReached}
use Rattle.pack_reach.specs.Reached.{reached, unreadable}

-- all is marked: the marked objects are exactly the reached ones, each record that the reach follows was read, and the
-- count is theirs
pub record IsAllMarked (named : List ℕ → Option (List ℕ)) (list : List Transaction) (m : MarkerState) (n : ℕ) : Type 0 where
  pub exact : (oid : ℕ) → IsTrue (contains m.set oid) ↔ IsReached named m.tid list oid
  pub set : m.set ≡ reached named m.tid list
  pub readable : unreadable named m.tid list ≡ None
  pub count : n ≡ len m.set

-- a refusal names the record that is defined; a failed read and want of memory say nothing of it
abbrev pub RefusesToMark : (List ℕ → Option (List ℕ)) → List Transaction → MarkerState → PackRefusal → Type 0
RefusesToMark named list m (pack_refusal.Unreadable oid tid) = unreadable named m.tid list ≡ Some (oid, tid)
RefusesToMark named list m pack_refusal.ReadFault = Unit {0}
RefusesToMark named list m pack_refusal.Memory = Unit {0}

-- the answer is the one that is defined, where all is marked at once
abbrev pub IsMarked : (List ℕ → Option (List ℕ)) → List Transaction → MarkerState → Result ℕ PackRefusal → Type 0
IsMarked named list m (Ok count) = IsAllMarked named list m count
IsMarked named list m (Err why) = RefusesToMark named list m why

-- ---- a turn, of a marker whose turns have answered so many objects before

-- more are left than a turn marks
abbrev pub IsMoreLeft : (List ℕ → Option (List ℕ)) → List Transaction → ℕ → MarkerState → Type 0
IsMoreLeft named list before m = before + marks_a_turn < len (reached named m.tid list)

-- no more are
abbrev pub IsLastTurn : (List ℕ → Option (List ℕ)) → List Transaction → ℕ → MarkerState → Type 0
IsLastTurn named list before m = len (reached named m.tid list) ≤ before + marks_a_turn

-- where more are left a turn counts so many more, and at the last turn all is marked
abbrev pub IsTurnMarked : (List ℕ → Option (List ℕ)) → List Transaction → ℕ → MarkerState → Bool → ℕ → Type 0
IsTurnMarked named list before m false count = IsMoreLeft named list before m × (count ≡ before + marks_a_turn)
IsTurnMarked named list before m true count = IsLastTurn named list before m × IsAllMarked named list m count

-- a record that can't be read is refused at the last turn
abbrev pub RefusesTurn : (List ℕ → Option (List ℕ)) → List Transaction → ℕ → MarkerState → PackRefusal → Type 0
RefusesTurn named list before m (pack_refusal.Unreadable oid tid) = IsLastTurn named list before m × (unreadable named m.tid list ≡ Some (oid, tid))
RefusesTurn named list before m pack_refusal.ReadFault = Unit {0}
RefusesTurn named list before m pack_refusal.Memory = Unit {0}

-- the answer of a turn is the one that is defined
abbrev pub IsMarkTurn : (List ℕ → Option (List ℕ)) → List Transaction → ℕ → MarkerState → Result Marked PackRefusal → Type 0
IsMarkTurn named list before m (Ok marked) = IsTurnMarked named list before m marked.whole marked.count
IsMarkTurn named list before m (Err why) = RefusesTurn named list before m why

-- ---- at the switch

-- the marks over a front go on over the commits behind it: all records can be read, and this is the first commit that
-- overtakes the pack, with the least object by which it does
pub record IsLateFound (named : List ℕ → Option (List ℕ)) (front commits : List Transaction) (old new : MarkerState) (answer : Option (ℕ × ℕ)) : Type 0 where
  pub readable : unreadable named old.tid (front ++ commits) ≡ None
  pub late : answer ≡ late_from named old.set old.tid front commits
  pub set : new.set ≡ reached named old.tid (front ++ commits)
  pub whole : IsMarkedWhole named (front ++ commits) new

abbrev pub IsLate : (List ℕ → Option (List ℕ)) → List Transaction → List Transaction → MarkerState → MarkerState → Result (Option (ℕ × ℕ)) PackRefusal → Type 0
IsLate named front commits old new (Ok late) = IsLateFound named front commits old new late
IsLate named front commits old new (Err why) = RefusesToMark named (front ++ commits) old why

-- and so where records that can't be read are only noted
pub record AreCommitsMarked (named : List ℕ → Option (List ℕ)) (front commits : List Transaction) (old new : MarkerState) (answer : Option (ℕ × ℕ)) : Type 0 where
  pub late : answer ≡ late_from named old.set old.tid front commits
  pub marks : IsMarking named (front ++ commits) new
  pub all : IsComplete (front ++ commits) new

abbrev pub FindsLate : (List ℕ → Option (List ℕ)) → List Transaction → List Transaction → MarkerState → MarkerState → Result (Option (ℕ × ℕ)) StoreError → Type 0
FindsLate named front commits old new (Ok late) = AreCommitsMarked named front commits old new late
FindsLate named front commits old new (Err why) = Unit {0}

-- ---- refusals

-- a record that was noted is refused
abbrev pub readable_as : Option (ℕ × ℕ) → Result (Unit {0}) PackRefusal
readable_as None = Ok tt
readable_as (Some p) = Err (pack_refusal.Unreadable p.0 p.1)

-- no record is followed, so none is refused
abbrev pub IsOfStore : PackRefusal → Type 0
IsOfStore (pack_refusal.Unreadable oid tid) = ⊥
IsOfStore pack_refusal.ReadFault = Unit {0}
IsOfStore pack_refusal.Memory = Unit {0}

-- why a read of the store wasn't answered
abbrev pub unread_refusal : StoreError → PackRefusal
unread_refusal store_error.StoreFault = pack_refusal.ReadFault
unread_refusal store_error.ReadFault = pack_refusal.ReadFault
unread_refusal store_error.Memory = pack_refusal.Memory

-- a read fault is answered only where the count of failed reads rose, and any other refusal only where it has not moved
abbrev pub HasMarkCause : ℕ → ℕ → PackRefusal → Type 0
HasMarkCause before now (pack_refusal.Unreadable oid tid) = now ≡ before
HasMarkCause before now pack_refusal.ReadFault = Rose before now
HasMarkCause before now pack_refusal.Memory = now ≡ before

-- marking only reads: all of the store but its count of failed reads is as before, and that moves only where a read fault is answered
pub record ReadsToMark {T : Type 0} (old new : StoreState) (result : Result T PackRefusal) : Type 0 where
  pub same : ReadKeepsRest old new
  pub counted : old.read_faults ≤ new.read_faults
  pub cause : IfErr result (HasMarkCause old.read_faults new.read_faults)
  pub answered : OnOk result (new.read_faults ≡ old.read_faults)
