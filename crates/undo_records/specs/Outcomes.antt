-- What the contract of undo says of its answer. Own.
use Rattle.std.specs.Prelude.{◌≡◌, ℕ, ◌≤◌, List, Result, Ok, Err, IfErr, OnOk, map, nat_eq, All}
use Rattle.std.specs.List.{IsDistinct}
use Rattle.zb_base.specs.Counts.{Rose}
use Rattle.zb_model.specs.declared.new_transaction.NewChange.{NewChange}
use Rattle.zb_model.specs.declared.refusal.Refusal.{Refusal}
use Rattle.zb_model.specs.declared.refusal.Refusal.TheVariants as refusal
use Rattle.zb_model.specs.declared.store_error.StoreError.{StoreError}
use Rattle.zb_model.specs.declared.store_error.StoreError.TheVariants as store_error
use Rattle.zb_model.specs.Stores.{StoreState, ReadKeepsRest}
use Rattle.zb_model.specs.Voting.{IsFilled}
use Rattle.undo_records.specs.declared.refusal.UndoRefusal.{UndoRefusal}
use Rattle.undo_records.specs.declared.refusal.UndoRefusal.TheVariants as undo_refusal

-- the refusal is the one that is defined; a failed read and want of memory say nothing of it
abbrev pub RefusesUndo : {T : Type 0} → Result T Refusal → UndoRefusal → Type 0
RefusesUndo undone (undo_refusal.UndoUnknown tid) = undone ≡ Err (refusal.UndoUnknown tid)
RefusesUndo undone (undo_refusal.UndoPacked tid) = undone ≡ Err (refusal.UndoPacked tid)
RefusesUndo undone (undo_refusal.UndoConflict oid later) = undone ≡ Err (refusal.UndoConflict oid later)
RefusesUndo undone undo_refusal.ReadFault = Unit {0}
RefusesUndo undone undo_refusal.Memory = Unit {0}

-- the answer is the one that is defined
abbrev pub IsUndone : {T : Type 0} → Result T Refusal → Result T UndoRefusal → Type 0
IsUndone undone (Ok x) = undone ≡ Ok x
IsUndone undone (Err why) = RefusesUndo undone why

-- why a read of the store wasn't answered
abbrev pub unread_refusal : StoreError → UndoRefusal
unread_refusal store_error.StoreFault = undo_refusal.ReadFault
unread_refusal store_error.ReadFault = undo_refusal.ReadFault
unread_refusal store_error.Memory = undo_refusal.Memory

-- a read fault is answered only where the count of failed reads rose, and any other refusal only where it has not moved
abbrev pub HasUndoCause : ℕ → ℕ → UndoRefusal → Type 0
HasUndoCause before now (undo_refusal.UndoUnknown tid) = now ≡ before
HasUndoCause before now (undo_refusal.UndoPacked tid) = now ≡ before
HasUndoCause before now (undo_refusal.UndoConflict oid later) = now ≡ before
HasUndoCause before now undo_refusal.ReadFault = Rose before now
HasUndoCause before now undo_refusal.Memory = now ≡ before

-- undo only reads: all of the store but its count of failed reads is as before, and that moves only where a read fault is answered
pub record ReadsToUndo {T : Type 0} (old new : StoreState) (result : Result T UndoRefusal) : Type 0 where
  pub same : ReadKeepsRest old new
  pub counted : old.read_faults ≤ new.read_faults
  pub cause : IfErr result (HasUndoCause old.read_faults new.read_faults)
  pub answered : OnOk result (new.read_faults ≡ old.read_faults)

-- changes that a store may vote: each names its object once, and none has empty bytes
pub record AreWellFormedChanges (changes : List NewChange) : Type 0 where
  pub distinct : IsDistinct nat_eq (map (λ c. c.oid) changes)
  pub filled : All (λ c. IsFilled c.content) changes
