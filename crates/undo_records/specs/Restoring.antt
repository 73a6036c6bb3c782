-- That undoing the newest transaction restores what was there before it. Own.
use Rattle.std.specs.Prelude.{◌≡◌, ℕ, List, [], ◌∷◌, ◌++◌, Result, Ok, Err, false, IsSomeAnd, None}
use Rattle.std.specs.List.{last_or}
use Rattle.zb_model.specs.declared.data.Transaction.{Transaction}
use Rattle.zb_model.specs.declared.new_transaction.NewChange.{NewChange}
use Rattle.zb_model.specs.declared.new_transaction.NewTransaction.{NewTransaction}
use Rattle.zb_model.specs.Database.{newest_tid}
use Rattle.zb_model.specs.Voting.{voted_of}
use Rattle.undo_records.specs.declared.refusal.UndoRefusal.{UndoRefusal}
use Rattle.undo_records.specs.declared.refusal.UndoRefusal.TheVariants as undo_refusal
use Rattle.undo_records.specs.Undone.{content_before, last_content}

-- the newest transaction alone is named, and no pack has gone over it
pub record NamesNewest (list : List Transaction) (tids : List ℕ) : Type 0 where
  pub alone : tids ≡ newest_tid list ∷ []
  pub unpacked : IsSomeAnd (last_or None list) (λ t. t.packed ≡ false)

-- with these changes committed behind it, a list gives every object the content that it had before the newest transaction
abbrev pub GivesBack : List Transaction → List NewChange → Type 0
GivesBack list changes = (new : NewTransaction) (oid : ℕ) → new.changes ≡ changes → last_content oid (list ++ voted_of list new ∷ []) ≡ content_before oid (newest_tid list) list

-- what is written gives back what was there before; but for a failed read and want of memory nothing refuses it
abbrev pub IsRestored : List Transaction → Result (List NewChange) UndoRefusal → Type 0
IsRestored list (Ok changes) = GivesBack list changes
IsRestored list (Err (undo_refusal.UndoUnknown tid)) = ⊥
IsRestored list (Err (undo_refusal.UndoPacked tid)) = ⊥
IsRestored list (Err (undo_refusal.UndoConflict oid later)) = ⊥
IsRestored list (Err undo_refusal.ReadFault) = Unit {0}
IsRestored list (Err undo_refusal.Memory) = Unit {0}
