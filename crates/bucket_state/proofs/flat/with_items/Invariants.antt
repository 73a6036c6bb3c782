-- What the items from here on add to what is written gives the whole.
use Rattle.std.proofs.Common.{List, ℕ, drop}
use Rattle.btree_family.specs.Classes.{class_seen}
use Rattle.bucket_state.specs.Flat.{IsWithItems}
use Rattle.bucket_state.proofs.flat.with_items.Given as goal

abbrev pub invariant-loop-item : goal.invariant-loop-item
invariant-loop-item l =
    (text : List ℕ) → IsWithItems (class_seen l.row) l.all (drop l.item-index l.items) text → IsWithItems (class_seen l.row) l.fn.text l.items text
