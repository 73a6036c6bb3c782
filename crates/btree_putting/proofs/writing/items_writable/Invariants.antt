use Rattle.std.proofs.Common.{◌≡◌, drop}
use Rattle.btree_family.specs.Buckets.{keys_of}
use Rattle.btree_putting.specs.Writing.{are_writable}
use Rattle.btree_putting.proofs.writing.items_writable.Given as goal

abbrev pub invariant-loop-item : goal.invariant-loop-item
invariant-loop-item l = are_writable (keys_of (drop l.item-index l.items)) ≡ are_writable (keys_of l.items)
