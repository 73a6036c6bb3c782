use Rattle.std.proofs.Common.{◌≡◌, drop}
use Rattle.btree_putting.specs.Items.{has_value}
use Rattle.btree_putting.proofs.items.has_value.Given as goal

abbrev pub invariant-loop-item : goal.invariant-loop-item
invariant-loop-item l = has_value (drop l.item-index l.items) l.fn.key l.fn.value ≡ has_value l.items l.fn.key l.fn.value
