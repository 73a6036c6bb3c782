use Rattle.std.proofs.Common.{◌≡◌, drop}
use Rattle.btree_putting.specs.Items.{has_key}
use Rattle.btree_putting.proofs.items.has_key.Given as goal

abbrev pub invariant-loop-item : goal.invariant-loop-item
invariant-loop-item l = has_key (drop l.item-index l.items) l.fn.key ≡ has_key l.items l.fn.key
