use Rattle.std.proofs.Common.{◌≡◌, length}
use Rattle.btree_putting.specs.Items.{same_items}
use Rattle.btree_putting.proofs.items.same_items.Given as goal

abbrev pub invariant-same : goal.invariant-same
invariant-same l = same_items l.left l.right ≡ same_items l.fn.one l.fn.other

abbrev pub decreases-same : goal.decreases-same
decreases-same l = length l.left
