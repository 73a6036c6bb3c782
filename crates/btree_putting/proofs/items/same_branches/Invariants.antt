use Rattle.std.proofs.Common.{◌≡◌, length}
use Rattle.btree_putting.specs.Items.{same_branches}
use Rattle.btree_putting.proofs.items.same_branches.Given as goal

abbrev pub invariant-same : goal.invariant-same
invariant-same l = same_branches l.left l.right ≡ same_branches l.fn.one l.fn.other

abbrev pub decreases-same : goal.decreases-same
decreases-same l = length l.left
