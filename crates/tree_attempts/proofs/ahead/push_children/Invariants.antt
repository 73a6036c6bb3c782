use Rattle.std.proofs.Common.{◌≡◌, ◌++◌, length}
use Rattle.btree_maps.specs.Visits.{children_within}
use Rattle.tree_attempts.proofs.ahead.push_children.Given as goal

abbrev pub invariant-children : goal.invariant-children
invariant-children l = l.fn.below.items ++ children_within l.fn.span l.fn.inner.head l.fn.inner.tail ≡ l.below.items ++ l.children

abbrev pub decreases-children : goal.decreases-children
decreases-children l = length l.children
