use Rattle.std.proofs.Common.{◌≡◌, drop, None}
use Rattle.btree_removing.specs.Sides.{left_child}
use Rattle.btree_removing.proofs.sides.left_child.Given as goal

abbrev pub invariant-loop-branch : goal.invariant-loop-branch
invariant-loop-branch l = left_child l.left l.child (drop l.branch-index l.branch-items) l.fn.key ≡ left_child None l.fn.inner.head l.branch-items l.fn.key
