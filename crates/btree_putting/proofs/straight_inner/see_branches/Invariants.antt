-- Where the branches from here on are so, all are.
use Rattle.std.proofs.Common.{drop}
use Rattle.btree_putting.specs.StraightInner.{AreSeen}
use Rattle.btree_putting.proofs.straight_inner.see_branches.Given as goal

abbrev pub invariant-loop-branch : goal.invariant-loop-branch
invariant-loop-branch l = AreSeen (drop l.branch-index l.branches) → AreSeen l.branches
