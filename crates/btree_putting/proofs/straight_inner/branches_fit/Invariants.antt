-- What the separators from here on give is what all give.
use Rattle.std.proofs.Common.{◌≡◌, drop}
use Rattle.btree_putting.specs.StraightInner.{branches_fit}
use Rattle.btree_putting.proofs.straight_inner.branches_fit.Given as goal

abbrev pub invariant-loop-branch : goal.invariant-loop-branch
invariant-loop-branch l = branches_fit l.kind (drop l.branch-index l.branches) ≡ branches_fit l.kind l.branches
