use Rattle.std.proofs.Common.{◌≡◌, drop}
use Rattle.btree_removing.specs.Lasts.{last_child}
use Rattle.btree_removing.proofs.last.last_child.Given as goal

abbrev pub invariant-loop-branch : goal.invariant-loop-branch
invariant-loop-branch l = last_child l.child (drop l.branch-index l.branch-items) ≡ last_child l.fn.inner.head l.branch-items
