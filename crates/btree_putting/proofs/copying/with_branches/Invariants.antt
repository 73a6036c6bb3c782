use Rattle.std.proofs.Common.{◌≡◌, ◌++◌, drop}
use Rattle.btree_putting.proofs.copying.with_branches.Given as goal

abbrev pub invariant-loop-branch : goal.invariant-loop-branch
invariant-loop-branch l = l.all ++ drop l.branch-index l.more ≡ l.fn.branches ++ l.more
