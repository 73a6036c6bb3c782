use Rattle.std.proofs.Common.{◌≡◌, drop}
use Rattle.bucket_state.specs.Trees.{separators_of}
use Rattle.btree_checking.specs.Rules.{are_within}
use Rattle.btree_checking.proofs.rules.branches_within.Given as goal

abbrev pub invariant-loop-branch : goal.invariant-loop-branch
invariant-loop-branch l = are_within l.fn.low l.fn.high (separators_of (drop l.branch-index l.branches)) ≡ are_within l.fn.low l.fn.high (separators_of l.branches)
