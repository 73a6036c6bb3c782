use Rattle.std.proofs.Common.{◌≡◌, drop}
use Rattle.btree_family.specs.Keys.{rank_of}
use Rattle.bucket_state.specs.Trees.{separators_of}
use Rattle.btree_checking.specs.Rules.{are_of_kind}
use Rattle.btree_checking.proofs.rules.branches_of_kind.Given as goal

abbrev pub invariant-loop-branch : goal.invariant-loop-branch
invariant-loop-branch l = are_of_kind (rank_of l.fn.kind) (separators_of (drop l.branch-index l.branches)) ≡ are_of_kind (rank_of l.fn.kind) (separators_of l.branches)
