use Rattle.std.proofs.Common.{◌≡◌, drop}
use Rattle.bucket_state.specs.Trees.{separators_of}
use Rattle.btree_putting.specs.Writing.{are_writable}
use Rattle.btree_putting.proofs.writing.branches_writable.Given as goal

abbrev pub invariant-loop-branch : goal.invariant-loop-branch
invariant-loop-branch l = are_writable (separators_of (drop l.branch-index l.branches)) ≡ are_writable (separators_of l.branches)
