-- What the separators from here on give is what all give.
use Rattle.std.proofs.Common.{◌≡◌, drop, None}
use Rattle.std.specs.Option.{option_copied}
use Rattle.bucket_state.specs.States.{stand_in_row}
use Rattle.bucket_state.specs.Trees.{separators_of}
use Rattle.btree_putting.proofs.straight_inner.branches_stand.Given as goal

abbrev pub invariant-loop-branch : goal.invariant-loop-branch
invariant-loop-branch l = stand_in_row (option_copied l.before) (separators_of (drop l.branch-index l.branches)) ≡ stand_in_row None (separators_of l.branches)
