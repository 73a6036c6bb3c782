use Rattle.std.proofs.Common.{◌≡◌, length}
use Rattle.pickle_references.specs.Shapes.{to_mark, none_passed}
use Rattle.pickle_references.proofs.passing.pass_to_mark.Given as goal

abbrev pub invariant-loop-item : goal.invariant-loop-item
invariant-loop-item l = to_mark l.stack l.seen ≡ to_mark l.fn.stack none_passed

abbrev pub decreases-loop-item : goal.decreases-loop-item
decreases-loop-item l = length l.stack
