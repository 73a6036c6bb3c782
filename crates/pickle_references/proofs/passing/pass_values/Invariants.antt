use Rattle.std.proofs.Common.{◌≡◌}
use Rattle.pickle_references.specs.Shapes.{past_top, none_passed}
use Rattle.pickle_references.proofs.passing.pass_values.Given as goal

abbrev pub invariant-loop-left : goal.invariant-loop-left
invariant-loop-left l = past_top l.left l.stack l.seen ≡ past_top l.fn.count l.fn.stack none_passed

abbrev pub decreases-loop-left : goal.decreases-loop-left
decreases-loop-left l = l.left
