use Rattle.std.proofs.Common.{◌≡◌, [], reverse}
use Rattle.pickle_reading.specs.Stacks.{top_values}
use Rattle.pickle_reading.proofs.state.Stack.pop_values.Given as goal

abbrev pub invariant-loop-left : goal.invariant-loop-left
invariant-loop-left l = top_values l.left l.self (reverse l.values.items) ≡ top_values l.fn.count l.fn.self []

abbrev pub decreases-loop-left : goal.decreases-loop-left
decreases-loop-left l = l.left
