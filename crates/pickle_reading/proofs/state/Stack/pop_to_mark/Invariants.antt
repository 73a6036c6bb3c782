use Rattle.std.proofs.Common.{◌≡◌, [], length, reverse}
use Rattle.pickle_reading.specs.Stacks.{above_mark}
use Rattle.pickle_reading.proofs.state.Stack.pop_to_mark.Given as goal

abbrev pub invariant-loop-item : goal.invariant-loop-item
invariant-loop-item l = above_mark l.self (reverse l.values.items) ≡ above_mark l.fn.self []

abbrev pub decreases-loop-item : goal.decreases-loop-item
decreases-loop-item l = length l.self
