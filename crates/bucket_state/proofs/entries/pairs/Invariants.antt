-- What was found so far, and what the rest gives, are the whole.
use Rattle.std.proofs.Common.{◌≡◌, length}
use Rattle.bucket_state.specs.States.{pair_entries}
use Rattle.bucket_state.proofs.Loops.{behind}
use Rattle.bucket_state.proofs.entries.pairs.Given as goal

abbrev pub invariant-pairs : goal.invariant-pairs
invariant-pairs l = behind l.entries.items (pair_entries l.rest) ≡ pair_entries l.fn.members

abbrev pub decreases-pairs : goal.decreases-pairs
decreases-pairs l = length l.rest
