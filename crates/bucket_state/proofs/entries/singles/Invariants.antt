-- What was found so far, and what the rest gives, are the whole.
use Rattle.std.proofs.Common.{◌≡◌, ◌++◌, drop}
use Rattle.bucket_state.specs.States.{single_entries}
use Rattle.bucket_state.proofs.entries.singles.Given as goal

abbrev pub invariant-loop-key : goal.invariant-loop-key
invariant-loop-key l = l.entries.items ++ single_entries (drop l.key-index l.members) ≡ single_entries l.members
