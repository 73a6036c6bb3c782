-- What was moved so far, and the rest moved, are all moved.
use Rattle.std.proofs.Common.{◌≡◌, ◌+◌, ◌++◌, map, drop}
use Rattle.bucket_state.proofs.laying.moved_numbers.Given as goal

abbrev pub invariant-loop-number : goal.invariant-loop-number
invariant-loop-number l = l.moved.items ++ map (λ n. l.by + n) (drop l.number-index l.numbers) ≡ map (λ n. l.by + n) l.numbers
