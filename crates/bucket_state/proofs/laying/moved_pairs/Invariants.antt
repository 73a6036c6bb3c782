-- What was moved so far, and the rest moved, are all moved.
use Rattle.std.proofs.Common.{◌≡◌, ◌++◌, map, drop}
use Rattle.bucket_state.specs.Written.{shifted_pair}
use Rattle.bucket_state.proofs.laying.moved_pairs.Given as goal

abbrev pub invariant-loop-pair : goal.invariant-loop-pair
invariant-loop-pair l = l.moved.items ++ map (shifted_pair l.by) (drop l.pair-index l.pairs) ≡ map (shifted_pair l.by) l.pairs
