use Rattle.std.proofs.Common.{◌≡◌, ◌++◌, drop}
use Rattle.zb_literals.specs.Printing.{more_pair_parts}
use Rattle.zb_literals.proofs.parts.with_pairs.Given as goal

abbrev pub invariant-loop-pair : goal.invariant-loop-pair
invariant-loop-pair l = l.parts.items ++ more_pair_parts (drop l.pair-index l.pairs) ≡ l.fn.parts.items ++ more_pair_parts l.pairs
