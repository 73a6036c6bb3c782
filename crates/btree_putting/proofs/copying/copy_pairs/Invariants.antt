use Rattle.std.proofs.Common.{◌≡◌, ◌++◌, drop}
use Rattle.btree_putting.proofs.copying.copy_pairs.Given as goal

abbrev pub invariant-loop-pair : goal.invariant-loop-pair
invariant-loop-pair l = l.copy.items ++ drop l.pair-index l.pairs ≡ l.pairs
