use Rattle.std.proofs.Common.{◌≡◌, ℕ, take, reverse}
use Rattle.pickle_writing.specs.Numbers.{number_in, number_of}
use Rattle.pickle_writing.proofs.node_map.table_of.Given as goal

-- the table has the numbers of the pairs so far
abbrev pub invariant-loop-pair : goal.invariant-loop-pair
invariant-loop-pair l = (m : ℕ) → number_in l.table.items m ≡ number_of m (reverse (take l.pair-index l.pairs))
