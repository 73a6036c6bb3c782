use Rattle.std.proofs.Common.{◌+◌, ◌-◌}
use Rattle.gen_script.proofs.Counts.{CountsSo}
use Rattle.gen_script.proofs.counting.count_of.Given as goal

abbrev pub invariant-loop-k : goal.invariant-loop-k
invariant-loop-k l = CountsSo l.client l.rounds l.count l.k

abbrev pub decreases-loop-k : goal.decreases-loop-k
decreases-loop-k l = l.rounds + 1 - l.k
