use Rattle.std.proofs.Common.{length}
use Rattle.btree_removing.proofs.Raising.{RungsSo}
use Rattle.btree_removing.proofs.rung.rungs_of.Given as goal

abbrev pub invariant-up : goal.invariant-up
invariant-up l = RungsSo l.fn.leaf l.fn.path l.path l.rungs l.leaves

abbrev pub decreases-up : goal.decreases-up
decreases-up l = length l.path
