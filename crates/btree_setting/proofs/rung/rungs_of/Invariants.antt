use Rattle.std.proofs.Common.{length}
use Rattle.btree_setting.proofs.Rising.{RungsSo}
use Rattle.btree_setting.proofs.rung.rungs_of.Given as goal

abbrev pub invariant-up : goal.invariant-up
invariant-up l = RungsSo l.fn.max l.fn.key l.fn.splits l.fn.leaf l.fn.path l.path l.rungs l.leaves l.grows l.first

abbrev pub decreases-up : goal.decreases-up
decreases-up l = length l.path
