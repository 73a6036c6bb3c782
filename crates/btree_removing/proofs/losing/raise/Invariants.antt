use Rattle.std.proofs.Common.{length}
use Rattle.btree_removing.specs.Losses.{raise, leaves_tree}
use Rattle.btree_removing.proofs.Raising.{RaisesSo}
use Rattle.btree_removing.proofs.losing.raise.Given as goal

abbrev pub invariant-up : goal.invariant-up
invariant-up l = RaisesSo l.fn.key l.fn.known (raise l.fn.key l.fn.known l.fn.rungs (leaves_tree l.fn.leaf)) l.left l.loss

abbrev pub decreases-up : goal.decreases-up
decreases-up l = length l.left
