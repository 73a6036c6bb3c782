use Rattle.std.proofs.Common.{◌≡◌, ◌++◌, drop}
use Rattle.btree_putting.proofs.copying.copy_nodes.Given as goal

abbrev pub invariant-loop-node : goal.invariant-loop-node
invariant-loop-node l = l.copy.items ++ drop l.node-index l.nodes ≡ l.nodes
