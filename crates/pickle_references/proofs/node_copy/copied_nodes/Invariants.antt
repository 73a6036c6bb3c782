use Rattle.std.proofs.Common.{◌≡◌, ◌++◌, drop}
use Rattle.pickle_references.proofs.node_copy.copied_nodes.Given as goal

-- the nodes that were copied, and those that are left
abbrev pub invariant-loop-node : goal.invariant-loop-node
invariant-loop-node l = l.copy.items ++ drop l.node-index l.nodes ≡ l.fn.nodes
