use Rattle.std.proofs.Common.{◌≡◌, drop}
use Rattle.btree_shapes.specs.Nodes.{value_in}
use Rattle.btree_shapes.proofs.node.value_in.Given as goal

abbrev pub invariant-loop-item : goal.invariant-loop-item
invariant-loop-item l = value_in (drop l.item-index l.items) l.fn.key ≡ value_in l.items l.fn.key
