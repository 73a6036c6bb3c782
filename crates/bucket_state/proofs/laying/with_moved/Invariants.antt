-- The nodes so far, and the rest moved, are all.
use Rattle.std.proofs.Common.{◌≡◌, ◌++◌, map, drop}
use Rattle.bucket_state.specs.Written.{shifted}
use Rattle.bucket_state.proofs.laying.with_moved.Given as goal

abbrev pub invariant-loop-node : goal.invariant-loop-node
invariant-loop-node l = l.nodes.items ++ map (shifted l.by) (drop l.node-index l.others) ≡ l.initial.nodes.items ++ map (shifted l.by) l.others
