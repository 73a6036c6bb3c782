use Rattle.std.proofs.Common.{◌≡◌, ◌+◌, drop}
use Rattle.btree_shapes.specs.Nodes.{place_for}
use Rattle.btree_shapes.proofs.key.place_for.Given as goal

abbrev pub invariant-loop-place : goal.invariant-loop-place
invariant-loop-place l = l.place + place_for (drop l.place l.branches) l.fn.key ≡ place_for l.branches l.fn.key
