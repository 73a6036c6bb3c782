use Rattle.std.proofs.Common.{◌≡◌, ◌≤◌, ◌∷◌, drop, take}
use Rattle.std.specs.Prelude.{map}
use Rattle.btree_maps.specs.Visits.{child_of}
use Rattle.btree_maps.proofs.span.children_between.Given as goal

abbrev pub invariant-loop-place : goal.invariant-loop-place
invariant-loop-place l = record { from : l.from ≤ l.place; within : l.place ≤ l.end; is : l.children ≡ drop l.place (take l.end (l.inner.head ∷ map child_of l.inner.tail)) }

abbrev pub decreases-loop-place : goal.decreases-loop-place
decreases-loop-place l = l.place
