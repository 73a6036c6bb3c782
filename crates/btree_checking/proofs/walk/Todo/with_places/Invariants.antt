use Rattle.std.proofs.Common.{◌≡◌, ◌++◌, length}
use Rattle.btree_checking.proofs.walk.Todo.with_places.Given as goal

abbrev pub invariant-places : goal.invariant-places
invariant-places l = l.places.items ++ l.todo ≡ l.fn.places ++ l.fn.self

abbrev pub decreases-places : goal.decreases-places
decreases-places l = length l.places.items
