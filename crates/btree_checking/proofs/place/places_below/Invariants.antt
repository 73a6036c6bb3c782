use Rattle.std.proofs.Common.{◌≡◌, ◌++◌, drop}
use Rattle.btree_checking.specs.Rules.{places_from}
use Rattle.btree_checking.proofs.place.places_below.Given as goal

abbrev pub invariant-loop-branch : goal.invariant-loop-branch
invariant-loop-branch l =
    l.places ++ places_from l.fn.level l.low l.fn.place.high l.child (drop l.branch-index l.branch-items)
    ≡ places_from l.fn.level l.fn.place.low l.fn.place.high l.fn.inner.head l.branch-items
