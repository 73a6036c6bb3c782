use Rattle.std.proofs.Common.{◌≡◌, ◌++◌, drop}
use Rattle.btree_maps.specs.Visits.{items_within}
use Rattle.btree_maps.proofs.walk.gather.Given as goal

abbrev pub invariant-loop-item : goal.invariant-loop-item
invariant-loop-item l = l.all ++ items_within l.fn.span (drop l.item-index l.more) ≡ l.fn.items ++ items_within l.fn.span l.more
