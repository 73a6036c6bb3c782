use Rattle.std.proofs.Common.{◌≡◌, ◌++◌, drop}
use Rattle.btree_putting.proofs.copying.with_items.Given as goal

abbrev pub invariant-loop-item : goal.invariant-loop-item
invariant-loop-item l = l.all ++ drop l.item-index l.more ≡ l.fn.items ++ l.more
