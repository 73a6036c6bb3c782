use Rattle.std.proofs.Common.{length}
use Rattle.btree_removing.specs.Items.{remove_item}
use Rattle.btree_removing.proofs.Cutting.{ItemsSo}
use Rattle.btree_removing.proofs.items.remove_item.Given as goal

abbrev pub invariant-items : goal.invariant-items
invariant-items l = ItemsSo l.fn.key (remove_item l.fn.items l.fn.key) l.all l.rest

abbrev pub decreases-items : goal.decreases-items
decreases-items l = length l.rest
