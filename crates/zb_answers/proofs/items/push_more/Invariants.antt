use Rattle.std.proofs.Common.{◌≡◌, ◌++◌, take}
use Rattle.zb_answers.specs.Items.{more_items}
use Rattle.zb_answers.proofs.items.push_more.Given as goal

abbrev pub invariant-loop-item : goal.invariant-loop-item
invariant-loop-item l = l.out.items ≡ l.fn.out.items ++ more_items l.is_set (take l.item-index l.items)
