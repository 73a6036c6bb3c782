use Rattle.std.proofs.Common.{◌≡◌, ◌++◌, drop}
use Rattle.zb_literals.specs.Printing.{more_parts}
use Rattle.zb_literals.proofs.parts.with_items.Given as goal

abbrev pub invariant-loop-item : goal.invariant-loop-item
invariant-loop-item l = l.parts.items ++ more_parts (drop l.item-index l.items) ≡ l.fn.parts.items ++ more_parts l.items
