use Rattle.std.proofs.Common.{◌≡◌, drop}
use Rattle.btree_family.specs.Buckets.{keys_of}
use Rattle.btree_checking.specs.Rules.{are_within}
use Rattle.btree_checking.proofs.rules.items_within.Given as goal

abbrev pub invariant-loop-item : goal.invariant-loop-item
invariant-loop-item l = are_within l.fn.low l.fn.high (keys_of (drop l.item-index l.items)) ≡ are_within l.fn.low l.fn.high (keys_of l.items)
