-- What the keys from here on give is what all give.
use Rattle.std.proofs.Common.{◌≡◌, drop, None}
use Rattle.std.specs.Option.{option_copied}
use Rattle.btree_family.specs.Buckets.{keys_of}
use Rattle.btree_putting.specs.Straight.{are_of_one_kind}
use Rattle.btree_putting.proofs.straight.are_of_one_kind.Given as goal

abbrev pub invariant-loop-item : goal.invariant-loop-item
invariant-loop-item l = are_of_one_kind (option_copied l.before) (keys_of (drop l.item-index l.items)) ≡ are_of_one_kind None (keys_of l.items)
