use Rattle.std.proofs.Common.{◌≡◌, drop}
use Rattle.btree_family.specs.Buckets.{keys_of}
use Rattle.btree_family.specs.Keys.{rank_of}
use Rattle.btree_checking.specs.Rules.{are_of_kind}
use Rattle.btree_checking.proofs.rules.items_of_kind.Given as goal

abbrev pub invariant-loop-item : goal.invariant-loop-item
invariant-loop-item l = are_of_kind (rank_of l.fn.kind) (keys_of (drop l.item-index l.items)) ≡ are_of_kind (rank_of l.fn.kind) (keys_of l.items)
