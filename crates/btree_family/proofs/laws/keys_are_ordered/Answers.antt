-- The laws of the order.
use Rattle.btree_family.specs.KeyLaws.{key_cmp-total, key_cmp-same}
use Rattle.btree_family.proofs.laws.keys_are_ordered.Goals as goal

pub returns-clause-total : goal.returns-clause-total
returns-clause-total c = key_cmp-total

pub returns-clause-same : goal.returns-clause-same
returns-clause-same c = key_cmp-same
