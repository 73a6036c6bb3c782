use Rattle.std.proofs.Common.{◌≡◌, ◌++◌, drop}
use Rattle.btree_removing.proofs.sides.copy_oids.Given as goal

abbrev pub invariant-loop-oid : goal.invariant-loop-oid
invariant-loop-oid l = l.copy.items ++ drop l.oid-index l.oids ≡ l.oids
