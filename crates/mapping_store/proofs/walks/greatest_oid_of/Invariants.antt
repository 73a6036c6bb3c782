use Rattle.std.proofs.Common.{◌≡◌, drop, max}
use Rattle.zb_model.specs.Queries.{greatest_oid}
use Rattle.mapping_store.proofs.walks.greatest_oid_of.Given as goal

abbrev pub invariant-loop-transaction : goal.invariant-loop-transaction
invariant-loop-transaction l = max l.greatest (greatest_oid (drop l.transaction-index l.list)) ≡ greatest_oid l.list
