use Rattle.std.proofs.Common.{◌≡◌, drop, max}
use Rattle.zb_model.specs.Queries.{pack_point}
use Rattle.mapping_store.proofs.walks.pack_point_of.Given as goal

abbrev pub invariant-loop-transaction : goal.invariant-loop-transaction
invariant-loop-transaction l = max l.greatest (pack_point (drop l.transaction-index l.list)) ≡ pack_point l.list
