use Rattle.std.proofs.Common.{◌≡◌, drop}
use Rattle.zb_model.specs.Queries.{transaction_at}
use Rattle.mapping_store.proofs.walks.transaction_with.Given as goal

abbrev pub invariant-loop-transaction : goal.invariant-loop-transaction
invariant-loop-transaction l = transaction_at l.fn.tid (drop l.transaction-index l.list) ≡ transaction_at l.fn.tid l.list
