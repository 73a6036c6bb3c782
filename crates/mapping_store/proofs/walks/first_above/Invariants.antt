use Rattle.std.proofs.Common.{◌≡◌, drop}
use Rattle.zb_model.specs.Queries.{first_after}
use Rattle.mapping_store.proofs.walks.first_above.Given as goal

abbrev pub invariant-loop-transaction : goal.invariant-loop-transaction
invariant-loop-transaction l = first_after l.fn.tid (drop l.transaction-index l.list) ≡ first_after l.fn.tid l.list
