use Rattle.std.proofs.Common.{◌≡◌, ◌+◌, drop}
use Rattle.zb_model.specs.Queries.{changes_up_to}
use Rattle.mapping_store.proofs.walks.count_to.Given as goal

abbrev pub invariant-loop-transaction : goal.invariant-loop-transaction
invariant-loop-transaction l = l.count + changes_up_to l.fn.tid (drop l.transaction-index l.list) ≡ changes_up_to l.fn.tid l.list
