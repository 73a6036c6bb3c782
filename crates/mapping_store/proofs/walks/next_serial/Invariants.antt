use Rattle.std.proofs.Common.{◌≡◌, drop}
use Rattle.zb_model.specs.Queries.{end_of}
use Rattle.mapping_store.proofs.walks.next_serial.Given as goal

abbrev pub invariant-loop-transaction : goal.invariant-loop-transaction
invariant-loop-transaction l = end_of l.fn.oid l.fn.front (drop l.transaction-index l.list) ≡ end_of l.fn.oid l.fn.front l.list
