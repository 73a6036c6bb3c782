use Rattle.std.proofs.Common.{◌≡◌, max, sym, ◌∙◌}
use Rattle.zb_model.specs.Queries.{greatest_of, oids_of}
use Rattle.mapping_store.proofs.Greatest.{greatest_step}
use Rattle.mapping_store.proofs.walks.greatest_oid_of.Goals as goal

pub loop-transaction-preserved : goal.loop-transaction-preserved
loop-transaction-preserved c =
    let next : c.greatest_with-greatest.result ≡ max c.loop-transaction.greatest (greatest_of (oids_of c.transaction-item.result)) = rw (sym c.as_slice.ensures) c.greatest_with-greatest.ensures in
    sym (greatest_step c.loop-transaction.greatest c.greatest_with-greatest.result c.loop-transaction.transaction-index c.args.list.now c.transaction-item.result c.loop-transaction-test.true c.transaction-item.is next) ∙ c.loop-transaction.invariant
