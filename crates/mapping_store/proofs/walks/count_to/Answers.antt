use Rattle.std.proofs.Common.{◌≤◌, arith}
use Rattle.std.proofs.lemmas.Grind.{common_steps}
use Rattle.mapping_store.proofs.Counts.{counted_within}
use Rattle.mapping_store.proofs.walks.count_to.Goals as goal

pub overflow_add-count : goal.overflow_add-count
overflow_add-count c =
    let up_to : c.transaction-item.result.tid ≤ c.args.tid = grind (arith, common_steps) in
    let fits = counted_within c.args.tid c.loop-transaction.count c.loop-transaction.transaction-index c.args.list.now c.transaction-item.result c.loop-transaction-test.true c.transaction-item.is up_to c.loop-transaction.invariant in
    omega (arith, c.len.ensures, fits, c.requires)
