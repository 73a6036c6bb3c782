use Rattle.std.proofs.Common.{rules}
use Rattle.zodb_core.proofs.Switching.{all_uncollected}
use Rattle.zodb_core.proofs.packing.mark_all.Goals as goal

pub returns-then-not-collect-clause-marked : goal.returns-then-not-collect-clause-marked
returns-then-not-collect-clause-marked g c = λ told.
    all_uncollected c.without_collection.result c.args.collect (g.F.Refs.named c.args.refs.now) c.args.tid (g.St.Store.state c.args.store.now).list (search rules) (c.without_collection.ensures.all told)
