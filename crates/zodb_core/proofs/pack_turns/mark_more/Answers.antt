use Rattle.std.proofs.Common.{rules}
use Rattle.zodb_core.proofs.Marks.{marks_uncollected}
use Rattle.zodb_core.proofs.pack_turns.mark_more.Goals as goal

pub returns-then-not-collects-clause-marked : goal.returns-then-not-collects-clause-marked
returns-then-not-collects-clause-marked g c = λ told.
    marks_uncollected c.args.collects (g.F.Refs.named c.args.refs.now) c.args.tid (g.St.Store.state c.args.store.now).list c.args.marker.counted c.in_ok-marker.marker c.len-count.result
    (search rules) (c.in_ok-marker.ensures.all told) (search rules)
