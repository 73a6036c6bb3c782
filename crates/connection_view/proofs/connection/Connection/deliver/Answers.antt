use Rattle.connection_view.proofs.Told.{delivered_in}
use Rattle.connection_view.proofs.connection.Connection.deliver.Goals as goal

pub returns-clause-view : goal.returns-clause-view
returns-clause-view g c = λ u x s i.
    let k = c.args.self.now in
    delivered_in k.work k.asked k.stale c.add_news.new.self k.cache.objects u (g.L.Loads.fresh c.args.loads.now x) x c.in-Ok.told (c.in-Ok.ensures.front x s) c.add_news.ensures i
