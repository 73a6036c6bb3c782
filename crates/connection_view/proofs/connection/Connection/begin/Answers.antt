use Rattle.std.proofs.Common.{◌≡◌, refl, rules, true}
use Rattle.connection_view.proofs.Told.{begun_in, begun_work, view_of_told}
use Rattle.connection_view.proofs.connection.Connection.begin.Goals as goal

pub returns-clause-begun : goal.returns-clause-begun
returns-clause-begun g c =
    let is_open : c.args.self.now.is_open ≡ true = search rules in
    begun_work c.args.self.now.is_open _ c.in-Ok.told.front is_open
    (record { front_is = refl; stores = c.new.ensures.stores; checks = c.new.ensures.checks; savepoints = c.new.ensures.savepoints; unvoted = refl })

pub returns-clause-view : goal.returns-clause-view
returns-clause-view g c = λ x s between.
    let k = c.args.self.now in
    let w = g.L.Loads.fresh c.args.loads.now x in
    begun_in w x c.in-Ok.told c.none-2.result c.none.result c.forget.new.cache.objects (c.in-Ok.ensures.front x s) between.unvoted
    (view_of_told x w c.in-Ok.told k.stale c.add_news.new.self k.cache.objects c.forget.new.cache.objects (c.in-Ok.ensures.front x s) c.add_news.ensures c.forget.ensures between.cached)
