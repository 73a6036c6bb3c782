use Rattle.std.proofs.Common.{arith, rules}
use Rattle.connection_view.proofs.Answered.{held_read, same_cached}
use Rattle.connection_view.proofs.reading.read.Goals as goal

pub returns-in-Held-clause-cached : goal.returns-in-Held-clause-cached
returns-in-Held-clause-cached g c = λ u x stands later front cached.
    let low = later.front in
    let loaded = c.in-Ok-load.ensures.loaded x stands (omega (arith, low, front)) in
    c.keep.ensures.cached u (held_read u x.told c.args.oid c.args.sight.now.front c.in-Held.serial c.in-Held.bytes later front (search (loaded, rules)))
    (same_cached u c.args.cache.now.objects c.find.new.self.objects c.find.ensures.same cached)
