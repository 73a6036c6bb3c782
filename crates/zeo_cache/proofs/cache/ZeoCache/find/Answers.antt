use Rattle.object_cache.specs.EntryLaws.{promoted_same}
use Rattle.zeo_cache.proofs.cache.ZeoCache.find.Goals as goal

pub returns-clause-same : goal.returns-clause-same
returns-clause-same c = rw (c.promote.ensures.entries, ← c.self.view_is) (record { each = λ o. promoted_same c.args.oid o c.self.inside.entries.entries })
