use Rattle.object_cache.specs.EntryLaws.{removed_gone, removed_other}
use Rattle.object_cache.proofs.cache.ObjectCache.drop_one.Goals as goal

pub returns-clause-gone : goal.returns-clause-gone
returns-clause-gone c = rw (c.pop.ensures.entries, ← c.self.view_is) (record {
  one = removed_gone c.args.oid c.self.inside.entries.entries c.are_distinct.ensures;
  others = λ o ne. removed_other c.args.oid o c.self.inside.entries.entries ne;
})
