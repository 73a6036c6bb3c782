use Rattle.std.proofs.Common.{nat_eq}
use Rattle.std.specs.Cmp.{nat_eq_equiv}
use Rattle.lru.proofs.CallerLemmas.{lookup-put_entries}
use Rattle.object_cache.specs.declared.cache.CachedRevision.{CachedRevision}
use Rattle.object_cache.specs.EntryLaws.{put_other}
use Rattle.object_cache.proofs.cache.ObjectCache.keep.Goals as goal

pub returns-in-Ok-clause-ok : goal.returns-in-Ok-clause-ok
returns-in-Ok-clause-ok c =
    let cached : CachedRevision = record { serial = c.args.serial; bytes = c.args.bytes } in
    rw (c.in-Ok.ensures.entries, ← c.self.view_is) (record {
      one = lookup-put_entries nat_eq c.self.inside.entries c.args.oid cached nat_eq_equiv;
      others = λ o ne. put_other c.self.inside.entries c.args.oid cached o ne;
    })
