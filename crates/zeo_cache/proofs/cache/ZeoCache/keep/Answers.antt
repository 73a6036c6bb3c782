use Rattle.std.proofs.Common.{nat_eq}
use Rattle.std.specs.Cmp.{nat_eq_equiv}
use Rattle.lru.proofs.CallerLemmas.{lookup-put_entries}
use Rattle.zeo_cache.specs.Intervals.{kept_end}
use Rattle.zeo_cache.specs.declared.interval.Interval.{Interval}
use Rattle.object_cache.specs.EntryLaws.{put_other}
use Rattle.zeo_cache.proofs.cache.ZeoCache.keep.Goals as goal

pub returns-in-Ok-clause-ok : goal.returns-in-Ok-clause-ok
returns-in-Ok-clause-ok c =
    let kept : Interval = record { serial = c.args.serial; bytes = c.args.bytes; end = kept_end c.args.end c.args.upto c.args.known } in
    rw (c.in-Ok.ensures.entries, c.end_of_kept-end.ensures, ← c.self.view_is) (record {
      one = lookup-put_entries nat_eq c.self.inside.entries c.args.oid kept nat_eq_equiv;
      others = λ o ne. put_other c.self.inside.entries c.args.oid kept o ne;
    })
