use Rattle.std.proofs.Common.{◌≡◌, sym, ap, ◌∙◌, Some, Option, MutBor}
use Rattle.std.specs.Option.{option_copied_mut}
use Rattle.zeo_cache.specs.declared.interval.Interval.{Interval}
use Rattle.zeo_cache.specs.Intervals.{interval_of}
use Rattle.zeo_cache.proofs.Closing.{closes}
use Rattle.zeo_cache.proofs.cache.close_in.Goals as goal

pub returns-in-Some-clause-closed : goal.returns-in-Some-clause-closed
returns-in-Some-clause-closed c =
    let held : interval_of c.args.entries.now.entries c.args.oid ≡ Some c.in-Some.entry.now =
    sym c.peek_mut.ensures.value ∙ ap (λ (m : Option (MutBor Interval)). option_copied_mut m) c.in-Some.is in
    rw c.close.ensures (closes c.args.oid c.args.tid c.args.entries.now.entries c.in-Some.entry.now held)
