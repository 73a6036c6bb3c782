use Rattle.std.proofs.Common.{Option, sym, ap}
use Rattle.std.specs.Option.{option_map_or}
use Rattle.zb_model.specs.declared.data.Transaction.{Transaction}
use Rattle.zb_base.specs.Lists.{last_or_at}
use Rattle.zb_model.proofs.plain.newest_of.Goals as goal

pub returns-in-Some : goal.returns-in-Some
returns-in-Some c = sym (ap (λ (o : Option Transaction). option_map_or (λ (t : Transaction). t.tid) o 0) (last_or_at c.args.list.now c.in-Some.transaction.now (sym c.in-Some.ensures.value)))
