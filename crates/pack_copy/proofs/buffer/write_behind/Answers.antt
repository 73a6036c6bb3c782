use Rattle.zb_volume.specs.declared.areas.Area.TheVariants.{Side}
use Rattle.zb_volume.specs.Calls.{WriteAt}
use Rattle.zb_volume.specs.Durable.{one_stays}
use Rattle.pack_copy.proofs.buffer.write_behind.Goals as goal

pub returns-in-Ok-clause-others : goal.returns-in-Ok-clause-others
returns-in-Ok-clause-others g c told other not = one_stays c.write_at.result _ _ (WriteAt Side c.args.end c.args.text.now) other not (c.write_at.ensures.done told) (c.write_at.ensures.failed told)

pub returns-in-Err-clause-others : goal.returns-in-Err-clause-others
returns-in-Err-clause-others g c told other not = one_stays c.write_at.result _ _ (WriteAt Side c.args.end c.args.text.now) other not (c.write_at.ensures.done told) (c.write_at.ensures.failed told)
