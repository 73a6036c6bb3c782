use Rattle.std.proofs.Common.{rules, length}
use Rattle.zeo_reading.specs.Loose.{behind_revision, revision_in, revisions_at}
use Rattle.zeo_values.specs.ItemLaws.{items_step}
use Rattle.zeo_reading.proofs.list_reading.revisions_at.Goals as goal

pub loop-i-preserved : goal.loop-i-preserved
loop-i-preserved c =
    items_step 0x28 revision_in behind_revision (length c.args.bytes.now) c.loop-i._i c.loop-i.rest.now c.behind_revision-rest.result.now c.loop-i.revisions c.push.new.self (revisions_at c.args.bytes.now)
    (search rules) (search rules) (search rules) (search rules) c.loop-i.invariant
