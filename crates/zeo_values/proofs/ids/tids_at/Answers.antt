use Rattle.std.proofs.Common.{rules, length}
use Rattle.zeo_values.specs.Leaves.{behind, id_in, ids_at}
use Rattle.zeo_values.specs.ItemLaws.{items_step}
use Rattle.zeo_values.proofs.ids.tids_at.Goals as goal

pub loop-i-preserved : goal.loop-i-preserved
loop-i-preserved c =
    items_step 0x43 id_in (behind 10) (length c.args.bytes.now) c.loop-i._i c.loop-i.rest.now c.behind-rest.result.now c.loop-i.tids c.push.new.self (ids_at c.args.bytes.now)
    (search rules) (search rules) (search rules) (search rules) c.loop-i.invariant
