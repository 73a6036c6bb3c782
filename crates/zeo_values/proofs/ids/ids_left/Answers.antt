use Rattle.std.proofs.Common.{rules, length}
use Rattle.zeo_values.specs.Leaves.{behind, ids_left}
use Rattle.zeo_values.specs.ItemLaws.{left_step}
use Rattle.zeo_values.proofs.ids.ids_left.Goals as goal

pub loop-i-preserved : goal.loop-i-preserved
loop-i-preserved c =
    left_step 0x43 (behind 10) (length c.args.bytes.now) c.loop-i._i c.loop-i.rest.now c.behind-rest.result.now (ids_left c.args.bytes.now)
    (search rules) (search rules) (search rules) c.loop-i.invariant
