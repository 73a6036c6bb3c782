use Rattle.std.proofs.Common.{rules, length}
use Rattle.zeo_reading.specs.Loose.{behind_line, line_in, lines_at}
use Rattle.zeo_values.specs.ItemLaws.{items_step}
use Rattle.zeo_reading.proofs.list_reading.lines_at.Goals as goal

pub loop-i-preserved : goal.loop-i-preserved
loop-i-preserved c =
    items_step 0x43 line_in behind_line (length c.args.bytes.now) c.loop-i._i c.loop-i.rest.now c.behind_line-rest.result.now c.loop-i.lines c.push.new.self (lines_at c.args.bytes.now)
    (search rules) (search rules) (search rules) (search rules) c.loop-i.invariant
