use Rattle.std.proofs.Common.{rules, length}
use Rattle.zeo_reading.specs.Loose.{behind_commit, commit_in, commits_at}
use Rattle.zeo_values.specs.ItemLaws.{items_step}
use Rattle.zeo_reading.proofs.list_reading.commits_at.Goals as goal

pub loop-i-preserved : goal.loop-i-preserved
loop-i-preserved c =
    items_step 0x43 commit_in behind_commit (length c.args.bytes.now) c.loop-i._i c.loop-i.rest.now c.behind_commit-rest.result.now c.loop-i.commits c.push.new.self (commits_at c.args.bytes.now)
    (search rules) (search rules) (search rules) (search rules) c.loop-i.invariant
