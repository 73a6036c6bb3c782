use Rattle.std.proofs.Common.{rules, sym, ◌∙◌}
use Rattle.zodb_core.proofs.Telling.{one_commit}
use Rattle.zodb_core.proofs.session_journal.commits_at.Goals as goal

pub loop-i-preserved : goal.loop-i-preserved
loop-i-preserved c =
    one_commit c.loop-i.commits c.put_commit.new.commits _ c.args.entries.now c.args.places.now.numbers c.loop-i.i c.in-Some.place (search rules) (search rules) c.loop-i.invariant
