use Rattle.savepoints.proofs.Undoing.{all_back}
use Rattle.savepoints.proofs.noting.put_all_noting.Goals as goal

pub returns-in-Err-clause-err : goal.returns-in-Err-clause-err
returns-in-Err-clause-err c =
    all_back c.args.pending.now c.put_each.new.pending c.go_back.new.self c.new-contents.result.items c.put_each.new.contents.items c.extent-extent.result c.new-contents.ensures.items c.put_each.ensures.contents c.put_each.ensures.checks
    c.extent-extent.ensures.stores c.extent-extent.ensures.checks c.go_back.ensures.stores c.go_back.ensures.checks
