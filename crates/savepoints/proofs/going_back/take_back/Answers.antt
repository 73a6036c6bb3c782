use Rattle.std.proofs.Common.{sym, ◌∙◌}
use Rattle.savepoints.proofs.Contents.{one_given_back}
use Rattle.savepoints.proofs.going_back.take_back.Goals as goal

pub returns-in_ok-insert-in-Some : goal.returns-in_ok-insert-in-Some
returns-in_ok-insert-in-Some c =
    one_given_back c.args.pending.now.stores c.args.contents.now.entries c.insert.new.self.entries c.args.replaced.now c.in-Some.content (sym c.in-Some.is ∙ c.in_ok-content_before.ensures) c.in_ok-insert-in-Some.ensures.entries
