-- A check is told what it wants to read.
use Rattle.std.proofs.Common.{sym, ap, ◌∙◌}
use Rattle.zodb_top.specs.Asked.{last_contents}
use Rattle.zodb_top.proofs.checking.feed.Goals as goal

pub returns-clause-progress : goal.returns-clause-progress
returns-clause-progress g c = λ told m stands at root is.
    c.in_ok-told.ensures.progress (last_contents m.list) root is (ap (last_contents m.list) (sym c.wanted.ensures) ∙ sym (c.in_ok-content.ensures.content told m stands at))
