use Rattle.std.proofs.Common.{rules, ◌≡◌, ℕ, List, Result, Ok, Err, IfOk, ap, drop, filter, sym, ◌∙◌, subst}
use Rattle.zb_model.specs.declared.news.News.{News}
use Rattle.zodb_core.specs.Machine.{is_news_for, news_of, told_of}
use Rattle.zodb_core.proofs.Telling.{if_ok, news_told, read_there, told_there}
use Rattle.zodb_core.proofs.session_journal.SessionJournal.news.Goals as goal

pub returns : goal.returns
returns c =
    let kept = c.self.inside.kept.items in
    let at = c.index-session.result.now in
    let there = read_there kept c.args.number at (search rules) c.index-session.ensures in
    let keeps = c.self.invariant.each c.args.number at there.0 there.1 in
    if_ok c.news_at.result c.news_at.ensures
    (λ (news : News) is.
    news_told c.args.number c.self.inside.switched c.self.inside.items.items at news keeps c.self.invariant.last (search (is, rules))
    ∙ search (told_there kept c.args.number at there.0, rules))
