use Rattle.std.proofs.Common.{◌≡◌, drop}
use Rattle.std.specs.List.{list_any}
use Rattle.zodb_core.specs.Machine.{is_news_for}
use Rattle.zodb_core.proofs.news.has_news.Given as goal

abbrev pub invariant-loop-entry : goal.invariant-loop-entry
invariant-loop-entry l = list_any (is_news_for l.fn.session) (drop l.entry-index l.entries) ≡ list_any (is_news_for l.fn.session) l.entries
