use Rattle.std.proofs.Common.{◌≡◌, ◌++◌, drop}
use Rattle.std.specs.Prelude.{filter}
use Rattle.std.specs.List.{filter_map}
use Rattle.zodb_core.specs.Machine.{commit_in, is_news_for}
use Rattle.zodb_core.proofs.news.gather_commits.Given as goal

abbrev pub invariant-loop-entry : goal.invariant-loop-entry
invariant-loop-entry l = l.commits ++ filter_map commit_in (filter (is_news_for l.fn.session) (drop l.entry-index l.entries)) ≡ filter_map commit_in (filter (is_news_for l.fn.session) l.entries)
