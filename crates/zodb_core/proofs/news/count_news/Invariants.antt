use Rattle.std.proofs.Common.{◌≡◌, ◌+◌, ◌≤◌, drop, length}
use Rattle.std.specs.Prelude.{filter}
use Rattle.zodb_core.specs.Machine.{is_news_for}
use Rattle.zodb_core.proofs.news.count_news.Given as goal

abbrev pub invariant-loop-entry : goal.invariant-loop-entry
invariant-loop-entry l = record {
  count : l.count + length (filter (is_news_for l.fn.session) (drop l.entry-index l.entries)) ≡ length (filter (is_news_for l.fn.session) l.entries);
  few : l.count ≤ l.entry-index;
}
