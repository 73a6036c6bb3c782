use Rattle.std.proofs.Common.{◌≡◌, ◌++◌, drop}
use Rattle.std.specs.List.{filter_map}
use Rattle.zodb_core.specs.Telling.{commit_at}
use Rattle.zodb_core.proofs.session_journal.commits_at.Given as goal

abbrev pub invariant-loop-i : goal.invariant-loop-i
invariant-loop-i l = l.commits ++ filter_map (commit_at l.entries) (drop l.i l.places.numbers) ≡ filter_map (commit_at l.entries) l.places.numbers
