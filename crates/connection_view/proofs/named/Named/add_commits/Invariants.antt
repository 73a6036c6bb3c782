use Rattle.std.proofs.Common.{take}
use Rattle.connection_view.specs.Named.{CoversNamed}
use Rattle.connection_view.specs.Views.{are_changed}
use Rattle.connection_view.proofs.named.Named.add_commits.Given as goal

abbrev pub invariant-loop-commit : goal.invariant-loop-commit
invariant-loop-commit l = CoversNamed (are_changed (take l.commit-index l.commits)) l.fn.self l.self
