use Rattle.std.proofs.Common.{take}
use Rattle.std.specs.List.{AllByRecursion}
use Rattle.zeo_messages.specs.Answers.{HoldsCommit}
use Rattle.hub_carrier.proofs.holding.hold_commits.Given as goal

abbrev pub invariant-loop-commit : goal.invariant-loop-commit
invariant-loop-commit l = AllByRecursion HoldsCommit (take l.commit-index l.commits)
