use Rattle.std.proofs.Common.{take}
use Rattle.std.specs.List.{AllByRecursion}
use Rattle.hub_carrier.specs.Telling.{IsShortCommit}
use Rattle.hub_carrier.proofs.holding.are_short.Given as goal

abbrev pub invariant-loop-commit : goal.invariant-loop-commit
invariant-loop-commit l = AllByRecursion IsShortCommit (take l.commit-index l.commits)
