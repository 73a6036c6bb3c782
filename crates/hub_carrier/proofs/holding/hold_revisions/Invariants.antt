use Rattle.std.proofs.Common.{take}
use Rattle.std.specs.List.{AllByRecursion}
use Rattle.zeo_messages.specs.Answers.{HoldsRevision}
use Rattle.hub_carrier.proofs.holding.hold_revisions.Given as goal

abbrev pub invariant-loop-revision : goal.invariant-loop-revision
invariant-loop-revision l = AllByRecursion HoldsRevision (take l.revision-index l.list)
