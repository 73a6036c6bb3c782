use Rattle.std.proofs.Common.{take}
use Rattle.std.specs.List.{AllByRecursion}
use Rattle.zeo_messages.specs.Answers.{HoldsLine}
use Rattle.hub_carrier.proofs.holding.hold_lines.Given as goal

abbrev pub invariant-loop-line : goal.invariant-loop-line
invariant-loop-line l = AllByRecursion HoldsLine (take l.line-index l.list)
