use Rattle.std.proofs.Common.{◌≡◌, map, take}
use Rattle.zb_answers.specs.Lists.{revision_text}
use Rattle.zodb_top.proofs.asking.revision_lines.Given as goal

abbrev pub invariant-loop-line : goal.invariant-loop-line
invariant-loop-line l = l.lines ≡ map revision_text (take l.line-index l.list)
