use Rattle.std.proofs.Common.{◌≡◌, map, take}
use Rattle.zb_answers.specs.Lists.{log_text}
use Rattle.zodb_top.proofs.asking.log_lines.Given as goal

abbrev pub invariant-loop-line : goal.invariant-loop-line
invariant-loop-line l = l.lines ≡ map log_text (take l.line-index l.list)
