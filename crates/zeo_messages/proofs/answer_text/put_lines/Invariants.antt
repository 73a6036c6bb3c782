use Rattle.std.proofs.Common.{◌≡◌, ◌++◌}
use Rattle.zeo_messages.specs.Answers.{line_text}
use Rattle.zeo_values.specs.Values.{list_of}
use Rattle.zeo_values.specs.WrittenLaws.{list_rest}
use Rattle.zeo_messages.proofs.answer_text.put_lines.Given as goal

abbrev pub invariant-loop-line : goal.invariant-loop-line
invariant-loop-line l = l.text.items ++ list_rest line_text l.line-index l.lines ≡ l.fn.text.items ++ list_of line_text l.lines
