use Rattle.std.proofs.Common.{◌≡◌, ◌++◌}
use Rattle.std.specs.Char.Escape.{escape_unicode}
use Rattle.std.specs.Char.Iter.{escape_rest}
use Rattle.zb_literals.proofs.Digits.{AreSmall}
use Rattle.zb_literals.proofs.texts.push_escape.Given as goal

abbrev pub invariant-loop-digit : goal.invariant-loop-digit
invariant-loop-digit l = (l.out.items ++ escape_rest l.digit-iterator ≡ l.fn.out.items ++ escape_unicode l.fn.c) × AreSmall (escape_rest l.digit-iterator)
