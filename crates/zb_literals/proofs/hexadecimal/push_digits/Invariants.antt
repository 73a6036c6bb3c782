use Rattle.std.proofs.Common.{◌≡◌, ◌++◌, length}
use Rattle.zb_ids.specs.Hex.{hex_text}
use Rattle.zb_literals.proofs.hexadecimal.push_digits.Given as goal

-- what was put with the digits of what is left is what all comes to
abbrev pub invariant-loop-rest : goal.invariant-loop-rest
invariant-loop-rest l = l.out.items ++ hex_text l.rest ≡ l.fn.out.items ++ hex_text l.fn.bytes

abbrev pub decreases-loop-rest : goal.decreases-loop-rest
decreases-loop-rest l = length l.rest
