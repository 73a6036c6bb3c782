use Rattle.std.proofs.Common.{◌≡◌, ◌*◌, take}
use Rattle.zb_ids.specs.Hex.{hex_text}
use Rattle.zb_literals.proofs.hexadecimal.digits_of.Given as goal

abbrev pub invariant-loop-i : goal.invariant-loop-i
invariant-loop-i l = take (2 * l.i) l.digits ≡ hex_text (take l.i l.bytes)
