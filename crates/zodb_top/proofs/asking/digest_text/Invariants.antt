use Rattle.std.proofs.Common.{◌≡◌, ◌++◌, ◌∷◌, take}
use Rattle.zb_ids.specs.Hex.{hex_number, hex_text}
use Rattle.zodb_top.proofs.asking.digest_text.Given as goal

abbrev pub invariant-loop-byte : goal.invariant-loop-byte
invariant-loop-byte l = l.text.items ≡ hex_number l.fn.serial ++ 32 ∷ hex_text (take l.byte-index l.byte-items)
