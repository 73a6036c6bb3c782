use Rattle.std.proofs.Common.{◌≡◌, ◌++◌, flat_map, take}
use Rattle.zb_literals.specs.Texts.{name_byte_text}
use Rattle.zb_literals.proofs.texts.push_name.Given as goal

abbrev pub invariant-loop-byte : goal.invariant-loop-byte
invariant-loop-byte l = l.out.items ≡ l.fn.out.items ++ flat_map name_byte_text (take l.byte-index l.bytes)
