use Rattle.std.proofs.Common.{◌≡◌, ◌++◌, drop}
use Rattle.zb_literals.specs.Printing.{bytes_parts}
use Rattle.zb_literals.proofs.parts.with_bytes.Given as goal

abbrev pub invariant-loop-byte : goal.invariant-loop-byte
invariant-loop-byte l = l.parts.items ++ bytes_parts (drop l.byte-index l.bytes) ≡ l.fn.parts.items ++ bytes_parts l.bytes
