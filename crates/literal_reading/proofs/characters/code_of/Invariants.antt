use Rattle.std.proofs.Common.{◌≡◌, drop}
use Rattle.literal_reading.specs.Reading.{code_at}
use Rattle.literal_reading.proofs.characters.code_of.Given as goal

abbrev pub invariant-loop-byte : goal.invariant-loop-byte
invariant-loop-byte l = code_at l.code (drop l.byte-index l.bytes) ≡ code_at 0 l.bytes
