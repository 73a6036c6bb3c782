use Rattle.std.proofs.Common.{◌≡◌, [], length}
use Rattle.literal_reading.specs.Reading.{name_bytes_at}
use Rattle.literal_reading.proofs.characters.name_of.Given as goal

abbrev pub invariant-pieces : goal.invariant-pieces
invariant-pieces l = name_bytes_at l.fn.stop l.text l.rest ≡ name_bytes_at l.fn.stop [] l.fn.bytes

abbrev pub decreases-pieces : goal.decreases-pieces
decreases-pieces l = length l.rest
