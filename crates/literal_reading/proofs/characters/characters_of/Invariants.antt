use Rattle.std.proofs.Common.{◌≡◌, [], length}
use Rattle.literal_reading.specs.Reading.{characters_at}
use Rattle.literal_reading.proofs.characters.characters_of.Given as goal

abbrev pub invariant-pieces : goal.invariant-pieces
invariant-pieces l = characters_at l.text l.rest ≡ characters_at [] l.fn.bytes

abbrev pub decreases-pieces : goal.decreases-pieces
decreases-pieces l = length l.rest
