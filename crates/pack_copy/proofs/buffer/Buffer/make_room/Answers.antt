use Rattle.std.proofs.Common.{refl}
use Rattle.pack_copy.proofs.Stays.{others_same}
use Rattle.pack_copy.proofs.buffer.Buffer.make_room.Goals as goal

pub returns-then-self-lt-PIECE-clause-others : goal.returns-then-self-lt-PIECE-clause-others
returns-then-self-lt-PIECE-clause-others g c = λ told. others_same _ _ refl
