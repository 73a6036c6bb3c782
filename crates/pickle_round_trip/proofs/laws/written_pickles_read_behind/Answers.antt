use Rattle.pickle_round_trip.proofs.Behind.{read_behind}
use Rattle.pickle_round_trip.proofs.laws.written_pickles_read_behind.Goals as goal

pub returns : goal.returns
returns c = read_behind c.spelled_tokens_are_read.ensures.read
