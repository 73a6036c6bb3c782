use Rattle.pickle_round_trip.proofs.Back.{read_back}
use Rattle.pickle_round_trip.proofs.laws.written_pickles_read_back.Goals as goal

pub returns : goal.returns
returns c = read_back c.spelled_tokens_are_read.ensures.read
