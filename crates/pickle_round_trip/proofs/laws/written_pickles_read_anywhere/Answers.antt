use Rattle.pickle_round_trip.proofs.Back.{read_anywhere}
use Rattle.pickle_round_trip.proofs.laws.written_pickles_read_anywhere.Goals as goal

pub returns : goal.returns
returns c = read_anywhere c.spelled_tokens_are_read.ensures.read
