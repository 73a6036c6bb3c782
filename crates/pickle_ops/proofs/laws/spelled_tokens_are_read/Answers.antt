-- Spelled means read, and cut short means cut.
use Rattle.pickle_ops.proofs.ReadAgain.{token_again}
use Rattle.pickle_ops.proofs.CutShort.{token_cut}
use Rattle.pickle_ops.proofs.laws.spelled_tokens_are_read.Goals as goal

pub returns-clause-read : goal.returns-clause-read
returns-clause-read c = λ at text rest op number held s. token_again at text rest op number held s

pub returns-clause-cut : goal.returns-clause-cut
returns-clause-cut c = λ at text op number held n s short. token_cut at text op number held n s short
