use Rattle.pickle_writing.proofs.Walks.{cyclic-deep}
use Rattle.pickle_writing.proofs.laws.cyclic_graphs_are_too_deep.Goals as goal

pub returns : goal.returns
returns c = cyclic-deep
