-- By what each node of a copy stands for.
use Rattle.bucket_state.proofs.Holding.{same_held}
use Rattle.bucket_state.proofs.laws.same_graphs_hold_the_same.Goals as goal

pub returns : goal.returns
returns c = same_held
