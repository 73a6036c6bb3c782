-- A copy is spelled as the graph.
use Rattle.bucket_state.proofs.Spelled.{same_spelled}
use Rattle.bucket_state.proofs.laws.same_graphs_are_spelled_alike.Goals as goal

pub returns : goal.returns
returns c = same_spelled
