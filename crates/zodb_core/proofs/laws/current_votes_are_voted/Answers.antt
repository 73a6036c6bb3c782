use Rattle.zodb_core.proofs.Current.{current_votes}
use Rattle.zodb_core.proofs.laws.current_votes_are_voted.Goals as goal

pub returns : goal.returns
returns c = current_votes
