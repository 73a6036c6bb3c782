use Rattle.client_turns.proofs.Below.{reads_below}
use Rattle.client_turns.proofs.laws.reads_stay_below_the_front.Goals as goal

pub returns : goal.returns
returns c = reads_below
