use Rattle.client_turns.proofs.Causing.{refusals_caused}
use Rattle.client_turns.proofs.laws.refusals_have_their_cause.Goals as goal

pub returns : goal.returns
returns c = refusals_caused
