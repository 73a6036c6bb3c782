use Rattle.client_turns.proofs.Lawful.{fronts_stay_up}
use Rattle.client_turns.proofs.laws.fronts_never_fall.Goals as goal

pub returns : goal.returns
returns c = fronts_stay_up
