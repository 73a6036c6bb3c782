use Rattle.client_turns.proofs.FreeVotes.{free_served}
use Rattle.client_turns.proofs.clients.Clients.free_turns_are_served.Goals as goal

pub returns : goal.returns
returns g c = λ whole. free_served c.args.self.now whole
