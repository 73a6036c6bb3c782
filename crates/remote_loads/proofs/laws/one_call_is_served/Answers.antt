use Rattle.remote_loads.proofs.OneCall.{one_call}
use Rattle.remote_loads.proofs.laws.one_call_is_served.Goals as goal

pub returns : goal.returns
returns g c = λ session. one_call (g.W.Carrier.steps session) c.payloads_are_read_back.ensures
