use Rattle.remote_loads.proofs.RegisterCalls.{register_as}
use Rattle.remote_loads.proofs.remote.Remote.register.Goals as goal

pub returns-in-Ok-clause-exact : goal.returns-in-Ok-clause-exact
returns-in-Ok-clause-exact g c = λ told newcomer.
    let n = g.W.Carrier.session c.args.self.now.carrier in
    register_as (g.W.Carrier.steps n) g.W.Carrier.machine n _ _ _ _ _ _ (c.in-Ok.ensures.exact told newcomer)
