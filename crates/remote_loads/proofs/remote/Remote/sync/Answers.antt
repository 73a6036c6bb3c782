use Rattle.remote_loads.proofs.SyncCalls.{sync_as}
use Rattle.remote_loads.proofs.remote.Remote.sync.Goals as goal

pub returns-in-Ok-clause-exact : goal.returns-in-Ok-clause-exact
returns-in-Ok-clause-exact g c = λ told client stands.
    let n = g.W.Carrier.session c.args.self.now.carrier in
    sync_as (g.W.Carrier.steps n) g.W.Carrier.machine n _ _ client _ _ _ _ (c.in-Ok.ensures.exact told client stands)
