use Rattle.remote_loads.proofs.Exchanging.{waits_for}
use Rattle.remote_loads.proofs.remote.Remote.talk.Goals as goal

pub returns-clause-told : goal.returns-clause-told
returns-clause-told g c = λ told. waits_for (g.W.Carrier.steps (g.W.Carrier.session c.args.self.now.carrier)) (g.W.Carrier.end c.args.self.now.carrier) (g.W.Carrier.desk c.args.self.now.carrier) c.args.self.now.client.now c.args.text _ c.in-Ok.messages c.wait.result _ _ _ _ _ _ c.as_slice.ensures.value (c.in-Ok.ensures.told told) c.in-None.ensures
