use Rattle.remote_loads.proofs.Made.{behind_refused, behind_told}
use Rattle.remote_loads.proofs.remote.Remote.told_behind.Goals as goal

pub returns-in-Ok-clause-told : goal.returns-in-Ok-clause-told
returns-in-Ok-clause-told g c = λ told. behind_told (g.W.Carrier.steps (g.W.Carrier.session c.args.self.now.carrier)) (g.W.Carrier.end c.args.self.now.carrier) (g.W.Carrier.desk c.args.self.now.carrier) c.args.self.now.client.now c.args.tid _ _ _ _ (c.in-Ok.ensures.told told)

pub returns-in-Err-clause-told : goal.returns-in-Err-clause-told
returns-in-Err-clause-told g c = λ told. behind_refused (g.W.Carrier.steps (g.W.Carrier.session c.args.self.now.carrier)) (g.W.Carrier.end c.args.self.now.carrier) (g.W.Carrier.desk c.args.self.now.carrier) c.args.self.now.client.now c.args.tid _ _ _ _ _ (c.in-Err.ensures.told told) c.behind_commit.ensures
