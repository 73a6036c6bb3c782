use Rattle.remote_loads.proofs.Meeting.{front_stands}
use Rattle.remote_loads.proofs.calls.RemoteLoads.front.Goals as goal

pub returns-clause-renewed : goal.returns-clause-renewed
returns-clause-renewed g c = λ client stands. front_stands g.W.Carrier.told (g.W.Carrier.machine (g.W.Carrier.end c.args.self.now.carrier)) (g.W.Carrier.session c.args.self.now.carrier) (g.W.Carrier.desk c.args.self.now.carrier) c.args.self.now.client.now _ c.renew-news.ensures.left client stands
