use Rattle.connection_view.specs.declared.loads.Loaded.{Loaded}
use Rattle.remote_loads.proofs.Meeting.{caused, load_loaded, load_makes, load_same}
use Rattle.remote_loads.proofs.calls.RemoteLoads.load.Goals as goal

pub returns-clause-loaded : goal.returns-clause-loaded
returns-clause-loaded g c = load_loaded g.W.Carrier.told _ g.W.Carrier.machine _ _ c.load_at.ensures.way.keeps.session _ _ _ _ _ _ c.args.oid c.args.front _ c.load_at.ensures.exact

pub returns-clause-same : goal.returns-clause-same
returns-clause-same g c = load_same g.W.Carrier.told _ g.W.Carrier.machine _ _ c.load_at.ensures.way.keeps.session _ _ _ _ _ _ c.args.oid c.args.front _ c.load_at.ensures.exact

pub returns-clause-makes : goal.returns-clause-makes
returns-clause-makes g c = (caused {X = Loaded} (g.W.Carrier.faults c.args.self.now.carrier) (g.W.Carrier.faults c.load_at.new.self.carrier) (g.W.Carrier.closed c.load_at.new.self.carrier) c.load_at.new.self.client.now.ended c.load_at.result c.load_at.ensures.way.refused, c.load_at.ensures.way.known, c.load_at.ensures.way.keeps.later, load_makes g.W.Carrier.told _ g.W.Carrier.machine _ _ c.load_at.ensures.way.keeps.session _ _ _ _ _ _ c.args.oid c.args.front _ c.load_at.ensures.exact)
