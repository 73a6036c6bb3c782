use Rattle.remote_loads.proofs.Meeting.{caused, undo_makes, undo_voted}
use Rattle.remote_loads.proofs.calls.RemoteLoads.undo.Goals as goal

pub returns-clause-voted : goal.returns-clause-voted
returns-clause-voted g c = undo_voted g.W.Carrier.told _ g.W.Carrier.machine _ _ c.undo_on.ensures.way.keeps.session _ _ _ _ _ _ _ _ _ _ c.undo_on.ensures.exact

pub returns-clause-makes : goal.returns-clause-makes
returns-clause-makes g c = (caused {X = Unit {0}} (g.W.Carrier.faults c.args.self.now.carrier) (g.W.Carrier.faults c.undo_on.new.self.carrier) (g.W.Carrier.closed c.undo_on.new.self.carrier) c.undo_on.new.self.client.now.ended c.undo_on.result c.undo_on.ensures.way.refused, c.undo_on.ensures.way.known, c.undo_on.ensures.way.keeps.later, undo_makes g.W.Carrier.told _ g.W.Carrier.machine _ _ c.undo_on.ensures.way.keeps.session _ _ _ _ _ _ _ _ _ _ c.undo_on.ensures.exact)
