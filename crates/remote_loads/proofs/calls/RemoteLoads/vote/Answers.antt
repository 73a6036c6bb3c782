use Rattle.remote_loads.proofs.Meeting.{caused, vote_makes, vote_voted}
use Rattle.remote_loads.proofs.calls.RemoteLoads.vote.Goals as goal

pub returns-clause-voted : goal.returns-clause-voted
returns-clause-voted g c = vote_voted g.W.Carrier.told _ g.W.Carrier.machine _ _ c.vote_on.ensures.way.keeps.session _ _ _ _ _ _ _ _ _ _ _ c.vote_on.ensures.exact

pub returns-clause-makes : goal.returns-clause-makes
returns-clause-makes g c = (caused {X = Unit {0}} (g.W.Carrier.faults c.args.self.now.carrier) (g.W.Carrier.faults c.vote_on.new.self.carrier) (g.W.Carrier.closed c.vote_on.new.self.carrier) c.vote_on.new.self.client.now.ended c.vote_on.result c.vote_on.ensures.way.refused, c.vote_on.ensures.way.known, c.vote_on.ensures.way.keeps.later, vote_makes g.W.Carrier.told _ g.W.Carrier.machine _ _ c.vote_on.ensures.way.keeps.session _ _ _ _ _ _ _ _ _ _ _ c.vote_on.ensures.exact)
