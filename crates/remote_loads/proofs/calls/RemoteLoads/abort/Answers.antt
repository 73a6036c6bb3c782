use Rattle.remote_loads.proofs.Meeting.{abort_makes, abort_same, abort_unvoted, caused}
use Rattle.remote_loads.proofs.calls.RemoteLoads.abort.Goals as goal

pub returns-clause-unvoted : goal.returns-clause-unvoted
returns-clause-unvoted g c = abort_unvoted g.W.Carrier.told _ g.W.Carrier.machine _ _ c.drop_vote.ensures.way.keeps.session _ _ _ _ _ _ _ c.drop_vote.ensures.exact

pub returns-clause-same : goal.returns-clause-same
returns-clause-same g c = abort_same g.W.Carrier.told _ g.W.Carrier.machine _ _ c.drop_vote.ensures.way.keeps.session _ _ _ _ _ _ _ c.drop_vote.ensures.exact

pub returns-clause-makes : goal.returns-clause-makes
returns-clause-makes g c = (caused {X = Unit {0}} (g.W.Carrier.faults c.args.self.now.carrier) (g.W.Carrier.faults c.drop_vote.new.self.carrier) (g.W.Carrier.closed c.drop_vote.new.self.carrier) c.drop_vote.new.self.client.now.ended c.drop_vote.result c.drop_vote.ensures.way.refused, c.drop_vote.ensures.way.known, c.drop_vote.ensures.way.keeps.later, abort_makes g.W.Carrier.told _ g.W.Carrier.machine _ _ c.drop_vote.ensures.way.keeps.session _ _ _ _ _ _ _ c.drop_vote.ensures.exact)
