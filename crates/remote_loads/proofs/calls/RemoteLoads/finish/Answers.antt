use Rattle.std.proofs.Common.{ℕ, Option}
use Rattle.remote_loads.proofs.Meeting.{caused, finish_makes, finish_same, finish_says}
use Rattle.remote_loads.proofs.calls.RemoteLoads.finish.Goals as goal

pub returns-clause-committed : goal.returns-clause-committed
returns-clause-committed g c = finish_says g.W.Carrier.told _ g.W.Carrier.machine _ _ c.finish_vote.ensures.way.keeps.session _ _ _ _ _ _ _ c.finish_vote.ensures.exact

pub returns-clause-same : goal.returns-clause-same
returns-clause-same g c = finish_same g.W.Carrier.told _ g.W.Carrier.machine _ _ c.finish_vote.ensures.way.keeps.session _ _ _ _ _ _ _ c.finish_vote.ensures.exact

pub returns-clause-makes : goal.returns-clause-makes
returns-clause-makes g c = (caused {X = Option ℕ} (g.W.Carrier.faults c.args.self.now.carrier) (g.W.Carrier.faults c.finish_vote.new.self.carrier) (g.W.Carrier.closed c.finish_vote.new.self.carrier) c.finish_vote.new.self.client.now.ended c.finish_vote.result c.finish_vote.ensures.way.refused, c.finish_vote.ensures.way.known, c.finish_vote.ensures.way.keeps.later, finish_makes g.W.Carrier.told _ g.W.Carrier.machine _ _ c.finish_vote.ensures.way.keeps.session _ _ _ _ _ _ _ c.finish_vote.ensures.exact)
