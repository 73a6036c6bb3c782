use Rattle.std.proofs.Common.{ℕ}
use Rattle.remote_loads.proofs.Meeting.{caused, oid_makes, oid_same}
use Rattle.remote_loads.proofs.calls.RemoteLoads.new_oid.Goals as goal

pub returns-clause-same : goal.returns-clause-same
returns-clause-same g c = oid_same g.W.Carrier.told _ g.W.Carrier.machine _ _ c.next_oid.ensures.way.keeps.session _ _ _ _ _ _ _ c.next_oid.ensures.exact

pub returns-clause-makes : goal.returns-clause-makes
returns-clause-makes g c = (caused {X = ℕ} (g.W.Carrier.faults c.args.self.now.carrier) (g.W.Carrier.faults c.next_oid.new.self.carrier) (g.W.Carrier.closed c.next_oid.new.self.carrier) c.next_oid.new.self.client.now.ended c.next_oid.result c.next_oid.ensures.way.refused, c.next_oid.ensures.way.known, c.next_oid.ensures.way.keeps.later, oid_makes g.W.Carrier.told _ g.W.Carrier.machine _ _ c.next_oid.ensures.way.keeps.session _ _ _ _ _ _ _ c.next_oid.ensures.exact)
