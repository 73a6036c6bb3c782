-- What a transaction has of an object.
use Rattle.client_turns.specs.Standing.{MayReadFor}
use Rattle.client_turns.proofs.Gathering.{seen_reads, sees_got}
use Rattle.client_turns.proofs.clients.Clients.see.Goals as goal

pub returns-clause-sight : goal.returns-clause-sight
returns-clause-sight g c = λ told m stands may.
    sees_got m c.args.at c.args.oid c.get.result _ c.get.new.self _ may c.seen_read.ensures (c.get.ensures.read told m stands may)

pub returns-clause-hub : goal.returns-clause-hub
returns-clause-hub g c =
    seen_reads (g.St.Store.told × MayReadFor c.args.self.now (g.C.Clock.stamps c.args.clock.now) c.args.at) g.St.Store.lasts g.St.Store.stands c.get.result _ c.args.self.now.hub c.get.new.self.hub c.seen_read.ensures c.get.ensures.hub
