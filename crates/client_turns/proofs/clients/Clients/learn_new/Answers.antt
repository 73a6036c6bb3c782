-- An object that may be known already.
use Rattle.std.proofs.Common.{inl, refl}
use Rattle.zodb_core.specs.Outcomes.{Answered}
use Rattle.client_turns.specs.Gathering.{MayLearn}
use Rattle.client_turns.proofs.Telling.{still_linked}
use Rattle.client_turns.proofs.clients.Clients.learn_new.Goals as goal

pub returns-then-is_some-clause-hub : goal.returns-then-is_some-clause-hub
returns-then-is_some-clause-hub g c = still_linked (g.St.Store.told × MayLearn c.args.self.now (g.C.Clock.stamps c.args.clock.now) c.args.at c.args.known.now c.args.oid) g.St.Store.lasts g.St.Store.stands Answered (inl refl) c.args.self.now.hub
