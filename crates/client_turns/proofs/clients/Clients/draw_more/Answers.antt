-- One more number is drawn.
use Rattle.std.proofs.Common.{None, inr, refl, subst, sym}
use Rattle.zodb_core.specs.Outcomes.{NoMemory}
use Rattle.client_turns.specs.Gathering.{AdvancesTo}
use Rattle.client_turns.specs.Standing.{MayReadFor}
use Rattle.client_turns.proofs.Advancing.{draws_on, may_now, undrawn, undrawn_on}
use Rattle.client_turns.proofs.Telling.{calm_linked}
use Rattle.client_turns.proofs.clients.Clients.draw_more.Goals as goal

pub returns-in-Err-clause-advances : goal.returns-in-Err-clause-advances
returns-in-Err-clause-advances g c = λ root op known told m gathers needs.
    undrawn m c.args.at root op c.args.self.now _ known c.args.numbers.now.items gathers c.in-Err.why _ _ needs (c.in-Err.ensures.draw told gathers.now gathers.stands (may_now m c.args.at root op c.args.self.now _ known c.args.numbers.now.items gathers))

pub returns-in-Ok-push-clause-advances : goal.returns-in-Ok-push-clause-advances
returns-in-Ok-push-clause-advances g c = λ root op known told m gathers needs.
    subst (λ ns. AdvancesTo m c.args.at root op c.draw.new.self (g.C.Clock.stamps c.draw.new.clock) known ns None) (sym c.in-Ok-push.ensures.items)
    (draws_on m c.args.at root op c.args.self.now _ known c.args.numbers.now.items gathers c.in-Ok.oid _ _ needs (c.in-Ok.ensures.draw told gathers.now gathers.stands (may_now m c.args.at root op c.args.self.now _ known c.args.numbers.now.items gathers)))

pub returns-in-Err-push-clause-advances : goal.returns-in-Err-push-clause-advances
returns-in-Err-push-clause-advances g c = λ root op known told m gathers needs.
    undrawn_on m c.args.at root op c.args.self.now _ known c.args.numbers.now.items gathers c.in-Ok.oid _ _ needs (c.in-Ok.ensures.draw told gathers.now gathers.stands (may_now m c.args.at root op c.args.self.now _ known c.args.numbers.now.items gathers))

pub returns-in-Err-push-clause-hub : goal.returns-in-Err-push-clause-hub
returns-in-Err-push-clause-hub g c = calm_linked (g.St.Store.told × MayReadFor c.args.self.now (g.C.Clock.stamps c.args.clock.now) c.args.at) g.St.Store.lasts g.St.Store.stands NoMemory (inr refl) c.args.self.now.hub c.draw.new.self.hub c.in-Ok.ensures.hub
