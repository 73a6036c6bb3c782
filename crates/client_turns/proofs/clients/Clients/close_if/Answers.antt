-- Nothing is closed behind a line that isn't its client's last.
use Rattle.std.proofs.Common.{Bool, subst, sym}
use Rattle.zodb_core.specs.HubState.{rules_of}
use Rattle.client_turns.specs.Standing.{ClosesIf, LeadsTo}
use Rattle.client_turns.proofs.Framing.{none_closed}
use Rattle.client_turns.proofs.clients.Clients.close_if.Goals as goal

pub returns-then-not-is_last-clause-hub : goal.returns-then-not-is_last-clause-hub
returns-then-not-is_last-clause-hub g c =
    none_closed g.St.Store.told g.St.Store.lasts g.St.Store.stands (rules_of g.R.Resolver.rules g.F.Refs.named c.args.self.now.hub) c.args.self.now.hub

pub returns-clause-closing : goal.returns-clause-closing
returns-clause-closing g c = λ told m stands.
    subst (λ (b : Bool). LeadsTo (ClosesIf (rules_of g.R.Resolver.rules g.F.Refs.named c.args.self.now.hub) m c.args.name.now b c.close.result) c.close.new.self (g.C.Clock.stamps c.close.new.clock)) (sym c.if-not-is_last.false) (c.close.ensures.closing told m stands)
