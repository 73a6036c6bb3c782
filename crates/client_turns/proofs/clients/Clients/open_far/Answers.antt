-- A client opens its session over a link.
use Rattle.std.proofs.Common.{rules, ◌∙◌, true, None, length, arith, ap, refl, subst, sym, inr}
use Rattle.zodb_core.specs.HubState.{MayRefuseSession, StandsForMachine, rules_of}
use Rattle.zodb_core.specs.Outcomes.{NoMemory}
use Rattle.zb_script.specs.declared.line.Line.TheVariants as line
use Rattle.client_turns.specs.Lines.{outcome_of_answer}
use Rattle.client_turns.specs.Standing.{MayStandFor}
use Rattle.client_turns.proofs.Framed.{starved_leaves}
use Rattle.client_turns.proofs.Framing.{store_leaves}
use Rattle.client_turns.proofs.Hubs.{seen_whole}
use Rattle.client_turns.proofs.Joinings.{joining_hub, joining_leads, link_starved_by, link_unopened, unjoined_leads, unopened_calm}
use Rattle.client_turns.proofs.clients.Clients.open_far.Goals as goal

pub returns-else-not-holds_none-clause-opening : goal.returns-else-not-holds_none-clause-opening
returns-else-not-holds_none-clause-opening g c = λ told m stands.
    joining_leads g.St.Store.told g.St.Store.lasts g.St.Store.stands g.R.Resolver.rules g.F.Refs.named c.args.name _ c.args.self.now (record { hub = c.open_session.new.self; clients = c.reserve.new.self.items }) _ _ _
    (record { name = c.args.name; session = c.in-Ok-open_session.session; connection = c.in-Ok.connection; client = c.in-Ok-new.zeo; desk = c.new-in-Ok-open_session.result })
    (c.in-Ok-open_session.ensures.number ∙ ap (λ s. length s.hub.sessions) c.self.view_is)
    (omega (arith, c.in-Ok-open_session.ensures.room, ap (λ s. length s.hub.sessions) c.self.view_is))
    (λ k hub. c.in-Ok-open_session.ensures.stands k (subst (λ s. StandsForMachine s.hub k) (sym c.self.view_is) hub))
    (c.open_session.ensures.store ∙ ap (λ s. s.hub.store) c.self.view_is)
    (c.open_session.ensures.resolver ∙ ap (λ s. s.hub.resolver) c.self.view_is)
    (c.open_session.ensures.refs ∙ ap (λ s. s.hub.refs) c.self.view_is)
    (seen_whole _ _ _ (sym c.if-not-is_open.false ∙ c.is_open.ensures.value))
    (c.holds_none.ensures c.if-not-holds_none.false)
    (c.reserve.ensures.items ∙ ap (λ s. s.clients) c.self.view_is)
    c.new-in-Ok-open_session.ensures c.in-Ok-new.ensures c.join.result c.join.ensures.joining told m stands refl c.in-Ok.ensures.between c.in-Ok.ensures.open

pub returns-else-not-holds_none-clause-hub : goal.returns-else-not-holds_none-clause-hub
returns-else-not-holds_none-clause-hub g c =
    joining_hub g.St.Store.told g.St.Store.lasts g.St.Store.stands g.R.Resolver.rules g.F.Refs.named c.args.name _ c.args.self.now (record { hub = c.open_session.new.self; clients = c.reserve.new.self.items }) _ _ _
    (record { name = c.args.name; session = c.in-Ok-open_session.session; connection = c.in-Ok.connection; client = c.in-Ok-new.zeo; desk = c.new-in-Ok-open_session.result })
    (c.in-Ok-open_session.ensures.number ∙ ap (λ s. length s.hub.sessions) c.self.view_is)
    (omega (arith, c.in-Ok-open_session.ensures.room, ap (λ s. length s.hub.sessions) c.self.view_is))
    (λ k hub. c.in-Ok-open_session.ensures.stands k (subst (λ s. StandsForMachine s.hub k) (sym c.self.view_is) hub))
    (c.open_session.ensures.store ∙ ap (λ s. s.hub.store) c.self.view_is)
    (c.open_session.ensures.resolver ∙ ap (λ s. s.hub.resolver) c.self.view_is)
    (c.open_session.ensures.refs ∙ ap (λ s. s.hub.refs) c.self.view_is)
    (seen_whole _ _ _ (sym c.if-not-is_open.false ∙ c.is_open.ensures.value))
    (c.holds_none.ensures c.if-not-holds_none.false)
    (c.reserve.ensures.items ∙ ap (λ s. s.clients) c.self.view_is)
    c.new-in-Ok-open_session.ensures c.in-Ok-new.ensures c.join.result c.join.ensures.joining

pub returns-in_default-clause-hub : goal.returns-in_default-clause-hub
returns-in_default-clause-hub g c = starved_leaves (g.St.Store.told × MayStandFor c.args.self.now (g.C.Clock.stamps c.args.clock.now)) g.St.Store.lasts g.St.Store.stands (rules_of g.R.Resolver.rules g.F.Refs.named c.args.self.now.hub) None (line.Open true) c.args.self.now.hub

pub returns-in_default-new-clause-hub : goal.returns-in_default-new-clause-hub
returns-in_default-new-clause-hub g c = starved_leaves (g.St.Store.told × MayStandFor c.args.self.now (g.C.Clock.stamps c.args.clock.now)) g.St.Store.lasts g.St.Store.stands (rules_of g.R.Resolver.rules g.F.Refs.named c.args.self.now.hub) None (line.Open true) c.args.self.now.hub

pub returns-then-is_err-clause-hub : goal.returns-then-is_err-clause-hub
returns-then-is_err-clause-hub g c = store_leaves (g.St.Store.told × MayStandFor c.args.self.now (g.C.Clock.stamps c.args.clock.now)) g.St.Store.lasts g.St.Store.stands (rules_of g.R.Resolver.rules g.F.Refs.named c.args.self.now.hub) c.args.self.now.hub _ None (line.Open true) NoMemory (inr refl) (ap (λ s. s.hub.store) c.self.view_is) (ap (λ s. s.hub.resolver) c.self.view_is) (ap (λ s. s.hub.refs) c.self.view_is)

pub returns-then-not-is_open-clause-opening : goal.returns-then-not-is_open-clause-opening
returns-then-not-is_open-clause-opening g c = λ told m stands.
    unjoined_leads g.St.Store.told g.St.Store.lasts g.St.Store.stands g.R.Resolver.rules g.F.Refs.named told m c.args.name c.in-Ok-open_session.session c.args.self.now _ c.open_session.new.self _ stands
    (c.in-Ok-open_session.ensures.number ∙ ap (λ s. length s.hub.sessions) c.self.view_is)
    (omega (arith, c.in-Ok-open_session.ensures.room, ap (λ s. length s.hub.sessions) c.self.view_is))
    (λ k hub. c.in-Ok-open_session.ensures.stands k (subst (λ s. StandsForMachine s.hub k) (sym c.self.view_is) hub))
    (c.open_session.ensures.store ∙ ap (λ s. s.hub.store) c.self.view_is)
    (c.open_session.ensures.resolver ∙ ap (λ s. s.hub.resolver) c.self.view_is)
    (c.open_session.ensures.refs ∙ ap (λ s. s.hub.refs) c.self.view_is)
    refl (c.reserve.ensures.items ∙ ap (λ s. s.clients) c.self.view_is)

pub returns-then-not-is_open-clause-hub : goal.returns-then-not-is_open-clause-hub
returns-then-not-is_open-clause-hub g c =
    store_leaves (g.St.Store.told × MayStandFor c.args.self.now (g.C.Clock.stamps c.args.clock.now)) g.St.Store.lasts g.St.Store.stands (rules_of g.R.Resolver.rules g.F.Refs.named c.args.self.now.hub) c.args.self.now.hub c.open_session.new.self None (line.Open true) NoMemory (inr refl)
    (c.open_session.ensures.store ∙ ap (λ s. s.hub.store) c.self.view_is)
    (c.open_session.ensures.resolver ∙ ap (λ s. s.hub.resolver) c.self.view_is)
    (c.open_session.ensures.refs ∙ ap (λ s. s.hub.refs) c.self.view_is)

pub returns-then-not-holds_none-clause-opening : goal.returns-then-not-holds_none-clause-opening
returns-then-not-holds_none-clause-opening g c = λ told m stands.
    unjoined_leads g.St.Store.told g.St.Store.lasts g.St.Store.stands g.R.Resolver.rules g.F.Refs.named told m c.args.name c.in-Ok-open_session.session c.args.self.now _ c.open_session.new.self _ stands
    (c.in-Ok-open_session.ensures.number ∙ ap (λ s. length s.hub.sessions) c.self.view_is)
    (omega (arith, c.in-Ok-open_session.ensures.room, ap (λ s. length s.hub.sessions) c.self.view_is))
    (λ k hub. c.in-Ok-open_session.ensures.stands k (subst (λ s. StandsForMachine s.hub k) (sym c.self.view_is) hub))
    (c.open_session.ensures.store ∙ ap (λ s. s.hub.store) c.self.view_is)
    (c.open_session.ensures.resolver ∙ ap (λ s. s.hub.resolver) c.self.view_is)
    (c.open_session.ensures.refs ∙ ap (λ s. s.hub.refs) c.self.view_is)
    refl (c.reserve.ensures.items ∙ ap (λ s. s.clients) c.self.view_is)

pub returns-then-not-holds_none-clause-hub : goal.returns-then-not-holds_none-clause-hub
returns-then-not-holds_none-clause-hub g c =
    store_leaves (g.St.Store.told × MayStandFor c.args.self.now (g.C.Clock.stamps c.args.clock.now)) g.St.Store.lasts g.St.Store.stands (rules_of g.R.Resolver.rules g.F.Refs.named c.args.self.now.hub) c.args.self.now.hub c.open_session.new.self None (line.Open true) NoMemory (inr refl)
    (c.open_session.ensures.store ∙ ap (λ s. s.hub.store) c.self.view_is)
    (c.open_session.ensures.resolver ∙ ap (λ s. s.hub.resolver) c.self.view_is)
    (c.open_session.ensures.refs ∙ ap (λ s. s.hub.refs) c.self.view_is)

pub returns-in-Err-clause-hub : goal.returns-in-Err-clause-hub
returns-in-Err-clause-hub g c =
    store_leaves (g.St.Store.told × MayStandFor c.args.self.now (g.C.Clock.stamps c.args.clock.now)) g.St.Store.lasts g.St.Store.stands (rules_of g.R.Resolver.rules g.F.Refs.named c.args.self.now.hub) c.args.self.now.hub c.open_session.new.self None (line.Open true) (outcome_of_answer c.unopened.result) (unopened_calm _ c.unopened.result c.unopened.ensures)
    (c.open_session.ensures.store ∙ ap (λ s. s.hub.store) c.self.view_is)
    (c.open_session.ensures.resolver ∙ ap (λ s. s.hub.resolver) c.self.view_is)
    (c.open_session.ensures.refs ∙ ap (λ s. s.hub.refs) c.self.view_is)

pub returns-in_default-clause-opening : goal.returns-in_default-clause-opening
returns-in_default-clause-opening g c = λ told m stands. link_starved_by (rules_of g.R.Resolver.rules g.F.Refs.named c.args.self.now.hub) c.args.self.now _ _ m c.args.name stands refl refl

pub returns-in_default-new-clause-opening : goal.returns-in_default-new-clause-opening
returns-in_default-new-clause-opening g c = λ told m stands. link_starved_by (rules_of g.R.Resolver.rules g.F.Refs.named c.args.self.now.hub) c.args.self.now _ _ m c.args.name stands refl refl

pub returns-then-is_err-clause-opening : goal.returns-then-is_err-clause-opening
returns-then-is_err-clause-opening g c = λ told m stands. link_starved_by (rules_of g.R.Resolver.rules g.F.Refs.named c.args.self.now.hub) c.args.self.now _ _ m c.args.name stands (ap (λ s. s.hub) c.self.view_is) (c.reserve.ensures.items ∙ ap (λ s. s.clients) c.self.view_is)

pub returns-in-Err-clause-opening : goal.returns-in-Err-clause-opening
returns-in-Err-clause-opening g c = λ told m stands.
    link_unopened (rules_of g.R.Resolver.rules g.F.Refs.named c.args.self.now.hub) c.args.self.now _ _ m c.args.name c.in-Err.why c.unopened.result stands
    (subst (λ s. MayRefuseSession (length s.hub.sessions) c.in-Err.why) c.self.view_is c.in-Err.ensures.refused)
    (c.in-Err.ensures.same ∙ ap (λ s. s.hub) c.self.view_is)
    (c.reserve.ensures.items ∙ ap (λ s. s.clients) c.self.view_is)
    c.unopened.ensures
