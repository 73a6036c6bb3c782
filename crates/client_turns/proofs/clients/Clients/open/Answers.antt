-- A client opens its session.
use Rattle.std.proofs.Common.{◌∙◌, List, [], ◌∷◌, ◌++◌, None, length, arith, ap, refl, subst, sym}
use Rattle.zodb_core.specs.HubState.{StandsForMachine}
use Rattle.client_turns.specs.declared.client.Client.{Client}
use Rattle.client_turns.specs.declared.member.Member.{Member}
use Rattle.client_turns.specs.declared.member.Member.TheVariants.{Near}
use Rattle.client_turns.proofs.Opening.{open_leads}
use Rattle.client_turns.proofs.clients.Clients.open.Goals as goal

pub returns-in-Ok-open_session-clause-opening : goal.returns-in-Ok-open_session-clause-opening
returns-in-Ok-open_session-clause-opening g c = λ told m left stands.
    let x : Client = record { name = c.args.name; session = c.in-Ok-open_session.session; told = None; connection = c.in-Ok.connection } in
    open_leads m c.args.name c.in-Ok-open_session.session x c.args.self.now _ left stands
    (omega (arith, c.in-Ok-open_session.ensures.number, ap (λ s. length s.hub.sessions) c.self.view_is))
    (omega (arith, c.in-Ok-open_session.ensures.room, ap (λ s. length s.hub.sessions) c.self.view_is))
    (λ k hub. c.in-Ok-open_session.ensures.stands k (subst (λ s. StandsForMachine s.hub k) (sym c.self.view_is) hub))
    (c.open_session.ensures.store ∙ ap (λ s. s.hub.store) c.self.view_is)
    (c.push_client.ensures ∙ ap (λ (xs : List Member). xs ++ Near x ∷ []) (c.reserve.ensures.items ∙ ap (λ s. s.clients) c.self.view_is))
    refl refl refl c.in-Ok.ensures.between c.in-Ok.ensures.open
