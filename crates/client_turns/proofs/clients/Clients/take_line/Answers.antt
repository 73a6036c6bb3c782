-- A line of the client at a place.
use Rattle.std.proofs.Common.{◌∙◌, List, ap, sym, refl, inl}
use Rattle.std.specs.Prelude.{slice_get}
use Rattle.zb_model.specs.declared.refusal.Refusal.TheVariants as refusal
use Rattle.zb_answers.specs.declared.answer.Answer.TheVariants as answer
use Rattle.zodb_core.specs.HubState.{rules_of, sessions_with}
use Rattle.zodb_core.specs.Machine.{is_open_in}
use Rattle.client_turns.specs.declared.member.Member.{Member}
use Rattle.client_turns.specs.Lines.{outcome_of_answer}
use Rattle.client_turns.proofs.Framing.{none_leaves}
use Rattle.client_turns.specs.Standing.{MayAskFor, MayStandFor}
use Rattle.client_turns.proofs.Handing.{keeps_told, stands_hub}
use Rattle.client_turns.proofs.Taking.{closed_uncut, line_opened, may_ask}
use Rattle.client_turns.proofs.clients.Clients.take_line.Goals as goal

pub returns-then-not-is_open-clause-line : goal.returns-then-not-is_open-clause-line
returns-then-not-is_open-clause-line g c = λ told m stands.
    closed_uncut (rules_of g.R.Resolver.rules g.F.Refs.named c.args.self.now.hub) m c.args.at c.session_at.result c.args.line.now c.args.self.now _ stands c.requires.place
    (λ x there. c.session_at.ensures.session x (ap (λ (xs : List Member). slice_get xs c.args.at) (c.as_slice.ensures.value ∙ ap (λ s. s.clients) c.self.view_is) ∙ there))
    (sym c.if-not-is_open.true ∙ c.is_open.ensures.value ∙ ap (λ s. is_open_in (sessions_with s.hub.store.broken s.hub.sessions) c.session_at.result) c.self.view_is)

pub returns-then-not-is_open-clause-hub : goal.returns-then-not-is_open-clause-hub
returns-then-not-is_open-clause-hub g c =
    stands_hub g.St.Store.told g.St.Store.lasts g.St.Store.stands (rules_of g.R.Resolver.rules g.F.Refs.named c.args.self.now.hub) (slice_get c.args.self.now.clients c.args.at) c.args.line.now _ c.args.self.now (g.C.Clock.stamps c.args.clock.now) c.args.self.now.hub
    (none_leaves g.St.Store.told g.St.Store.lasts g.St.Store.stands (rules_of g.R.Resolver.rules g.F.Refs.named c.args.self.now.hub) c.args.self.now.hub c.args.self.now.hub (slice_get c.args.self.now.clients c.args.at) c.args.line.now (outcome_of_answer (answer.Refused refusal.NotOpen)) (inl refl) refl)

pub returns-clause-line : goal.returns-clause-line
returns-clause-line g c = λ told m stands.
    let may = may_ask m c.args.at c.session_at.result c.args.self.now _ stands c.requires.place
    (λ x there. c.session_at.ensures.session x (ap (λ (xs : List Member). slice_get xs c.args.at) (c.as_slice.ensures.value ∙ ap (λ s. s.clients) c.self.view_is) ∙ there))
    (sym c.if-not-is_open.false ∙ c.is_open.ensures.value ∙ ap (λ s. is_open_in (sessions_with s.hub.store.broken s.hub.sessions) c.session_at.result) c.self.view_is) in
    line_opened _ m c.args.at c.args.line.now _ _ _ may (c.open_line.ensures.line told m stands may)

pub returns-clause-hub : goal.returns-clause-hub
returns-clause-hub g c =
    keeps_told (g.St.Store.told × MayAskFor c.args.self.now (g.C.Clock.stamps c.args.clock.now) c.args.at)
    (g.St.Store.told × MayStandFor c.args.self.now (g.C.Clock.stamps c.args.clock.now)) g.St.Store.lasts g.St.Store.stands _ _ (outcome_of_answer c.open_line.result) c.args.self.now.hub c.open_line.new.self.hub
    (λ both. (
      both.0,
      (
        both.1.0,
        both.1.1,
        may_ask both.1.0 c.args.at c.session_at.result c.args.self.now _ both.1.1 c.requires.place
            (λ x there. c.session_at.ensures.session x (ap (λ (xs : List Member). slice_get xs c.args.at) (c.as_slice.ensures.value ∙ ap (λ s. s.clients) c.self.view_is) ∙ there))
            (sym c.if-not-is_open.false ∙ c.is_open.ensures.value ∙ ap (λ s. is_open_in (sessions_with s.hub.store.broken s.hub.sessions) c.session_at.result) c.self.view_is),
      ),
    ))
    c.open_line.ensures.hub
