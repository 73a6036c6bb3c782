-- A line of a client, by its name.
use Rattle.std.proofs.Common.{◌∙◌, ℕ, Option, Some, ap, sym, subst, refl, inl}
use Rattle.std.specs.Prelude.{bytes_eq}
use Rattle.std.specs.List.{position}
use Rattle.zb_model.specs.declared.refusal.Refusal.TheVariants as refusal
use Rattle.zb_answers.specs.declared.answer.Answer.TheVariants as answer
use Rattle.zodb_core.specs.HubState.{rules_of}
use Rattle.client_turns.specs.declared.member.Member.{Member}
use Rattle.client_turns.specs.Lines.{outcome_of_answer}
use Rattle.client_turns.specs.Members.{name_of}
use Rattle.client_turns.specs.Standing.{LeavesHub, MayStandFor, kept_found, kept_named}
use Rattle.client_turns.proofs.Handing.{stands_hub}
use Rattle.client_turns.proofs.Framing.{none_leaves, store_leaves}
use Rattle.client_turns.proofs.Joinings.{link_leaves}
use Rattle.client_turns.proofs.Taking.{line_found, line_links, line_missing, line_opens}
use Rattle.client_turns.proofs.clients.Clients.line.Goals as goal

pub returns-in-Some-false-clause-line : goal.returns-in-Some-false-clause-line
returns-in-Some-false-clause-line g c = λ told m stands.
    line_opens _ m c.args.name c.args.line.now _ _ _ (sym c.opening_in.ensures ∙ c.in-Some-false.is ∙ ap Some c.in-Some-false.field-0-test) (c.open.ensures.opening told m _ stands)

pub returns-in-Some-false-clause-hub : goal.returns-in-Some-false-clause-hub
returns-in-Some-false-clause-hub g c =
    stands_hub g.St.Store.told g.St.Store.lasts g.St.Store.stands (rules_of g.R.Resolver.rules g.F.Refs.named c.args.self.now.hub) (kept_named c.args.name c.args.self.now.clients) c.args.line.now _ c.args.self.now (g.C.Clock.stamps c.args.clock.now) c.open.new.self.hub
    (store_leaves g.St.Store.told g.St.Store.lasts g.St.Store.stands (rules_of g.R.Resolver.rules g.F.Refs.named c.args.self.now.hub) c.args.self.now.hub c.open.new.self.hub (kept_named c.args.name c.args.self.now.clients) c.args.line.now (outcome_of_answer c.open.result) c.open.ensures.calm c.open.ensures.store c.open.ensures.resolver c.open.ensures.refs)

pub returns-in-Some-true-clause-line : goal.returns-in-Some-true-clause-line
returns-in-Some-true-clause-line g c = λ told m stands.
    line_links _ m c.args.name c.args.line.now _ _ _ (sym c.opening_in.ensures ∙ c.in-Some-true.is ∙ ap Some c.in-Some-true.field-0-test) (c.open_far.ensures.opening told m stands)

pub returns-in-Some-true-clause-hub : goal.returns-in-Some-true-clause-hub
returns-in-Some-true-clause-hub g c =
    link_leaves (g.St.Store.told × MayStandFor c.args.self.now (g.C.Clock.stamps c.args.clock.now)) g.St.Store.lasts g.St.Store.stands (rules_of g.R.Resolver.rules g.F.Refs.named c.args.self.now.hub) (kept_named c.args.name c.args.self.now.clients) c.args.line.now _ c.args.self.now.hub c.open_far.new.self.hub
    (sym c.opening_in.ensures ∙ c.in-Some-true.is ∙ ap Some c.in-Some-true.field-0-test) c.open_far.ensures.hub

pub returns-in-Some-clause-line : goal.returns-in-Some-clause-line
returns-in-Some-clause-line g c = λ told m stands.
    line_found _ m c.args.name c.in-Some.at c.args.line.now _ c.args.self.now _ _ _ stands (sym c.opening_in.ensures ∙ c.in-None.is)
    (sym c.in-Some.is ∙ c.place_of.ensures.place ∙ ap (position (λ (x : Member). bytes_eq (name_of x) c.args.name)) (c.as_slice.ensures.value ∙ ap (λ s. s.clients) c.self.view_is))
    (c.take_line.ensures.line told m stands)

pub returns-in-Some-clause-hub : goal.returns-in-Some-clause-hub
returns-in-Some-clause-hub g c =
    subst (λ (at : Option ℕ). LeavesHub (g.St.Store.told × MayStandFor c.args.self.now (g.C.Clock.stamps c.args.clock.now)) g.St.Store.lasts g.St.Store.stands (rules_of g.R.Resolver.rules g.F.Refs.named c.args.self.now.hub) (kept_found c.args.self.now.clients at) c.args.line.now (outcome_of_answer c.take_line.result) c.args.self.now.hub c.take_line.new.self.hub)
    (sym c.in-Some.is ∙ c.place_of.ensures.place ∙ ap (position (λ (x : Member). bytes_eq (name_of x) c.args.name)) (c.as_slice.ensures.value ∙ ap (λ s. s.clients) c.self.view_is))
    c.take_line.ensures.hub

pub returns-in-None-place_of-clause-line : goal.returns-in-None-place_of-clause-line
returns-in-None-place_of-clause-line g c = λ told m stands.
    line_missing _ m c.args.name c.args.line.now c.args.self.now _ stands (sym c.opening_in.ensures ∙ c.in-None.is)
    (sym c.in-None-place_of.is ∙ c.place_of.ensures.place ∙ ap (position (λ (x : Member). bytes_eq (name_of x) c.args.name)) (c.as_slice.ensures.value ∙ ap (λ s. s.clients) c.self.view_is))

pub returns-in-None-place_of-clause-hub : goal.returns-in-None-place_of-clause-hub
returns-in-None-place_of-clause-hub g c =
    stands_hub g.St.Store.told g.St.Store.lasts g.St.Store.stands (rules_of g.R.Resolver.rules g.F.Refs.named c.args.self.now.hub) (kept_named c.args.name c.args.self.now.clients) c.args.line.now _ c.args.self.now (g.C.Clock.stamps c.args.clock.now) c.args.self.now.hub
    (none_leaves g.St.Store.told g.St.Store.lasts g.St.Store.stands (rules_of g.R.Resolver.rules g.F.Refs.named c.args.self.now.hub) c.args.self.now.hub c.args.self.now.hub (kept_named c.args.name c.args.self.now.clients) c.args.line.now (outcome_of_answer (answer.Refused refusal.NotOpen)) (inl refl) refl)
