-- A line of an open session.
use Rattle.std.proofs.Common.{◌≡◌, ◌∙◌, Bool, true, false, List, ap, sym, subst}
use Rattle.std.specs.Prelude.{slice_get}
use Rattle.zodb_core.specs.HubState.{rules_of}
use Rattle.client_turns.specs.declared.member.Member.{Member}
use Rattle.client_turns.specs.Asking.{asks_by}
use Rattle.client_turns.specs.Lines.{outcome_of_answer}
use Rattle.client_turns.specs.Standing.{MayAskFor, MayStandFor}
use Rattle.client_turns.proofs.Handing.{keeps_told}
use Rattle.client_turns.proofs.Framing.{line_keeps}
use Rattle.client_turns.proofs.Opened.{just_close}
use Rattle.client_turns.proofs.Taking.{step_uncut, tree_uncut}
use Rattle.client_turns.proofs.clients.Clients.open_line.Goals as goal

pub ask-requires-clause-asked : goal.ask-requires-clause-asked
ask-requires-clause-asked g c = λ x there.
    subst (λ (b : Bool). asks_by b c.args.line.now ≡ true)
    (c.is_linked_at.ensures.linked x (ap (λ (xs : List Member). slice_get xs c.args.at) (c.as_slice.ensures.value ∙ ap (λ s. s.clients) c.self.view_is) ∙ there))
    (sym c.asks_by.ensures ∙ c.if-asks_by.true)

pub take_step-requires-clause-closes : goal.take_step-requires-clause-closes
take_step-requires-clause-closes g c = λ x there linked.
    just_close c.args.line.now c.in-Some.request (sym c.in-Some.is ∙ c.plain_request.ensures.request)
    (subst (λ (b : Bool). asks_by b c.args.line.now ≡ false)
    (c.is_linked_at.ensures.linked x (ap (λ (xs : List Member). slice_get xs c.args.at) (c.as_slice.ensures.value ∙ ap (λ s. s.clients) c.self.view_is) ∙ there) ∙ linked)
    (sym c.asks_by.ensures ∙ c.if-asks_by.false))

pub returns-in-Some-clause-line : goal.returns-in-Some-clause-line
returns-in-Some-clause-line g c = λ told m stands may.
    step_uncut (rules_of g.R.Resolver.rules g.F.Refs.named c.args.self.now.hub) m c.args.at c.args.line.now c.in-Some.request c.take_step.result c.take_step.new.self _ (sym c.in-Some.is ∙ c.plain_request.ensures.request) (c.take_step.ensures.line told m stands)

pub returns-in-Some-clause-hub : goal.returns-in-Some-clause-hub
returns-in-Some-clause-hub g c =
    keeps_told g.St.Store.told (g.St.Store.told × MayAskFor c.args.self.now (g.C.Clock.stamps c.args.clock.now) c.args.at) g.St.Store.lasts g.St.Store.stands _ _ _ c.args.self.now.hub c.take_step.new.self.hub (λ both. both.0)
    (line_keeps g.St.Store.told g.St.Store.lasts g.St.Store.stands (rules_of g.R.Resolver.rules g.F.Refs.named c.args.self.now.hub) c.args.self.now.hub c.take_step.new.self.hub (slice_get c.args.self.now.clients c.args.at) c.args.line.now c.in-Some.request (outcome_of_answer c.take_step.result)
    (sym c.in-Some.is ∙ c.plain_request.ensures.request) c.take_step.ensures.hub)

pub returns-clause-line : goal.returns-clause-line
returns-clause-line g c = λ told m stands may.
    tree_uncut (rules_of g.R.Resolver.rules g.F.Refs.named c.args.self.now.hub) m c.args.at _ _ c.tree_line.result c.tree_line.new.self _ c.in-Tree.is (c.tree_line.ensures.line told m stands may)

pub returns-then-asks_by-clause-hub : goal.returns-then-asks_by-clause-hub
returns-then-asks_by-clause-hub g c =
    keeps_told (g.St.Store.told × MayStandFor c.args.self.now (g.C.Clock.stamps c.args.clock.now))
    (g.St.Store.told × MayAskFor c.args.self.now (g.C.Clock.stamps c.args.clock.now) c.args.at) g.St.Store.lasts g.St.Store.stands _ _ (outcome_of_answer c.ask.result) c.args.self.now.hub c.ask.new.self.hub
    (λ both. (both.0, (both.1.0, both.1.1))) c.ask.ensures.hub
