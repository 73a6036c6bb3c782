-- A line that the client at a place asks by itself.
use Rattle.std.proofs.Common.{◌∙◌, ap, subst, sym}
use Rattle.std.specs.Prelude.{slice_get, slice_set}
use Rattle.zodb_core.specs.HubState.{rules_of}
use Rattle.client_turns.specs.Lines.{outcome_of_answer}
use Rattle.client_turns.specs.Standing.{IsLineOpen, OrCut, TakesMember}
use Rattle.client_turns.specs.Turns.{IsCutAt}
use Rattle.client_turns.proofs.Handing.{HubLeft, asked_hub}
use Rattle.client_turns.proofs.Sounding.{open_moves}
use Rattle.client_turns.proofs.Stepping.{all_lead}
use Rattle.client_turns.proofs.Taking.{asked_leads}
use Rattle.client_turns.proofs.clients.Clients.ask.Goals as goal

pub ask_at-requires-clause-asked : goal.ask_at-requires-clause-asked
ask_at-requires-clause-asked g c = λ x there. c.requires.asked x (sym (ap (λ s. slice_get s.clients c.args.at) c.self.view_is) ∙ there)

pub returns-clause-line : goal.returns-clause-line
returns-clause-line g c = λ told m stands may.
    let rules = rules_of g.R.Resolver.rules g.F.Refs.named c.args.self.now.hub in
    asked_leads rules m c.args.at c.args.line.now c.ask_at.result _ _
    (all_lead (λ d. OrCut (IsLineOpen rules m c.args.at d c.args.line.now) (IsCutAt rules m d c.args.line.now) c.ask_at.result) m c.args.at c.args.self.now _ _ _ stands may
    (λ d there now line. open_moves rules m now c.args.at d c.args.line.now c.ask_at.result stands.sound there c.requires.fitting line)
    (λ x there.
    let y = c.ask_at.ensures.line x (ap (λ s. slice_get s.clients c.args.at) c.self.view_is ∙ there) in (
      y.0,
      y.1 ∙ ap (λ s. slice_set s.clients c.args.at y.0) c.self.view_is,
      λ d takes.
          subst (λ s. TakesMember g.St.Store.told (rules_of g.R.Resolver.rules g.F.Refs.named s.hub) c.args.line.now c.ask_at.result s.hub c.ask_at.new.hub x y.0 (g.C.Clock.stamps c.args.clock.now) (g.C.Clock.stamps c.ask_at.new.clock)) c.self.view_is y.2 told m c.args.at d takes,
    )))

pub returns-clause-hub : goal.returns-clause-hub
returns-clause-hub g c =
    asked_hub g.St.Store.told g.St.Store.lasts g.St.Store.stands (rules_of g.R.Resolver.rules g.F.Refs.named c.args.self.now.hub) c.args.line.now (outcome_of_answer c.ask_at.result) c.args.self.now (g.C.Clock.stamps c.args.clock.now) c.ask_at.new.hub c.args.at c.requires.place
    (λ x there. subst (λ s. HubLeft g.St.Store.told g.St.Store.lasts g.St.Store.stands (rules_of g.R.Resolver.rules g.F.Refs.named s.hub) x c.args.line.now (outcome_of_answer c.ask_at.result) s.hub c.ask_at.new.hub) c.self.view_is
    (c.ask_at.ensures.hub x (ap (λ s. slice_get s.clients c.args.at) c.self.view_is ∙ there)))
