-- A line that is one step.
use Rattle.std.proofs.Common.{◌∙◌, List, ap, sym}
use Rattle.std.specs.Prelude.{slice_get, slice_set}
use Rattle.zodb_core.specs.HubState.{rules_of}
use Rattle.client_turns.specs.declared.member.Member.{Member}
use Rattle.client_turns.specs.Members.{without_link}
use Rattle.client_turns.proofs.Framing.{plain_keeps}
use Rattle.client_turns.proofs.Keeping.{lost_holds}
use Rattle.client_turns.proofs.Leaving.{lost_there, without_linked, without_session}
use Rattle.client_turns.proofs.Placing.{there_at}
use Rattle.client_turns.proofs.Stepping.{lost_stands, plain_leads, step_named, step_numbered}
use Rattle.client_turns.proofs.clients.Clients.take_step.Goals as goal

pub returns-clause-line : goal.returns-clause-line
returns-clause-line g c = λ told m stands.
    let x = there_at c.args.self.now.clients c.args.at c.requires.place in
    let set = c.lose_at.ensures.lost x.0 (ap (λ s. slice_get s.clients c.args.at) c.self.view_is ∙ x.1) ∙ ap (λ s. slice_set s.clients c.args.at (without_link x.0)) c.self.view_is in
    let there = lost_there c.args.self.now.clients _ c.args.at x.0 x.1 set in
    let lost = lost_stands c.args.self.now _ _ m c.args.at x.0 stands x.1 (ap (λ s. s.hub) c.self.view_is) set in
    let left = c.leave_at.ensures.left (without_link x.0) (ap (λ s. slice_get s.clients c.args.at) c.self-2.view_is ∙ ap (λ (xs : List Member). slice_get xs c.args.at) c.step-reply.ensures.clients ∙ there) in
    step_named g.R.Resolver.rules g.F.Refs.named c.self.inside.hub _ m c.args.at c.args.request c.answer_of.result _ _ (ap (λ s. s.hub) c.self.view_is)
    (plain_leads (rules_of g.R.Resolver.rules g.F.Refs.named c.self.inside.hub) m c.args.at (without_link x.0) c.args.request c.step-reply.result c.answer_of.result _ c.step-reply.new.self _ _ _ lost there (lost_holds x.0) c.requires.plain
    (λ linked. c.requires.closes x.0 x.1 (sym (without_linked x.0) ∙ linked))
    (c.step-reply.ensures.step told m lost (without_link x.0) there (lost_holds x.0)) c.step-reply.ensures.clients (ap (λ s. s.hub) c.self-2.view_is)
    (left.0, left.1 ∙ ap (λ s. slice_set s.clients c.args.at left.0) c.self-2.view_is ∙ ap (λ (xs : List Member). slice_set xs c.args.at left.0) c.step-reply.ensures.clients, left.2)
    c.answer_of.ensures)

pub returns-clause-hub : goal.returns-clause-hub
returns-clause-hub g c =
    let x = there_at c.args.self.now.clients c.args.at c.requires.place in
    let set = c.lose_at.ensures.lost x.0 (ap (λ s. slice_get s.clients c.args.at) c.self.view_is ∙ x.1) ∙ ap (λ s. slice_set s.clients c.args.at (without_link x.0)) c.self.view_is in
    let there = lost_there c.args.self.now.clients _ c.args.at x.0 x.1 set in
    let made = step_numbered g.St.Store.told g.St.Store.lasts g.St.Store.stands g.R.Resolver.rules g.F.Refs.named _ _ c.args.request c.step-reply.result c.self.inside.hub _ _ _ _ (without_session x.0) (ap (λ s. s.hub) c.self.view_is) (c.step-reply.ensures.made (without_link x.0) there) in
    plain_keeps g.St.Store.told g.St.Store.lasts g.St.Store.stands g.R.Resolver.rules g.F.Refs.named c.args.request c.step-reply.result c.answer_of.result c.args.self.now.hub _ _ _ _ c.args.self.now.clients c.args.at x.0 x.1
    made (ap (λ s. s.hub) c.self-2.view_is) c.answer_of.ensures
