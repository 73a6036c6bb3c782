-- A client's session is closed.
use Rattle.std.proofs.Common.{◌≡◌, ◌∙◌, ◌<◌, ℕ, List, length, ap, refl, subst, sym}
use Rattle.std.specs.Prelude.{bytes_eq, slice_get, slice_set}
use Rattle.std.specs.List.{position}
use Rattle.zodb_core.specs.HubState.{rules_of}
use Rattle.client_turns.specs.declared.member.Member.{Member}
use Rattle.zodb_core.specs.declared.request.Request.TheVariants as request
use Rattle.client_turns.specs.Lines.{end_of}
use Rattle.client_turns.specs.Standing.{LeadsTo}
use Rattle.client_turns.specs.Steps.{IsStepAt}
use Rattle.client_turns.specs.Members.{name_of, session_of, without_link}
use Rattle.client_turns.proofs.Framing.{close_keeps, closed_fed, none_closed}
use Rattle.client_turns.proofs.Keeping.{lost_holds}
use Rattle.client_turns.proofs.Leaving.{lost_there, without_session}
use Rattle.client_turns.proofs.Opening.{close_done, close_none}
use Rattle.client_turns.proofs.Placing.{there_at}
use Rattle.client_turns.proofs.Stepping.{lost_stands, step_numbered}
use Rattle.client_turns.proofs.clients.Clients.close.Goals as goal

pub returns-in_default-clause-closing : goal.returns-in_default-clause-closing
returns-in_default-clause-closing g c = λ told m stands.
    close_none _ m c.args.name.now c.args.self.now _ stands
    (sym c.in_default.is ∙ c.place_of.ensures.place ∙ ap (position (λ (x : Member). bytes_eq (name_of x) c.args.name.now)) (c.as_slice.ensures.value ∙ ap (λ s. s.clients) c.self.view_is))

pub returns-in_default-clause-hub : goal.returns-in_default-clause-hub
returns-in_default-clause-hub g c = none_closed g.St.Store.told g.St.Store.lasts g.St.Store.stands (rules_of g.R.Resolver.rules g.F.Refs.named c.args.self.now.hub) c.args.self.now.hub

within : (xs : List Member) (ys : List Member) (at : ℕ) → at < length xs → xs ≡ ys → at < length ys
within xs ys at less same = subst (λ (zs : List Member). at < length zs) same less

pub lose_at-requires : goal.lose_at-requires
lose_at-requires g c = record { place = within _ _ c.in-Some.at c.in-Some.ensures.bound c.as_slice.ensures.value }

pub returns-clause-closing : goal.returns-clause-closing
returns-clause-closing g c = λ told m stands.
    let x = there_at c.args.self.now.clients c.in-Some.at (within _ _ c.in-Some.at c.in-Some.ensures.bound (c.as_slice.ensures.value ∙ ap (λ s. s.clients) c.self.view_is)) in
    let set = c.lose_at.ensures.lost x.0 (ap (λ s. slice_get s.clients c.in-Some.at) c.self.view_is ∙ x.1) ∙ ap (λ s. slice_set s.clients c.in-Some.at (without_link x.0)) c.self.view_is in
    let lost = lost_stands c.args.self.now _ _ m c.in-Some.at x.0 stands x.1 (ap (λ s. s.hub) c.self.view_is) set in
    let step = c.step-reply.ensures.step told m lost (without_link x.0) (lost_there c.args.self.now.clients _ c.in-Some.at x.0 x.1 set) (lost_holds x.0) in
    close_done (rules_of g.R.Resolver.rules g.F.Refs.named c.args.self.now.hub) m c.args.name.now c.in-Some.at x.0 c.step-reply.result _ c.args.self.now _ _ _ stands
    (sym c.in-Some.is ∙ c.place_of.ensures.place ∙ ap (position (λ (x : Member). bytes_eq (name_of x) c.args.name.now)) (c.as_slice.ensures.value ∙ ap (λ s. s.clients) c.self.view_is))
    x.1
    (subst (λ s. LeadsTo (IsStepAt (rules_of g.R.Resolver.rules g.F.Refs.named s.hub) m (session_of x.0) request.Close c.step-reply.result) c.step-reply.new.self (g.C.Clock.stamps c.step-reply.new.clock)) c.self.view_is
    (subst (λ (n : ℕ). LeadsTo (IsStepAt (rules_of g.R.Resolver.rules g.F.Refs.named c.self.inside.hub) m n request.Close c.step-reply.result) c.step-reply.new.self (g.C.Clock.stamps c.step-reply.new.clock)) (without_session x.0) step))
    (c.end_of.ensures ∙ ap end_of c.answer_of.ensures)

pub returns-clause-hub : goal.returns-clause-hub
returns-clause-hub g c =
    let x = there_at c.args.self.now.clients c.in-Some.at (within _ _ c.in-Some.at c.in-Some.ensures.bound (c.as_slice.ensures.value ∙ ap (λ s. s.clients) c.self.view_is)) in
    let set = c.lose_at.ensures.lost x.0 (ap (λ s. slice_get s.clients c.in-Some.at) c.self.view_is ∙ x.1) ∙ ap (λ s. slice_set s.clients c.in-Some.at (without_link x.0)) c.self.view_is in
    close_keeps g.St.Store.told g.St.Store.lasts g.St.Store.stands g.R.Resolver.rules g.F.Refs.named (session_of x.0) c.step-reply.result c.answer_of.result c.end_of.result c.args.self.now.hub _ _ _
    (step_numbered g.St.Store.told g.St.Store.lasts g.St.Store.stands g.R.Resolver.rules g.F.Refs.named _ _ request.Close c.step-reply.result c.self.inside.hub _ _ _ _ (without_session x.0) (ap (λ s. s.hub) c.self.view_is) (c.step-reply.ensures.made (without_link x.0) (lost_there c.args.self.now.clients _ c.in-Some.at x.0 x.1 set)))
    c.end_of.ensures c.answer_of.ensures

pub returns-clause-fed : goal.returns-clause-fed
returns-clause-fed g c =
    let x = there_at c.args.self.now.clients c.in-Some.at (within _ _ c.in-Some.at c.in-Some.ensures.bound (c.as_slice.ensures.value ∙ ap (λ s. s.clients) c.self.view_is)) in
    let set = c.lose_at.ensures.lost x.0 (ap (λ s. slice_get s.clients c.in-Some.at) c.self.view_is ∙ x.1) ∙ ap (λ s. slice_set s.clients c.in-Some.at (without_link x.0)) c.self.view_is in
    let made = c.step-reply.ensures.made (without_link x.0) (lost_there c.args.self.now.clients _ c.in-Some.at x.0 x.1 set) in
    λ is. closed_fed c.step-reply.result c.answer_of.result c.end_of.result c.end_of.ensures c.answer_of.ensures (made.memory refl) is
