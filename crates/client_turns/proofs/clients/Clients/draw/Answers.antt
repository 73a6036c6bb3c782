-- A number for a new object.
use Rattle.std.proofs.Common.{◌≡◌, ◌∙◌, false, List, ap, subst, sym}
use Rattle.std.specs.Prelude.{slice_get, slice_set}
use Rattle.client_turns.specs.declared.member.Member.{Member}
use Rattle.client_turns.specs.Gathering.{TakesMemberDraw}
use Rattle.client_turns.specs.Lines.{outcome_of_result}
use Rattle.client_turns.specs.Members.{is_linked}
use Rattle.client_turns.specs.OverQuestions.{ReadsLinked}
use Rattle.client_turns.specs.Standing.{MayBeThere, MayReadFor}
use Rattle.client_turns.proofs.Drawing.{free_near}
use Rattle.client_turns.proofs.Framing.{draw_reads}
use Rattle.client_turns.proofs.Gathering.{draw_done, number_reads}
use Rattle.client_turns.proofs.Placing.{there_at}
use Rattle.client_turns.proofs.Reading.{draw_leads}
use Rattle.client_turns.proofs.Telling.{linked_reads, placed_reads, retold}
use Rattle.client_turns.proofs.clients.Clients.draw.Goals as goal

pub draw_at-requires-clause-linked : goal.draw_at-requires-clause-linked
draw_at-requires-clause-linked g c = λ x there. sym (c.is_linked_at.ensures.linked x (ap (λ (xs : List Member). slice_get xs c.args.at) c.as_slice.ensures.value ∙ there)) ∙ c.if-is_linked_at.true

pub returns-then-is_linked_at-clause-draw : goal.returns-then-is_linked_at-clause-draw
returns-then-is_linked_at-clause-draw g c = λ told m stands may.
    draw_leads m c.args.at c.draw_at.result c.args.self.now _ _ _ stands may
    (λ x there.
    let y = c.draw_at.ensures.draw x (ap (λ s. slice_get s.clients c.args.at) c.self.view_is ∙ there) in (
      y.0,
      y.1 ∙ ap (λ s. slice_set s.clients c.args.at y.0) c.self.view_is,
      λ d takes.
          subst (λ s. TakesMemberDraw g.St.Store.told c.draw_at.result s.hub c.draw_at.new.hub x y.0 (g.C.Clock.stamps c.args.clock.now) (g.C.Clock.stamps c.draw_at.new.clock)) c.self.view_is y.2 told m c.args.at d takes,
    ))

pub returns-then-is_linked_at-clause-hub : goal.returns-then-is_linked_at-clause-hub
returns-then-is_linked_at-clause-hub g c =
    placed_reads g.St.Store.told g.St.Store.lasts g.St.Store.stands (outcome_of_result c.draw_at.result) c.args.self.now (g.C.Clock.stamps c.args.clock.now) c.draw_at.new.hub c.args.at c.requires.place
    (λ x there.
    subst (λ s. ReadsLinked (g.St.Store.told × MayBeThere s.hub x) g.St.Store.lasts g.St.Store.stands (outcome_of_result c.draw_at.result) s.hub c.draw_at.new.hub) c.self.view_is
    (c.draw_at.ensures.hub x (ap (λ s. slice_get s.clients c.args.at) c.self.view_is ∙ there)))

pub returns-clause-draw : goal.returns-clause-draw
returns-clause-draw g c = λ told m stands may.
    let x = there_at c.args.self.now.clients c.args.at c.requires.place in
    let near : is_linked x.0 ≡ false = sym (c.is_linked_at.ensures.linked x.0 (ap (λ (xs : List Member). slice_get xs c.args.at) (c.as_slice.ensures.value ∙ ap (λ s. s.clients) c.self.view_is) ∙ x.1)) ∙ c.if-is_linked_at.false in
    draw_done _ m c.args.at x.0 _ c.number_in.result c.args.self.now _ _ _ stands x.1 c.number_in.ensures
    (c.step.ensures.step told m stands x.0 x.1 (free_near x.0 near))

pub returns-clause-hub : goal.returns-clause-hub
returns-clause-hub g c =
    let x = there_at c.args.self.now.clients c.args.at c.requires.place in
    retold g.St.Store.told g.St.Store.lasts g.St.Store.stands (g.St.Store.told × MayReadFor c.args.self.now (g.C.Clock.stamps c.args.clock.now) c.args.at) (λ both. both.0) (outcome_of_result c.number_in.result) c.args.self.now.hub c.step.new.self.hub
    (linked_reads g.St.Store.told g.St.Store.lasts g.St.Store.stands (outcome_of_result c.number_in.result) c.args.self.now.hub c.step.new.self.hub
    (number_reads g.St.Store.told g.St.Store.lasts g.St.Store.stands c.step.result _ c.args.self.now.hub c.step.new.self.hub c.number_in.ensures
    (draw_reads g.St.Store.told g.St.Store.lasts g.St.Store.stands g.R.Resolver.rules g.F.Refs.named _ c.step.result c.args.self.now.hub c.step.new.self.hub _ _ (c.step.ensures.made x.0 x.1))))
