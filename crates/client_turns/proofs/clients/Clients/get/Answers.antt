-- What the transaction of the client at a place has of an object.
use Rattle.std.proofs.Common.{◌∙◌, ap, subst}
use Rattle.std.specs.Prelude.{slice_get, slice_set}
use Rattle.client_turns.specs.Lines.{outcome_of_result}
use Rattle.client_turns.specs.OverQuestions.{ReadsLinked}
use Rattle.client_turns.specs.Standing.{MayBeThere, TakesMemberRead}
use Rattle.client_turns.proofs.Reading.{got_leads}
use Rattle.client_turns.proofs.Telling.{placed_reads}
use Rattle.client_turns.proofs.clients.Clients.get.Goals as goal

pub returns-clause-read : goal.returns-clause-read
returns-clause-read g c = λ told m stands may.
    got_leads m c.args.at c.args.oid c.get_at.result c.args.self.now _ _ _ stands may
    (λ x there.
    let y = c.get_at.ensures.read x (ap (λ s. slice_get s.clients c.args.at) c.self.view_is ∙ there) in (
      y.0,
      y.1 ∙ ap (λ s. slice_set s.clients c.args.at y.0) c.self.view_is,
      λ d takes.
          subst (λ s. TakesMemberRead g.St.Store.told c.args.oid c.get_at.result s.hub c.get_at.new.hub x y.0 (g.C.Clock.stamps c.args.clock.now) (g.C.Clock.stamps c.get_at.new.clock)) c.self.view_is y.2 told m c.args.at d takes,
    ))

pub returns-clause-hub : goal.returns-clause-hub
returns-clause-hub g c =
    placed_reads g.St.Store.told g.St.Store.lasts g.St.Store.stands (outcome_of_result c.get_at.result) c.args.self.now (g.C.Clock.stamps c.args.clock.now) c.get_at.new.hub c.args.at c.requires.place
    (λ x there.
    subst (λ s. ReadsLinked (g.St.Store.told × MayBeThere s.hub x) g.St.Store.lasts g.St.Store.stands (outcome_of_result c.get_at.result) s.hub c.get_at.new.hub) c.self.view_is
    (c.get_at.ensures.hub x (ap (λ s. slice_get s.clients c.args.at) c.self.view_is ∙ there)))
