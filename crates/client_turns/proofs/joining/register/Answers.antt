-- A registering, over a carrier to the hub.
use Rattle.std.proofs.Common.{rules, ap, refl, ◌∙◌}
use Rattle.hub_carrier.specs.LaterLaws.{end_is, later_is}
use Rattle.hub_carrier.specs.Ends.{StepsThere, machine_at}
use Rattle.client_turns.proofs.Joinings.{register_is}
use Rattle.client_turns.proofs.joining.register.Goals as goal

pub returns : goal.returns
returns g c = record {
  joined = record {
    raw = c.register-registered.result;
    wrong = c.register-registered.new.self.carrier.trouble;
    later = later_is g.St.Store.lasts _ _ _ _
        (end_is _ _ _ _ _ _ _ _ (ap (λ k. k.hub.now) c.new-remote.ensures.carrier ∙ c.new-carrier.ensures.hub) (ap (λ k. g.C.Clock.stamps k.clock.now) c.new-remote.ensures.carrier ∙ ap g.C.Clock.stamps c.new-carrier.ensures.clock)
        (ap (λ k. k.packs) c.new-remote.ensures.carrier ∙ c.new-carrier.ensures.packs) (ap (λ k. k.trouble) c.new-remote.ensures.carrier ∙ c.new-carrier.ensures.trouble))
        (end_is _ _ _ _ _ _ _ _ (search rules) (ap g.C.Clock.stamps (search rules)) (c.register-registered.ensures.way.keeps.later.packs ∙ (ap (λ k. k.packs) c.new-remote.ensures.carrier ∙ c.new-carrier.ensures.packs)) refl)
        c.register-registered.ensures.way.keeps.later;
    answer = c.joined_as.ensures;
    exact = λ told.
        register_is (λ n q r s t. StepsThere g.St.Store.told g.St.Store.lasts g.St.Store.stands g.R.Resolver.rules g.F.Refs.named n q r s t) (λ e. machine_at e.hub) _ _ _ _ _ _ _ _ _ _ _ _ _ _ c.register-registered.result
        (ap (λ k. k.session) c.new-remote.ensures.carrier ∙ c.new-carrier.ensures.session)
        (end_is _ _ _ _ _ _ _ _ (ap (λ k. k.hub.now) c.new-remote.ensures.carrier ∙ c.new-carrier.ensures.hub) (ap (λ k. g.C.Clock.stamps k.clock.now) c.new-remote.ensures.carrier ∙ ap g.C.Clock.stamps c.new-carrier.ensures.clock)
        (ap (λ k. k.packs) c.new-remote.ensures.carrier ∙ c.new-carrier.ensures.packs) (ap (λ k. k.trouble) c.new-remote.ensures.carrier ∙ c.new-carrier.ensures.trouble))
        (end_is _ _ _ _ _ _ _ _ (search rules) (ap g.C.Clock.stamps (search rules)) (c.register-registered.ensures.way.keeps.later.packs ∙ (ap (λ k. k.packs) c.new-remote.ensures.carrier ∙ c.new-carrier.ensures.packs)) refl)
        (ap (λ k. k.desk.now) c.new-remote.ensures.carrier ∙ c.new-carrier.ensures.desk) (search rules) c.new-remote.ensures.client (search rules)
        (c.register-registered.ensures.exact told);
  };
}
