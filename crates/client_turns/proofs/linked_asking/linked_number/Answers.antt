use Rattle.std.proofs.Common.{rules, ap, refl, ◌∙◌}
use Rattle.client_turns.specs.declared.linked.LinkedClient.{LinkedClient}
use Rattle.client_turns.proofs.LinkEnds.{link_is}
use Rattle.std.proofs.Common.{false}
use Rattle.client_turns.proofs.LinkAsked.{number_takes_at}
use Rattle.client_turns.proofs.LinkReadHub.{number_hub_at}
use Rattle.client_turns.proofs.linked_asking.linked_number.Goals as goal

pub returns-clause-draw : goal.returns-clause-draw
returns-clause-draw g c =
    number_takes_at g.St.Store.told g.St.Store.lasts g.St.Store.stands g.R.Resolver.rules g.F.Refs.named c.args.client.now _ c.args.hub.now _ _ _ false c.number_over-number.new.remote.carrier.packs c.number_over-number.new.remote.carrier.trouble _ _
    (link_is _ _ _ _ _ _ _ _ _ _ _ _ _ _ (ap (λ k. k.hub.now) c.new-remote.ensures.carrier ∙ c.new-carrier.ensures.hub) (ap (λ k. g.C.Clock.stamps k.clock.now) c.new-remote.ensures.carrier ∙ ap g.C.Clock.stamps c.new-carrier.ensures.clock)
    (ap (λ k. k.packs) c.new-remote.ensures.carrier ∙ c.new-carrier.ensures.packs) (ap (λ k. k.trouble) c.new-remote.ensures.carrier ∙ c.new-carrier.ensures.trouble)
    (ap (λ k. k.session) c.new-remote.ensures.carrier ∙ c.new-carrier.ensures.session) (ap (λ k. k.desk.now) c.new-remote.ensures.carrier ∙ c.new-carrier.ensures.desk) c.new-remote.ensures.client)
    (link_is _ _ _ _ _ _ _ _ _ _ _ _ _ _ (search rules) (ap g.C.Clock.stamps (search rules)) refl refl (search rules) (search rules) (search rules)) (search rules) (search rules) (search rules)
    c.number_over-number.result c.settled_number.result c.number_over-number.ensures.number c.settled_number.ensures

pub returns-clause-hub : goal.returns-clause-hub
returns-clause-hub g c =
    number_hub_at
    g.St.Store.told g.St.Store.lasts g.St.Store.stands g.R.Resolver.rules g.F.Refs.named c.args.client.now
    (let y : LinkedClient = record { name = c.args.client.now.name; session = c.args.client.now.session; connection = c.args.client.now.connection; client = c.number_over-number.new.remote.client.now; desk = c.number_over-number.new.remote.carrier.desk.now } in y)
    c.args.hub.now _ _ (g.C.Clock.stamps c.number_over-number.new.remote.carrier.clock.now) c.number_over-number.new.remote.carrier.packs c.number_over-number.new.remote.carrier.trouble _ _
    (link_is _ _ _ _ _ _ _ _ _ _ _ _ _ _ (ap (λ k. k.hub.now) c.new-remote.ensures.carrier ∙ c.new-carrier.ensures.hub) (ap (λ k. g.C.Clock.stamps k.clock.now) c.new-remote.ensures.carrier ∙ ap g.C.Clock.stamps c.new-carrier.ensures.clock)
    (ap (λ k. k.packs) c.new-remote.ensures.carrier ∙ c.new-carrier.ensures.packs) (ap (λ k. k.trouble) c.new-remote.ensures.carrier ∙ c.new-carrier.ensures.trouble)
    (ap (λ k. k.session) c.new-remote.ensures.carrier ∙ c.new-carrier.ensures.session) (ap (λ k. k.desk.now) c.new-remote.ensures.carrier ∙ c.new-carrier.ensures.desk) c.new-remote.ensures.client)
    (link_is _ _ _ _ _ _ _ _ _ _ _ _ _ _ (search rules) refl refl refl (c.number_over-number.ensures.keeps.session ∙ (ap (λ k. k.session) c.new-remote.ensures.carrier ∙ c.new-carrier.ensures.session)) refl refl)
    c.number_over-number.result c.settled_number.result c.number_over-number.ensures.number c.settled_number.ensures c.number_over-number.ensures.keeps.later
