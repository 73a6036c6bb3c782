use Rattle.std.proofs.Common.{rules, ap, refl, ◌∙◌}
use Rattle.client_turns.specs.declared.linked.LinkedClient.{LinkedClient}
use Rattle.client_turns.proofs.LinkEnds.{link_is}
use Rattle.client_turns.proofs.LinkLines.{linked_hub_at, linked_takes_at}
use Rattle.client_turns.proofs.linking.linked_line.Goals as goal

pub returns-clause-line : goal.returns-clause-line
returns-clause-line g c =
    linked_takes_at g.St.Store.told g.St.Store.lasts g.St.Store.stands g.R.Resolver.rules g.F.Refs.named c.args.client.now _ c.args.hub.now _ _ _ c.line_over-answer.new.remote.carrier.packs c.line_over-answer.new.remote.carrier.trouble _ _ _ c.line_over-answer.new.connection
    (link_is _ _ _ _ _ _ _ _ _ _ _ _ _ _ (ap (λ k. k.hub.now) c.new-remote.ensures.carrier ∙ c.new-carrier.ensures.hub) (ap (λ k. g.C.Clock.stamps k.clock.now) c.new-remote.ensures.carrier ∙ ap g.C.Clock.stamps c.new-carrier.ensures.clock)
    (ap (λ k. k.packs) c.new-remote.ensures.carrier ∙ c.new-carrier.ensures.packs) (ap (λ k. k.trouble) c.new-remote.ensures.carrier ∙ c.new-carrier.ensures.trouble)
    (ap (λ k. k.session) c.new-remote.ensures.carrier ∙ c.new-carrier.ensures.session) (ap (λ k. k.desk.now) c.new-remote.ensures.carrier ∙ c.new-carrier.ensures.desk) c.new-remote.ensures.client)
    (link_is _ _ _ _ _ _ _ _ _ _ _ _ _ _ (search rules) (ap g.C.Clock.stamps (search rules)) refl refl (search rules) (search rules) (search rules)) (search rules) (search rules) (search rules) (search rules)
    c.args.line.now c.line_over-answer.result c.settled.result c.line_over-answer.ensures.line c.settled.ensures

pub returns-clause-hub : goal.returns-clause-hub
returns-clause-hub g c =
    linked_hub_at g.St.Store.told g.St.Store.lasts g.St.Store.stands g.R.Resolver.rules g.F.Refs.named c.args.client.now
    (let y : LinkedClient = record { name = c.args.client.now.name; session = c.args.client.now.session; connection = c.line_over-answer.new.connection; client = c.line_over-answer.new.remote.client.now; desk = c.line_over-answer.new.remote.carrier.desk.now } in y)
    c.args.hub.now _ _ (g.C.Clock.stamps c.line_over-answer.new.remote.carrier.clock.now) c.line_over-answer.new.remote.carrier.packs c.line_over-answer.new.remote.carrier.trouble _ _ _ c.line_over-answer.new.connection
    (link_is _ _ _ _ _ _ _ _ _ _ _ _ _ _ (ap (λ k. k.hub.now) c.new-remote.ensures.carrier ∙ c.new-carrier.ensures.hub) (ap (λ k. g.C.Clock.stamps k.clock.now) c.new-remote.ensures.carrier ∙ ap g.C.Clock.stamps c.new-carrier.ensures.clock)
    (ap (λ k. k.packs) c.new-remote.ensures.carrier ∙ c.new-carrier.ensures.packs) (ap (λ k. k.trouble) c.new-remote.ensures.carrier ∙ c.new-carrier.ensures.trouble)
    (ap (λ k. k.session) c.new-remote.ensures.carrier ∙ c.new-carrier.ensures.session) (ap (λ k. k.desk.now) c.new-remote.ensures.carrier ∙ c.new-carrier.ensures.desk) c.new-remote.ensures.client)
    (link_is _ _ _ _ _ _ _ _ _ _ _ _ _ _ (search rules) refl refl refl (c.line_over-answer.ensures.keeps.session ∙ (ap (λ k. k.session) c.new-remote.ensures.carrier ∙ c.new-carrier.ensures.session)) refl refl) (search rules) refl
    c.args.line.now c.line_over-answer.result c.settled.result c.line_over-answer.ensures.line c.settled.ensures c.line_over-answer.ensures.keeps.later
