use Rattle.std.proofs.Common.{rules, ap, refl}
use Rattle.client_turns.specs.declared.client.Client.{Client}
use Rattle.client_turns.proofs.Lined.{get_over, state_is}
use Rattle.client_turns.proofs.Framed.{got_framed, result_outcome}
use Rattle.client_turns.proofs.asking.get_of.Goals as goal

pub returns-clause-read : goal.returns-clause-read
returns-clause-read g c =
    get_over g.St.Store.told g.St.Store.lasts g.St.Store.stands g.R.Resolver.rules g.F.Refs.named c.args.client.now (let y : Client = record { name = c.args.client.now.name; session = c.args.client.now.session; told = c.get-got.new.loads.told; connection = c.get-got.new.self } in y) c.args.hub.now _ _ _
    (λ l. record { hub = l.hub.now; stamps = g.C.Clock.stamps l.clock.now; last = l.told }) (λ l. l.session) c.new-loads.result c.get-got.new.loads c.new-loads.ensures.session
    (state_is _ _ _ _ _ _ c.new-loads.ensures.hub (ap g.C.Clock.stamps c.new-loads.ensures.clock) c.new-loads.ensures.told)
    (state_is _ _ _ _ _ _ (search rules) (ap g.C.Clock.stamps (search rules)) refl) refl refl
    c.args.oid c.get-got.result c.get-got.ensures.waiting c.get-got.ensures.reads c.get-got.ensures.refused c.get-got.ensures.makes c.get-got.ensures.work c.get-got.ensures.view c.get-got.ensures.between

pub returns-clause-hub : goal.returns-clause-hub
returns-clause-hub g c =
    got_framed g.St.Store.told g.St.Store.lasts g.St.Store.stands g.R.Resolver.rules g.F.Refs.named c.args.hub.now _ c.args.client.now c.get-got.new.self
    (λ l. record { hub = l.hub.now; stamps = g.C.Clock.stamps l.clock.now; last = l.told }) (λ l. l.session) c.new-loads.result c.get-got.new.loads c.new-loads.ensures.hub (search rules)
    c.args.oid c.get-got.result c.get-got.ensures.waiting c.get-got.ensures.refused c.get-got.ensures.makes _ (result_outcome c.get-got.result)
