use Rattle.std.proofs.Common.{ap, rules, sym, subst, ◌≡◌, ◌∙◌}
use Rattle.zb_model.specs.Stores.{StoreState}
use Rattle.zb_volume.specs.declared.areas.Area.TheVariants.{Main}
use Rattle.zb_volume.specs.Moments.{Leaves}
use Rattle.zodb_core.specs.HubState.{StandsForMachine}
use Rattle.zodb_core.specs.Machine.{machine_over}
use Rattle.zodb_top.proofs.Serves.{links_served}
use Rattle.zodb_top.proofs.serving.serve_store.Goals as goal

pub serve-hub-requires-clause-stands : goal.serve-hub-requires-clause-stands
serve-hub-requires-clause-stands g c = λ κs within told. subst (λ (s : StoreState). StandsForMachine c.new-hub.result (machine_over s.list)) (sym c.new-hub.ensures.store) (c.new-hub.ensures.stands told)

pub returns-clause-serves : goal.returns-clause-serves
returns-clause-serves g c =
    let many : c.from-count.result ≡ c.args.request.count = search rules in
    links_served g.St.Store.told g.St.Store.lasts g.St.Store.stands c.args.request c.serve-hub.result.1 c.from-count.result c.new-hub.result c.serve-hub.result.0 (g.St.Store.state c.args.store) (g.St.Store.state c.into_store.result)
    _ _ c.new-hub.ensures.store c.into_store.ensures c.requires.whole many c.serve-hub.ensures.served

pub returns-clause-failed : goal.returns-clause-failed
returns-clause-failed g c = c.has_failed-failed.ensures.value ∙ sym (ap (λ (s : StoreState). s.broken) c.into_store.ensures)

pub returns-clause-images : goal.returns-clause-images
returns-clause-images g c = λ lasts whole.
    subst (λ (s : StoreState). Leaves Main (λ bytes. g.St.Store.stands bytes s.list) s.log) (sym c.into_store.ensures)
    (c.has_failed-failed.ensures.lasting lasts (c.has_failed-failed.ensures.value ∙ sym (ap (λ (s : StoreState). s.broken) c.into_store.ensures) ∙ whole))
