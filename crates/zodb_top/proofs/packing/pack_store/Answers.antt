use Rattle.std.proofs.Common.{ap, sym, subst, ◌∙◌}
use Rattle.zb_model.specs.Stores.{StoreState}
use Rattle.zb_volume.specs.declared.areas.Area.TheVariants.{Main}
use Rattle.zb_volume.specs.Moments.{Leaves, LeavesOnly}
use Rattle.zodb_core.specs.HubState.{StandsForMachine}
use Rattle.zodb_core.specs.Machine.{machine_over}
use Rattle.zodb_top.specs.PackStores.{IsStorePacked}
use Rattle.zodb_top.specs.Packs.{IsListOrPacked}
use Rattle.zodb_top.proofs.Packs.{counts_store}
use Rattle.zodb_top.proofs.packing.pack_store.Goals as goal

pub returns-clause-step : goal.returns-clause-step
returns-clause-step g c = λ told.
    let St = g.St.Store in
    subst (λ (s : StoreState). IsStorePacked c.args.pack c.pack_hub-reply.result s (St.state c.into_store.result) (g.C.Clock.stamps c.args.clock.now) (g.C.Clock.stamps c.pack_hub-reply.new.clock)) c.new-hub.ensures.store
    (subst (λ (s : StoreState). IsStorePacked c.args.pack c.pack_hub-reply.result c.new-hub.result.store s (g.C.Clock.stamps c.args.clock.now) (g.C.Clock.stamps c.pack_hub-reply.new.clock)) (sym c.into_store.ensures)
    (c.pack_hub-reply.ensures.step told (subst (λ (s : StoreState). StandsForMachine c.new-hub.result (machine_over s.list)) (sym c.new-hub.ensures.store) (c.new-hub.ensures.stands told))))

pub returns-clause-moments : goal.returns-clause-moments
returns-clause-moments g c = λ lasts told.
    let St = g.St.Store in
    subst (λ (s : StoreState). LeavesOnly Main (IsListOrPacked St.stands c.args.pack s.list) s.log (St.state c.into_store.result).log) c.new-hub.ensures.store
    (subst (λ (s : StoreState). LeavesOnly Main (IsListOrPacked St.stands c.args.pack c.new-hub.result.store.list) c.new-hub.result.store.log s.log) (sym c.into_store.ensures)
    (c.pack_hub-reply.ensures.moments lasts told (subst (λ (s : StoreState). StandsForMachine c.new-hub.result (machine_over s.list)) (sym c.new-hub.ensures.store) (c.new-hub.ensures.stands told))
    (subst (λ (s : StoreState). Leaves Main (λ bytes. St.stands bytes s.list) s.log) (sym c.new-hub.ensures.store) (g.met.St.Store.lasting c.args.store lasts c.requires.whole))))

pub returns-clause-images : goal.returns-clause-images
returns-clause-images g c = λ lasts whole. g.met.St.Store.lasting c.into_store.result lasts whole

pub returns-clause-counts : goal.returns-clause-counts
returns-clause-counts g c =
    let counts = c.pack_hub-reply.ensures.counts in
    counts_store c.new-hub.result.store c.pack_hub-reply.new.hub.store c.pack_hub-reply.result _ _ c.new-hub.ensures.store c.into_store.ensures counts
