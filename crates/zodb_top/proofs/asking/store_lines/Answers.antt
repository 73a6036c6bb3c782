use Rattle.std.proofs.Common.{ap, rules, ◌∙◌}
use Rattle.zodb_core.specs.HubState.{counts_of}
use Rattle.zodb_core.specs.Machine.{machine_over}
use Rattle.zodb_top.proofs.Asks.{store_kept}
use Rattle.zodb_top.proofs.asking.store_lines.Goals as goal

pub returns-clause-lines : goal.returns-clause-lines
returns-clause-lines g c = λ told.
    c.hub_lines-lines.ensures.lines told (machine_over (g.St.Store.state c.args.store).list) (c.new-hub.ensures.stands told) (ap (λ s. s.broken) c.new-hub.ensures.store ∙ c.requires.whole)

pub returns-clause-leaves : goal.returns-clause-leaves
returns-clause-leaves g c =
    let asks = c.hub_lines-lines.ensures.asks in
    record {
      keeps = λ told.
          store_kept (g.St.Store.state c.args.store) (g.St.Store.state c.into_store.result) c.new-hub.result c.hub_lines-lines.new.hub _ _ c.new-hub.ensures.store c.into_store.ensures
          (asks.keeps told (machine_over (g.St.Store.state c.args.store).list) (c.new-hub.ensures.stands told) (ap (λ s. s.broken) c.new-hub.ensures.store ∙ c.requires.whole));
      images = λ lasts whole. g.met.St.Store.lasting c.into_store.result lasts whole;
      others = ap (λ s. s.faults) c.into_store.ensures ∙ asks.others ∙ ap (λ s. s.faults) c.new-hub.ensures.store;
      later = search rules;
    }

pub returns-clause-calm : goal.returns-clause-calm
returns-clause-calm g c = λ other. ap counts_of c.into_store.ensures ∙ c.hub_lines-lines.ensures.asks.calm other ∙ ap counts_of c.new-hub.ensures.store
