use Rattle.zeo_serving_links.proofs.Runs.{with_history}
use Rattle.zeo_serving_links.proofs.serving.serve_named.Goals as goal

pub returns-clause-served : goal.returns-clause-served
returns-clause-served g c =
    let behind = c.into_hub-hub.ensures in
    with_history g.St.Store.lasts g.St.Store.told g.St.Store.stands g.J.Origin.rules g.J.Origin.list g.J.Origin.counts g.J.Origin.log g.J.Origin.broken c.args.hub c.into_hub-hub.result.0
    c.run_links-seen.result.0 behind.0 c.args.count c.run_links-seen.result.1 _ _ c.requires.list c.requires.counts c.requires.log c.requires.broken behind.1 behind.2 behind.3 behind.4 behind.5
    c.run_links-seen.ensures.served
