use Rattle.zodb_core.specs.HubState.{rules_of}
use Rattle.zeo_serving_links.proofs.Runs.{all_served, no_memory, not_bound}
use Rattle.zeo_serving_links.proofs.serving.serve.Goals as goal

pub returns-then-is_err-clause-served : goal.returns-then-is_err-clause-served
returns-then-is_err-clause-served g c =
    not_bound g.St.Store.lasts g.St.Store.told g.St.Store.stands (rules_of g.R.Resolver.rules g.F.Refs.named c.args.hub) c.bind.result c.args.port c.args.count c.args.hub
    (g.D.Doors.told c.args.doors.now) (g.D.Doors.told c.bind.new.self) (g.D.Doors.faults c.args.doors.now) (g.D.Doors.faults c.bind.new.self) (g.P.Spawner.faults c.args.spawner.now)
    c.lasting.ensures.lasting c.requires.stands c.if-is_err.ensures.value c.bind.ensures.kept c.bind.ensures.cause

pub returns-in_default-clause-served : goal.returns-in_default-clause-served
returns-in_default-clause-served g c =
    no_memory g.St.Store.lasts g.St.Store.told g.St.Store.stands (rules_of g.R.Resolver.rules g.F.Refs.named c.args.hub) c.bind.result c.args.port c.args.count c.args.hub
    (g.D.Doors.told c.args.doors.now) (g.D.Doors.told c.bind.new.self) (g.D.Doors.faults c.args.doors.now) (g.D.Doors.faults c.bind.new.self) (g.P.Spawner.faults c.args.spawner.now)
    c.lasting.ensures.lasting c.requires.stands c.if-is_err.ensures.value c.bind.ensures.bound

pub returns-clause-served : goal.returns-clause-served
returns-clause-served g c =
    all_served g.St.Store.lasts g.St.Store.told g.St.Store.stands (rules_of g.R.Resolver.rules g.F.Refs.named c.args.hub) c.bind.result c.args.port c.args.count c.args.hub
    c.serve_named-hub.result.0 c.serve_named-hub.result.2 (g.D.Doors.told c.args.doors.now) (g.D.Doors.told c.bind.new.self) (g.D.Doors.told c.serve_named-hub.new.doors)
    (g.D.Doors.faults c.args.doors.now) (g.D.Doors.faults c.bind.new.self) (g.D.Doors.faults c.serve_named-hub.new.doors) (g.P.Spawner.faults c.args.spawner.now)
    (g.P.Spawner.faults c.serve_named-hub.new.spawner) c.if-is_err.ensures.value c.bind.ensures.bound c.bind.ensures.cause c.serve_named-hub.ensures.served
