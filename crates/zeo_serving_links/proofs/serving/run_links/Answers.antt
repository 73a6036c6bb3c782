use Rattle.std.proofs.Common.{rules, ◌≡◌, [], map, arith}
use Rattle.zeo_serving_links.specs.Links.{opening_of}
use Rattle.zeo_serving_links.proofs.Runs.{has_run}
use Rattle.zeo_serving_links.proofs.serving.run_links.Goals as goal

pub returns-clause-served : goal.returns-clause-served
returns-clause-served g c =
    let later = c.run-feeder.ensures.later in
    let none : map (λ one. opening_of g.D.In.Source.left one.value) c.new.result.items ≡ [] = search rules in
    let all = c.run-feeder.ensures.all in
    let has = has_run g.St.Store.told g.J.Origin.rules g.J.Origin.list g.J.Origin.counts c.args.count c.args.seen c.in-Some.seen c.run-feeder.result.0.seen
    (map (λ one. opening_of g.D.In.Source.left one.value) c.new.result.items) (map (λ one. opening_of g.D.In.Source.left one.value) c.run-feeder.result.0.given.items)
    c.run-feeder.result.0.opened c.run-feeder.result.0.faulty c.run-feeder.result.0.stop (g.D.Doors.told c.args.doors.now) (g.D.Doors.told c.run-feeder.result.0.doors.now)
    (g.D.Doors.faults c.args.doors.now) (g.D.Doors.faults c.run-feeder.result.0.doors.now) (g.P.Spawner.faults c.args.spawner.now) (g.P.Spawner.faults c.run-feeder.new.self)
    c.end_of-end.result c.is_ok.result c.run-feeder.result.1 later.1.1 none c.in-Some.is c.ranges.count.fits c.end_of-end.ensures c.is_ok.ensures.value c.run-feeder.ensures.ended all
    c.run-feeder.ensures.cause in
    search (rules, has)

pub returns-clause-doors_counted : goal.returns-clause-doors_counted
returns-clause-doors_counted g c =
    let counted = c.run-feeder.ensures.later.1.1.faults in
    search (rules, counted)
