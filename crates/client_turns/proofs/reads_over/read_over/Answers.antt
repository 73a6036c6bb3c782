use Rattle.std.proofs.Common.{ap}
use Rattle.connection_view.specs.Connections.{work_of}
use Rattle.client_turns.proofs.OverReads.{got_called, got_later}
use Rattle.client_turns.proofs.reads_over.read_over.Goals as goal

pub returns-clause-got : goal.returns-clause-got
returns-clause-got g c =
    got_called (λ s. s.carrier) (λ s. s.client.now) g.W.Carrier.faults g.W.Carrier.closed g.W.Carrier.told g.W.Carrier.end g.W.Carrier.desk g.W.Carrier.session g.W.Carrier.machine g.W.Carrier.steps g.W.Carrier.later c.args.connection.now c.get.new.self c.args.remote.now c.get.new.loads c.args.oid c.get.result c.get.ensures.waiting c.get.ensures.reads c.get.ensures.view c.get.ensures.between c.get.ensures.stands c.get.ensures.refused c.get.ensures.makes c.get.ensures.work
    c.fitting.result c.fitting.ensures

pub returns-clause-keeps : goal.returns-clause-keeps
returns-clause-keeps g c = record {
  client_place = ap (λ p. p.0) c.get.ensures.place;
  session = ap (λ p. p.2) c.get.ensures.place;
  inner_place = ap (λ p. p.1) c.get.ensures.place;
  later = got_later (λ s. s.carrier) (λ s. s.client.now) g.W.Carrier.faults g.W.Carrier.closed g.W.Carrier.told g.W.Carrier.end g.W.Carrier.desk g.W.Carrier.session g.W.Carrier.machine g.W.Carrier.steps g.W.Carrier.later (λ w. g.met.W.Carrier.at_once w) c.args.remote.now c.get.new.loads (work_of c.args.connection.now) c.args.oid c.get.result c.get.ensures.waiting c.get.ensures.refused c.get.ensures.makes;
}
