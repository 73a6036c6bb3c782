use Rattle.std.proofs.Common.{ap}
use Rattle.connection_view.specs.Connections.{work_of}
use Rattle.client_turns.proofs.OverReads.{load_called, load_later}
use Rattle.client_turns.proofs.reads_over.load_over.Goals as goal

pub returns-clause-line : goal.returns-clause-line
returns-clause-line g c =
    load_called (λ s. s.carrier) (λ s. s.client.now) g.W.Carrier.faults g.W.Carrier.closed g.W.Carrier.told g.W.Carrier.end g.W.Carrier.desk g.W.Carrier.session g.W.Carrier.machine g.W.Carrier.steps g.W.Carrier.later c.args.connection.now c.load.new.self c.args.remote.now c.load.new.loads c.args.oid c.load.result c.load.ensures.reads c.load.ensures.view c.load.ensures.between c.load.ensures.stands c.load.ensures.refused c.load.ensures.makes c.load.ensures.work
    c.fitting.result c.fitting.ensures c.data_of.result c.data_of.ensures

pub returns-clause-keeps : goal.returns-clause-keeps
returns-clause-keeps g c = record {
  client_place = ap (λ p. p.0) c.load.ensures.place;
  session = ap (λ p. p.2) c.load.ensures.place;
  inner_place = ap (λ p. p.1) c.load.ensures.place;
  later = load_later (λ s. s.carrier) (λ s. s.client.now) g.W.Carrier.faults g.W.Carrier.closed g.W.Carrier.told g.W.Carrier.end g.W.Carrier.desk g.W.Carrier.session g.W.Carrier.machine g.W.Carrier.steps g.W.Carrier.later (λ w. g.met.W.Carrier.at_once w) c.args.remote.now c.load.new.loads (work_of c.args.connection.now) c.args.oid c.load.result c.load.ensures.refused c.load.ensures.makes;
}
