use Rattle.std.proofs.Common.{ap}
use Rattle.connection_view.specs.Connections.{changeable, followed_by, unmixed, work_of}
use Rattle.client_turns.proofs.OverReads.{undo_called, undo_later}
use Rattle.client_turns.proofs.reads_over.undo_over.Goals as goal

pub returns-clause-line : goal.returns-clause-line
returns-clause-line g c =
    undo_called (λ s. s.carrier) (λ s. s.client.now) g.W.Carrier.faults g.W.Carrier.closed g.W.Carrier.told g.W.Carrier.end g.W.Carrier.desk g.W.Carrier.session g.W.Carrier.machine g.W.Carrier.steps g.W.Carrier.later c.args.connection.now c.undo.new.self c.args.remote.now c.undo.new.loads c.args.user.now c.args.description.now c.args.tids.now c.undo.result c.undo.ensures.voted c.undo.ensures.err c.undo.ensures.view c.undo.ensures.refused c.undo.ensures.makes
    c.heard_of.result c.heard_of.ensures c.answered.result c.answered.ensures

pub returns-clause-keeps : goal.returns-clause-keeps
returns-clause-keeps g c = record {
  client_place = ap (λ p. p.0) c.undo.ensures.place;
  session = ap (λ p. p.2) c.undo.ensures.place;
  inner_place = ap (λ p. p.1) c.undo.ensures.place;
  later = undo_later (λ s. s.carrier) (λ s. s.client.now) g.W.Carrier.faults g.W.Carrier.closed g.W.Carrier.told g.W.Carrier.end g.W.Carrier.desk g.W.Carrier.session g.W.Carrier.machine g.W.Carrier.steps g.W.Carrier.later (λ w. g.met.W.Carrier.at_once w) c.args.remote.now c.undo.new.loads c.args.connection.now c.undo.new.self c.args.user.now c.args.description.now c.args.tids.now c.undo.result (followed_by (changeable (work_of c.args.connection.now)) unmixed) c.undo.ensures.refused c.undo.ensures.makes;
}
