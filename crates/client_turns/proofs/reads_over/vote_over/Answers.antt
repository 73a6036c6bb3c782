use Rattle.std.proofs.Common.{ap}
use Rattle.connection_view.specs.Connections.{changeable, work_of}
use Rattle.client_turns.proofs.OverReads.{vote_called, vote_later}
use Rattle.client_turns.proofs.reads_over.vote_over.Goals as goal

pub returns-clause-line : goal.returns-clause-line
returns-clause-line g c =
    vote_called (λ s. s.carrier) (λ s. s.client.now) g.W.Carrier.faults g.W.Carrier.closed g.W.Carrier.told g.W.Carrier.end g.W.Carrier.desk g.W.Carrier.session g.W.Carrier.machine g.W.Carrier.steps g.W.Carrier.later c.args.connection.now c.vote.new.self c.args.remote.now c.vote.new.loads c.args.user.now c.args.description.now c.vote.result c.vote.ensures.voted c.vote.ensures.err c.vote.ensures.view c.vote.ensures.refused c.vote.ensures.makes
    c.heard_of.result c.heard_of.ensures c.answered.result c.answered.ensures

pub returns-clause-keeps : goal.returns-clause-keeps
returns-clause-keeps g c = record {
  client_place = ap (λ p. p.0) c.vote.ensures.place;
  session = ap (λ p. p.2) c.vote.ensures.place;
  inner_place = ap (λ p. p.1) c.vote.ensures.place;
  later = vote_later (λ s. s.carrier) (λ s. s.client.now) g.W.Carrier.faults g.W.Carrier.closed g.W.Carrier.told g.W.Carrier.end g.W.Carrier.desk g.W.Carrier.session g.W.Carrier.machine g.W.Carrier.steps g.W.Carrier.later (λ w. g.met.W.Carrier.at_once w) c.args.remote.now c.vote.new.loads c.args.connection.now c.vote.new.self c.args.user.now c.args.description.now c.vote.result (changeable (work_of c.args.connection.now)) c.vote.ensures.refused c.vote.ensures.makes;
}
