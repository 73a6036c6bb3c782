use Rattle.std.proofs.Common.{ap}
use Rattle.client_turns.proofs.OverCalls.{plain_later, plain_line}
use Rattle.client_turns.proofs.over.plain_over.Goals as goal

pub returns-clause-line : goal.returns-clause-line
returns-clause-line g c =
    plain_line (λ s. s.carrier) (λ s. s.client.now) g.W.Carrier.faults g.W.Carrier.closed g.W.Carrier.told g.W.Carrier.end g.W.Carrier.desk g.W.Carrier.session g.W.Carrier.machine g.W.Carrier.steps g.W.Carrier.later
    c.args.connection.now c.call_line.new.connection c.args.remote.now c.call_line.new.loads c.args.line.now c.call_line.result c.requires.plain c.call_line.ensures.calls

pub returns-clause-keeps : goal.returns-clause-keeps
returns-clause-keeps g c = record {
  client_place = ap (λ p. p.0) c.call_line.ensures.place;
  session = ap (λ p. p.2) c.call_line.ensures.place;
  inner_place = ap (λ p. p.1) c.call_line.ensures.place;
  later = plain_later (λ s. s.carrier) (λ s. s.client.now) g.W.Carrier.faults g.W.Carrier.closed g.W.Carrier.told g.W.Carrier.end g.W.Carrier.desk g.W.Carrier.session g.W.Carrier.machine g.W.Carrier.steps g.W.Carrier.later
      (λ w. g.met.W.Carrier.at_once w) c.args.remote.now c.call_line.new.loads c.args.connection.now c.call_line.new.connection c.args.line.now c.call_line.result c.requires.plain c.call_line.ensures.calls;
}
