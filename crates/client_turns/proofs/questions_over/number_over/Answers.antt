use Rattle.std.proofs.Common.{ap}
use Rattle.client_turns.proofs.questions_over.number_over.Goals as goal

pub returns-clause-number : goal.returns-clause-number
returns-clause-number g c = record { stands = c.new_oid.ensures.same; makes = c.new_oid.ensures.makes.3 }

pub returns-clause-keeps : goal.returns-clause-keeps
returns-clause-keeps g c = record {
  client_place = ap (λ p. p.0) c.new_oid.ensures.place;
  session = ap (λ p. p.2) c.new_oid.ensures.place;
  inner_place = ap (λ p. p.1) c.new_oid.ensures.place;
  later = c.new_oid.ensures.makes.2;
}
