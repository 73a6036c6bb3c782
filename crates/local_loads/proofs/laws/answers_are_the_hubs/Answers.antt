use Rattle.local_loads.specs.AnswerLaws.{abort_outcome, finish_outcome, front_outcome, load_outcome, oid_outcome, vote_outcome}
use Rattle.local_loads.specs.RefusalLaws.{refused_by_server, server_refusal_is}
use Rattle.local_loads.proofs.laws.answers_are_the_hubs.Goals as goal

pub returns-clause-refusals : goal.returns-clause-refusals
returns-clause-refusals g c = λ n q why old new before after tells step.
    let is = refused_by_server _ _ _ _ _ n q why old new before after tells step in
    (is, server_refusal_is why is)

pub returns-clause-endings : goal.returns-clause-endings
returns-clause-endings g c = record { front = front_outcome; load = load_outcome; oid = oid_outcome; vote = vote_outcome; finish = finish_outcome; abort = abort_outcome }
