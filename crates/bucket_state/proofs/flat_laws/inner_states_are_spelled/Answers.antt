-- Each separator and each link stands apart.
use Rattle.bucket_state.proofs.InnerSpelled.{inner_spelled, inner_few}
use Rattle.bucket_state.proofs.flat_laws.inner_states_are_spelled.Goals as goal

pub returns-clause-spelled : goal.returns-clause-spelled
returns-clause-spelled c = inner_spelled

pub returns-clause-few : goal.returns-clause-few
returns-clause-few c = inner_few
