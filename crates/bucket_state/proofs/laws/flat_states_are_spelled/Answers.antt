-- By the leaves that values are.
use Rattle.bucket_state.proofs.FlatSpelled.{flat_stand, flat_shallow, flat_spelled, flat_few}
use Rattle.bucket_state.proofs.laws.flat_states_are_spelled.Goals as goal

pub returns-clause-stand : goal.returns-clause-stand
returns-clause-stand c = flat_stand

pub returns-clause-shallow : goal.returns-clause-shallow
returns-clause-shallow c = flat_shallow c.written_pickles_read_back.ensures

pub returns-clause-spelled : goal.returns-clause-spelled
returns-clause-spelled c = flat_spelled c.written_pickles_read_back.ensures

pub returns-clause-few : goal.returns-clause-few
returns-clause-few c = flat_few c.written_pickles_read_back.ensures
