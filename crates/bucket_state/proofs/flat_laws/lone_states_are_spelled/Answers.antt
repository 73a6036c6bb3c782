-- The tuple of items, in tuples of its own.
use Rattle.bucket_state.proofs.LoneSpelled.{lone_is_spelled, lone_few}
use Rattle.bucket_state.proofs.flat_laws.lone_states_are_spelled.Goals as goal

pub returns-clause-spelled : goal.returns-clause-spelled
returns-clause-spelled c = lone_is_spelled c.written_pickles_read_back.ensures

pub returns-clause-few : goal.returns-clause-few
returns-clause-few c = lone_few c.written_pickles_read_back.ensures
