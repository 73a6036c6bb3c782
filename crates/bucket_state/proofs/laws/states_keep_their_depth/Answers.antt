-- How deep states are.
use Rattle.bucket_state.proofs.Depths.{written_shallow, written_leaf_shallow}
use Rattle.bucket_state.proofs.Shallow.{read_shallow, read_leaf_shallow}
use Rattle.bucket_state.proofs.laws.states_keep_their_depth.Goals as goal

pub returns-clause-read : goal.returns-clause-read
returns-clause-read c = read_shallow c.written_pickles_read_back.ensures

pub returns-clause-read_leaf : goal.returns-clause-read_leaf
returns-clause-read_leaf c = read_leaf_shallow c.written_pickles_read_back.ensures

pub returns-clause-written : goal.returns-clause-written
returns-clause-written c = written_shallow c.written_pickles_read_back.ensures

pub returns-clause-written_leaf : goal.returns-clause-written_leaf
returns-clause-written_leaf c = written_leaf_shallow c.written_pickles_read_back.ensures
