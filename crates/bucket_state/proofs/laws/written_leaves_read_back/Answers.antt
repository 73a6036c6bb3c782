-- What is written of a tree of one leaf reads back as it.
use Rattle.bucket_state.proofs.Leaves.{leaf_back}
use Rattle.bucket_state.proofs.laws.written_leaves_read_back.Goals as goal

pub returns : goal.returns
returns c = leaf_back c.written_pickles_read_back.ensures
