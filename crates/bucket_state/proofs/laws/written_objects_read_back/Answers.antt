-- Each link and each key reads back where it lies.
use Rattle.bucket_state.proofs.Apart.{written_inner}
use Rattle.bucket_state.proofs.laws.written_objects_read_back.Goals as goal

pub returns : goal.returns
returns c = written_inner
