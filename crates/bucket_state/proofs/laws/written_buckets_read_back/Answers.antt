-- What is written of a bucket reads back as it.
use Rattle.bucket_state.proofs.Back.{bucket_back}
use Rattle.bucket_state.proofs.laws.written_buckets_read_back.Goals as goal

pub returns : goal.returns
returns c = bucket_back c.written_pickles_read_back.ensures
