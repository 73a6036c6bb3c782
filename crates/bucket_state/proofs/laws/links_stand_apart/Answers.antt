-- Items are read alike with a link and without one.
use Rattle.bucket_state.proofs.Apart.{links_apart}
use Rattle.bucket_state.proofs.laws.links_stand_apart.Goals as goal

pub returns : goal.returns
returns c = links_apart c.written_pickles_read_back.ensures
