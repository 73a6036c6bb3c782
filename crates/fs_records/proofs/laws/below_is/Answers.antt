use Rattle.fs_records.specs.Below.{below_is}
use Rattle.fs_records.proofs.laws.below_is.Goals as goal

pub returns : goal.returns
returns c = below_is
