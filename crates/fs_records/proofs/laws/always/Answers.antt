use Rattle.fs_records.specs.Lists.{always}
use Rattle.fs_records.proofs.laws.always.Goals as goal

pub returns : goal.returns
returns c = always
