use Rattle.pack_reach.specs.KeepingLaws.{records_stand}
use Rattle.pack_reach.proofs.laws.packed_records_stand.Goals as goal

pub returns : goal.returns
returns c = records_stand
