use Rattle.fs_records.specs.Lists.{one_list}
use Rattle.fs_records.specs.Unique as readings
use Rattle.fs_records.proofs.laws.one_list.Goals as goal

pub returns-clause-list : goal.returns-clause-list
returns-clause-list c = one_list

pub returns-clause-reading : goal.returns-clause-reading
returns-clause-reading c = readings.one_list
