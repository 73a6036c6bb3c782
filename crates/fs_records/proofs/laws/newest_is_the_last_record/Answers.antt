use Rattle.fs_records.proofs.Lasts.{newest_is}
use Rattle.fs_records.proofs.laws.newest_is_the_last_record.Goals as goal

pub returns : goal.returns
returns c = newest_is
