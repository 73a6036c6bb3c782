use Rattle.fs_records.proofs.Lasts.{stands_is}
use Rattle.fs_records.proofs.laws.stands_where_a_record_was_read.Goals as goal

pub returns : goal.returns
returns c = stands_is
