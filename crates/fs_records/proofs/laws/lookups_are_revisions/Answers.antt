use Rattle.fs_records.specs.Lookups.{revision_read, serial_read, next_read}
use Rattle.fs_records.proofs.laws.lookups_are_revisions.Goals as goal

pub returns-clause-revision : goal.returns-clause-revision
returns-clause-revision c = revision_read

pub returns-clause-serial : goal.returns-clause-serial
returns-clause-serial c = serial_read

pub returns-clause-next : goal.returns-clause-next
returns-clause-next c = next_read
