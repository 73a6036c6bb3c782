use Rattle.fs_records.specs.Databases.{reading_of}
use Rattle.fs_records.specs.Revisions.{revises_of}
use Rattle.fs_records.proofs.laws.records_are_revisions.Goals as goal

pub returns-clause-records : goal.returns-clause-records
returns-clause-records c = λ bytes s cut oid front stands. revises_of bytes s stands.begins oid front

pub returns-clause-transactions : goal.returns-clause-transactions
returns-clause-transactions c = λ bytes s cut stands. (reading_of bytes s stands.begins).starts
