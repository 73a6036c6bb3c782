use Rattle.fs_records.specs.Databases.{database_of}
use Rattle.fs_records.proofs.laws.list_is_a_database.Goals as goal

pub returns : goal.returns
returns c = database_of
