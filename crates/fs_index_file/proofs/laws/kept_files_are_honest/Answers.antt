use Rattle.fs_index_file.specs.HonestLaws.{closed_honest, kept_honest}
use Rattle.fs_index_file.specs.OrderLaws.{written_is_hint}
use Rattle.fs_index_file.proofs.laws.kept_files_are_honest.Goals as goal

pub returns-clause-kept : goal.returns-clause-kept
returns-clause-kept c = kept_honest

pub returns-clause-closed : goal.returns-clause-closed
returns-clause-closed c = closed_honest

pub returns-clause-believed : goal.returns-clause-believed
returns-clause-believed c = written_is_hint
