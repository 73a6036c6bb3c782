use Rattle.fs_index_file.specs.ReadBack.{entries_again}
use Rattle.fs_index_file.proofs.laws.written_files_are_read.Goals as goal

pub returns : goal.returns
returns c = entries_again
