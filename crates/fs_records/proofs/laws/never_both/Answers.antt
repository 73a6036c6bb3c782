use Rattle.fs_records.specs.Lists.{not_damaged, not_no_file, damaged_file}
use Rattle.fs_records.proofs.laws.never_both.Goals as goal

pub returns-clause-list_or_damaged : goal.returns-clause-list_or_damaged
returns-clause-list_or_damaged c = not_damaged

pub returns-clause-list_or_no_file : goal.returns-clause-list_or_no_file
returns-clause-list_or_no_file c = not_no_file

pub returns-clause-damaged_or_no_file : goal.returns-clause-damaged_or_no_file
returns-clause-damaged_or_no_file c = damaged_file
