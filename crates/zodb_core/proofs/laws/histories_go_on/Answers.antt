use Rattle.zodb_core.specs.Entries.{counts_more, legal_more, machine_more, steps_are_entries}
use Rattle.zodb_core.proofs.laws.histories_go_on.Goals as goal

pub returns-clause-state : goal.returns-clause-state
returns-clause-state c = machine_more

pub returns-clause-counts : goal.returns-clause-counts
returns-clause-counts c = counts_more

pub returns-clause-legal : goal.returns-clause-legal
returns-clause-legal c = legal_more

pub returns-clause-entry : goal.returns-clause-entry
returns-clause-entry c = steps_are_entries
