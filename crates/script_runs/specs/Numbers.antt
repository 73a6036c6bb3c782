-- The numbers of the statuses. Own.
use Rattle.std.specs.Prelude.{ℕ}
use Rattle.script_runs.specs.declared.status.Status.{Status}
use Rattle.script_runs.specs.declared.status.Status.TheVariants.{Done, NoMemory, Usage, SourceFault, SinkFault, StoreFault, Damaged, NoWorkers, BadLine, Limit, NoLink, StepsSpent}

abbrev pub number_of : Status → ℕ
number_of Done = 0
number_of NoMemory = 1
number_of Usage = 2
number_of SourceFault = 3
number_of SinkFault = 4
number_of StoreFault = 5
number_of Damaged = 6
number_of NoWorkers = 7
number_of BadLine = 8
number_of Limit = 9
number_of NoLink = 10
number_of StepsSpent = 11
