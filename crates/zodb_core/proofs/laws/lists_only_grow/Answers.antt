use Rattle.zodb_core.proofs.Lawful.{histories_grow, histories_come, lists_grow, newest_rises, records_stood, states_stay, steps_become, steps_mark}
use Rattle.zodb_core.proofs.laws.lists_only_grow.Goals as goal

pub returns-clause-step : goal.returns-clause-step
returns-clause-step c = steps_become

pub returns-clause-marked : goal.returns-clause-marked
returns-clause-marked c = steps_mark

pub returns-clause-unpacked : goal.returns-clause-unpacked
returns-clause-unpacked c = lists_grow

pub returns-clause-histories : goal.returns-clause-histories
returns-clause-histories c = histories_come

pub returns-clause-growing : goal.returns-clause-growing
returns-clause-growing c = histories_grow

pub returns-clause-newest : goal.returns-clause-newest
returns-clause-newest c = newest_rises

pub returns-clause-states : goal.returns-clause-states
returns-clause-states c = states_stay

pub returns-clause-records : goal.returns-clause-records
returns-clause-records c = records_stood
