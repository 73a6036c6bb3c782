use Rattle.zodb_core.proofs.Lawful.{endings_sound, histories_sound, openings_sound, starts_sound, stay_databases, steps_sound}
use Rattle.zodb_core.proofs.laws.machines_stay_sound.Goals as goal

pub returns-clause-start : goal.returns-clause-start
returns-clause-start c = starts_sound

pub returns-clause-step : goal.returns-clause-step
returns-clause-step c = steps_sound

pub returns-clause-ending : goal.returns-clause-ending
returns-clause-ending c = endings_sound

pub returns-clause-opening : goal.returns-clause-opening
returns-clause-opening c = openings_sound

pub returns-clause-history : goal.returns-clause-history
returns-clause-history c = histories_sound

pub returns-clause-databases : goal.returns-clause-databases
returns-clause-databases c = stay_databases
