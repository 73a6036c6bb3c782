use Rattle.client_turns.proofs.Lawful.{list_stays}
use Rattle.client_turns.proofs.laws.the_list_stays_a_database.Goals as goal

pub returns : goal.returns
returns c = list_stays
