use Rattle.client_turns.proofs.Lawful.{numbers_new}
use Rattle.client_turns.proofs.laws.new_numbers_are_new.Goals as goal

pub returns : goal.returns
returns c = numbers_new
