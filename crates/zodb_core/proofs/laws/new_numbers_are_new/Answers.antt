use Rattle.zodb_core.proofs.Lawful.{greatest_never, numbers_are_new, numbers_behind}
use Rattle.zodb_core.proofs.laws.new_numbers_are_new.Goals as goal

pub returns-clause-greatest : goal.returns-clause-greatest
returns-clause-greatest c = greatest_never

pub returns-clause-behind : goal.returns-clause-behind
returns-clause-behind c = numbers_behind

pub returns-clause-new : goal.returns-clause-new
returns-clause-new c = numbers_are_new
