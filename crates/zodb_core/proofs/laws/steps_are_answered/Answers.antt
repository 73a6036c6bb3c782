use Rattle.zodb_core.proofs.Lawful.{all_answered}
use Rattle.zodb_core.proofs.laws.steps_are_answered.Goals as goal

pub returns : goal.returns
returns c = all_answered
