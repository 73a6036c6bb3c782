use Rattle.zeo_serving.specs.ServingLaws.{entries_are_answers}
use Rattle.zeo_serving.proofs.laws.entries_are_answers.Goals as goal

pub returns : goal.returns
returns c = entries_are_answers
