use Rattle.zeo_serving.specs.ServingLaws.{answers_are_kept}
use Rattle.zeo_serving.proofs.laws.answers_are_kept.Goals as goal

pub returns : goal.returns
returns c = answers_are_kept
