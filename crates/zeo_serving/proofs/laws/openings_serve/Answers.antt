use Rattle.zeo_serving.specs.ServingLaws.{opening_is_served}
use Rattle.zeo_serving.proofs.laws.openings_serve.Goals as goal

pub returns : goal.returns
returns c = opening_is_served
