use Rattle.zeo_serving.specs.FrontLaws.{fronts_deliver}
use Rattle.zeo_serving.proofs.laws.fronts_deliver.Goals as goal

pub returns : goal.returns
returns c = fronts_deliver
