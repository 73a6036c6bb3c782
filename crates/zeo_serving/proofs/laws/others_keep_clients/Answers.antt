use Rattle.zeo_serving.specs.ServingLaws.{others_keep}
use Rattle.zeo_serving.proofs.laws.others_keep_clients.Goals as goal

pub returns : goal.returns
returns c = others_keep
