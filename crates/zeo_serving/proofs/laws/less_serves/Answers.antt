use Rattle.zeo_serving.specs.VoteLaws.{less_serves}
use Rattle.zeo_serving.proofs.laws.less_serves.Goals as goal

pub returns : goal.returns
returns c = less_serves
