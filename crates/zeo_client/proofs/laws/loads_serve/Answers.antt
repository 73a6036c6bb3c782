use Rattle.zeo_client.specs.SyncLaws.{loads_serve}
use Rattle.zeo_client.proofs.laws.loads_serve.Goals as goal

pub returns : goal.returns
returns c = loads_serve
