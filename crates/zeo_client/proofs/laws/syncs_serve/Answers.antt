use Rattle.zeo_client.specs.SyncLaws.{syncs_serve}
use Rattle.zeo_client.proofs.laws.syncs_serve.Goals as goal

pub returns : goal.returns
returns c = syncs_serve
