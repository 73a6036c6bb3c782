use Rattle.zeo_serving.specs.ServingLaws.{own_keep}
use Rattle.zeo_serving.specs.VoteLaws.{refusals_serve}
use Rattle.zeo_serving.proofs.laws.plain_steps_keep_clients.Goals as goal

pub returns-clause-plain : goal.returns-clause-plain
returns-clause-plain c = own_keep

pub returns-clause-refused : goal.returns-clause-refused
returns-clause-refused c = refusals_serve
