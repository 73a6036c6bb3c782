use Rattle.zeo_serving.specs.VoteLaws.{votes_serve, undos_serve, votes_end}
use Rattle.zeo_serving.proofs.laws.votes_serve_clients.Goals as goal

pub returns-clause-votes : goal.returns-clause-votes
returns-clause-votes c = votes_serve

pub returns-clause-undos : goal.returns-clause-undos
returns-clause-undos c = undos_serve

pub returns-clause-ended : goal.returns-clause-ended
returns-clause-ended c = votes_end
