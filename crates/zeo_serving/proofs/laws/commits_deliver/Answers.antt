use Rattle.zeo_serving.specs.CommitLaws.{commits_serve, commits_deliver}
use Rattle.zeo_serving.proofs.laws.commits_deliver.Goals as goal

pub returns-clause-commits : goal.returns-clause-commits
returns-clause-commits c = commits_serve

pub returns-clause-delivered : goal.returns-clause-delivered
returns-clause-delivered c = commits_deliver
