use Rattle.zodb_core.specs.HubState.{counts_of, rules_of}
use Rattle.host_tests.proofs.votes.vote_all.Given as goal

abbrev pub ghosts-vote_from-J-ClockName : goal.ghosts-vote_from-J-ClockName
ghosts-vote_from-J-ClockName g a = record { table = a.opened }

abbrev pub ghosts-vote_from-J-Origin : goal.ghosts-vote_from-J-Origin
ghosts-vote_from-J-Origin g a = record { rules = rules_of g.R.Resolver.rules g.F.Refs.named a.hub; list = a.hub.store.list; counts = counts_of a.hub.store; log = a.hub.store.log; broken = a.hub.store.broken }
