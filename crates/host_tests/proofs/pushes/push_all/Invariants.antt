use Rattle.zodb_core.specs.HubState.{counts_of, rules_of}
use Rattle.host_tests.proofs.pushes.push_all.Given as goal

abbrev pub ghosts-push_from-J-ClockName : goal.ghosts-push_from-J-ClockName
ghosts-push_from-J-ClockName g a = record { table = a.opened }

abbrev pub ghosts-push_from-J-Origin : goal.ghosts-push_from-J-Origin
ghosts-push_from-J-Origin g a = record { rules = rules_of g.R.Resolver.rules g.F.Refs.named a.hub; list = a.hub.store.list; counts = counts_of a.hub.store; log = a.hub.store.log; broken = a.hub.store.broken }
