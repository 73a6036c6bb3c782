use Rattle.zodb_core.specs.HubState.{counts_of, rules_of}
use Rattle.host_tests.proofs.sessions.open_all.Given as goal

abbrev pub ghosts-open_from-J-ClockName : goal.ghosts-open_from-J-ClockName
ghosts-open_from-J-ClockName g a = record { table = a.opened }

abbrev pub ghosts-open_from-J-Origin : goal.ghosts-open_from-J-Origin
ghosts-open_from-J-Origin g a = record { rules = rules_of g.R.Resolver.rules g.F.Refs.named a.hub; list = a.hub.store.list; counts = counts_of a.hub.store; log = a.hub.store.log; broken = a.hub.store.broken }
