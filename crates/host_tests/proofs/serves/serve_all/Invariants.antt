use Rattle.zodb_core.specs.HubState.{counts_of, rules_of}
use Rattle.host_tests.proofs.serves.serve_all.Given as goal

abbrev pub ghosts-serve_from-J-ClockName : goal.ghosts-serve_from-J-ClockName
ghosts-serve_from-J-ClockName g a = record { table = a.opened }

abbrev pub ghosts-serve_from-J-Origin : goal.ghosts-serve_from-J-Origin
ghosts-serve_from-J-Origin g a = record { rules = rules_of g.R.Resolver.rules g.F.Refs.named a.hub; list = a.hub.store.list; counts = counts_of a.hub.store; log = a.hub.store.log; broken = a.hub.store.broken }
