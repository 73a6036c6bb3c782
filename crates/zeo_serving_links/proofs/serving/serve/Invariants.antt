use Rattle.zodb_core.specs.HubState.{counts_of, rules_of}
use Rattle.zeo_serving_links.proofs.serving.serve.Given as goal

abbrev pub ghosts-serve_named-J-ClockName : goal.ghosts-serve_named-J-ClockName
ghosts-serve_named-J-ClockName g a = record { table = a.opened }

abbrev pub ghosts-serve_named-J-Origin : goal.ghosts-serve_named-J-Origin
ghosts-serve_named-J-Origin g a = record { rules = rules_of g.R.Resolver.rules g.F.Refs.named a.hub; list = a.hub.store.list; counts = counts_of a.hub.store; log = a.hub.store.log; broken = a.hub.store.broken }
