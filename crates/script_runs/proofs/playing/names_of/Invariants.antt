use Rattle.std.proofs.Common.{◌≡◌, map, take}
use Rattle.script_runs.proofs.playing.names_of.Given as goal

abbrev pub invariant-loop-client : goal.invariant-loop-client
invariant-loop-client l = l.names.items ≡ map (λ c. c.name) (take l.client-index l.clients)
