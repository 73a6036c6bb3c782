use Rattle.std.proofs.Common.{◌≡◌, ◌++◌, drop}
use Rattle.script_runs.specs.Played.{played_lines}
use Rattle.script_runs.proofs.Lining.{replies_to_each}
use Rattle.script_runs.proofs.playing.played_lines.Given as goal

-- the lines by now with the replies to the clients that are left are all
abbrev pub invariant-loop-name : goal.invariant-loop-name
invariant-loop-name l = l.lines ++ replies_to_each l.taken (drop l.name-index l.names) ≡ played_lines l.names l.taken
