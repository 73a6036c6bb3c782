use Rattle.std.proofs.Common.{◌≡◌, ◌++◌, drop}
use Rattle.script_runs.specs.Played.{replies_to}
use Rattle.script_runs.proofs.playing.push_replies.Given as goal

-- the lines by now with the replies that are left are all
abbrev pub invariant-loop-turn : goal.invariant-loop-turn
invariant-loop-turn l = l.lines ++ replies_to l.name (drop l.turn-index l.taken) ≡ l.fn.lines ++ replies_to l.name l.taken
