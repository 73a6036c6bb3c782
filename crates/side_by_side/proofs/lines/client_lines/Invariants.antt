use Rattle.std.proofs.Common.{◌≡◌, ◌++◌, drop}
use Rattle.side_by_side.specs.Orders.{lines_of_each}
use Rattle.side_by_side.proofs.Reading.{lines_for}
use Rattle.side_by_side.proofs.lines.client_lines.Given as goal

-- the clients by now with those that are left are all
abbrev pub invariant-loop-turn : goal.invariant-loop-turn
invariant-loop-turn l = l.clients.items ++ lines_for l.turns (drop l.turn-index l.turns) ≡ lines_of_each l.turns
