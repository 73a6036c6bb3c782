use Rattle.std.proofs.Common.{◌≡◌, ◌++◌, drop, map}
use Rattle.std.specs.Prelude.{filter}
use Rattle.client_turns.specs.Output.{is_turn_of}
use Rattle.side_by_side.proofs.lines.lines_of.Given as goal

-- the lines by now with those that are left are all
abbrev pub invariant-loop-turn : goal.invariant-loop-turn
invariant-loop-turn l = map (λ t. t.now) l.lines.items ++ filter (is_turn_of l.name) (drop l.turn-index l.turns) ≡ filter (is_turn_of l.name) l.turns
