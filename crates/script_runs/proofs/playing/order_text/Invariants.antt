use Rattle.std.proofs.Common.{◌≡◌, ◌++◌, codes, drop}
use Rattle.script_runs.proofs.Lining.{numbers_text}
use Rattle.script_runs.proofs.playing.order_text.Given as goal

-- the text by now with the numbers that are left is all
abbrev pub invariant-loop-turn : goal.invariant-loop-turn
invariant-loop-turn l = l.text.items ++ numbers_text (drop l.turn-index l.taken) ≡ codes "order" ++ numbers_text l.taken
