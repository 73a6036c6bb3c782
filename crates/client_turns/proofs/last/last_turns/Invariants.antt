use Rattle.client_turns.proofs.Lasting.{FoundFrom}
use Rattle.client_turns.proofs.last.last_turns.Given as goal

abbrev pub invariant-loop-i : goal.invariant-loop-i
invariant-loop-i l = FoundFrom l.turns l.i l.names.items l.flags.items

abbrev pub decreases-loop-i : goal.decreases-loop-i
decreases-loop-i l = l.i
