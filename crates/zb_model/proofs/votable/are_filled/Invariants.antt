use Rattle.std.proofs.Common.{take}
use Rattle.std.specs.Prelude.{All}
use Rattle.zb_model.specs.Voting.{IsFilled}
use Rattle.zb_model.proofs.votable.are_filled.Given as goal

abbrev pub invariant-loop-change : goal.invariant-loop-change
invariant-loop-change l = All (λ c. IsFilled c.content) (take l.change-index l.changes)
