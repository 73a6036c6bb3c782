use Rattle.std.proofs.Common.{take}
use Rattle.std.specs.Prelude.{All}
use Rattle.zb_model.specs.Voting.{NamesRevision}
use Rattle.zb_model.proofs.votable.are_sound.Given as goal

abbrev pub invariant-loop-change : goal.invariant-loop-change
invariant-loop-change l = All (λ c. NamesRevision l.list c.oid c.content) (take l.change-index l.changes)
