use Rattle.std.proofs.Common.{◌≡◌, false, take}
use Rattle.std.specs.Prelude.{All, nat_eq}
use Rattle.zb_model.proofs.votable.is_unnamed.Given as goal

abbrev pub invariant-loop-change : goal.invariant-loop-change
invariant-loop-change l = All (λ c. nat_eq l.oid c.oid ≡ false) (take l.change-index l.changes)
