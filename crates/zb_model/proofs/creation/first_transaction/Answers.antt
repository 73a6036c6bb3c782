use Rattle.std.proofs.Common.{◌<◌, ◌-◌, ◌^◌, arith, refl}
use Rattle.std.proofs.lemmas.Grind.{common_steps}
use Rattle.zb_model.proofs.Firsts.{first_database}
use Rattle.zb_model.proofs.creation.first_transaction.Goals as goal
use Rattle.zb_model.proofs.creation.first_transaction.Goals.{then-gt, else-gt}

pub returns-clause-database : goal.returns-clause-database
returns-clause-database c =
    let above : 0 < c.if-gt.tid = elim c.if-gt.branch [ then-gt w ↦ grind (arith, common_steps, w.tid-is) | else-gt w ↦ grind (arith, common_steps, w.tid-is) ] in
    let below : c.if-gt.tid < 2 ^ 64 - 1 = elim c.if-gt.branch [ then-gt w ↦ grind (arith, common_steps, w.tid-is) | else-gt w ↦ grind (arith, common_steps, w.tid-is) ] in
    first_database c.if-gt.tid _ _ refl above below (rw c.new-changes.ensures at c.in_ok-push.ensures.ok) (grind (arith, common_steps, c))
