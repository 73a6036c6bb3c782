use Rattle.std.proofs.Common.{◌≡◌, false, refl, sym, ◌∙◌}
use Rattle.std.specs.Prelude.{nat_eq}
use Rattle.zb_model.specs.declared.new_transaction.NewChange.{NewChange}
use Rattle.zb_model.proofs.Alls.{all_done, all_more}
use Rattle.zb_model.proofs.votable.is_unnamed.Goals as goal

pub loop-change-preserved : goal.loop-change-preserved
loop-change-preserved c = all_more (λ (change : NewChange). nat_eq c.args.oid change.oid ≡ false) c.args.changes.now c.loop-change.change-index c.change-item.result
    c.loop-change-test.true c.change-item.is c.loop-change.invariant (sym c.eq.ensures ∙ c.if-eq.false)

pub returns : goal.returns
returns c = (λ _. all_done (λ (change : NewChange). nat_eq c.args.oid change.oid ≡ false) c.args.changes.now c.loop-change.change-index c.loop-change-test.false c.loop-change.invariant, λ _. refl)
