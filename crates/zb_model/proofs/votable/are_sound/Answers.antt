use Rattle.std.proofs.Common.{refl}
use Rattle.zb_model.specs.Voting.{NamesRevision}
use Rattle.zb_model.specs.declared.new_transaction.NewChange.{NewChange}
use Rattle.zb_model.proofs.Alls.{all_done, all_more}
use Rattle.zb_model.proofs.votable.are_sound.Goals as goal

pub loop-change-preserved : goal.loop-change-preserved
loop-change-preserved c = all_more (λ (change : NewChange). NamesRevision c.args.list.now change.oid change.content) c.args.changes.now c.loop-change.change-index c.change-item.result
    c.loop-change-test.true c.change-item.is c.loop-change.invariant (c.is_sound.ensures.0 c.if-not-is_sound.false)

pub returns : goal.returns
returns c = (λ _. all_done (λ (change : NewChange). NamesRevision c.args.list.now change.oid change.content) c.args.changes.now c.loop-change.change-index c.loop-change-test.false c.loop-change.invariant, λ _. refl)
