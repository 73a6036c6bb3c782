use Rattle.std.proofs.Common.{◌∙◌, ◌++◌, [], ap, rules}
use Rattle.btree_setting.proofs.Placing.{insert_by}
use Rattle.btree_setting.proofs.inserting.insert_branch.Goals as goal

pub returns : goal.returns
returns c =
    insert_by _ _ _ _ _ _ c.args.key.now c.args.branch _ c.place_for-place.ensures.is c.split_at.ensures.front c.split_at.ensures.back
    (c.in_ok-all.ensures ∙ ap (λ xs. xs ++ c.split_at.result.0.now) {y = []} (search rules)) c.in_ok-push.ensures.ok c.in_ok-whole.ensures
