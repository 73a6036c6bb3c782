use Rattle.std.proofs.Common.{◌∙◌, ◌++◌, [], ap, rules}
use Rattle.btree_setting.proofs.Placing.{set_by}
use Rattle.btree_setting.proofs.inserting.set_item.Goals as goal

pub returns : goal.returns
returns c =
    set_by _ _ _ _ _ _ _ c.args.key c.args.value _ c.place_in-place.ensures.is c.split_at.ensures.front c.split_at.ensures.back c.behind-rest.ensures
    (c.in_ok-all.ensures ∙ ap (λ xs. xs ++ c.split_at.result.0.now) {y = []} (search rules)) c.in_ok-push.ensures.ok c.in_ok-whole.ensures
