use Rattle.std.proofs.Common.{◌∙◌, ◌++◌, ap, take, drop}
use Rattle.btree_setting.proofs.Buckets.{front_bucket, rest_bucket}
use Rattle.btree_setting.proofs.growing.cut_leaf.Goals as goal

pub returns-clause-left : goal.returns-clause-left
returns-clause-left c =
    front_bucket _ c.args.leaf.now.items _ c.items.ensures.bucket
    (c.in_ok-left.ensures ∙ ap (λ xs. xs ++ c.split_at.result.0.now) c.new.ensures ∙ c.split_at.ensures.front ∙ ap (take _) (c.as_slice-items.ensures ∙ c.items.ensures.items))

pub returns-clause-right : goal.returns-clause-right
returns-clause-right c =
    rest_bucket _ c.args.leaf.now.items _ c.items.ensures.bucket
    (c.in_ok-right.ensures ∙ ap (λ xs. xs ++ c.split_at.result.1.now) c.new-2.ensures ∙ c.split_at.ensures.back ∙ ap (drop _) (c.as_slice-items.ensures ∙ c.items.ensures.items))
