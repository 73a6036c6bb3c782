use Rattle.std.proofs.Common.{◌≡◌, ◌∙◌, sym, ap, subst}
use Rattle.btree_family.specs.Buckets.{IsBucket}
use Rattle.btree_removing.specs.Items.{remove_item}
use Rattle.btree_removing.proofs.Buckets.{without_is_bucket}
use Rattle.btree_removing.proofs.bottom.leaf_without.Goals as goal

pub new-requires : goal.new-requires
new-requires c = record {
  bucket = subst IsBucket
      (sym (c.in_ok-items.ensures ∙ ap (λ xs. remove_item xs c.args.key.now) (c.as_slice.ensures ∙ c.items.ensures.items)))
      (without_is_bucket c.args.leaf.now.items c.args.key.now c.items.ensures.bucket);
}
