use Rattle.std.proofs.Common.{◌∙◌, sym, ap, subst}
use Rattle.btree_family.specs.Buckets.{IsBucket}
use Rattle.btree_setting.specs.Inserting.{set_item}
use Rattle.btree_setting.proofs.Buckets.{set_is_bucket}
use Rattle.btree_setting.proofs.bottom.set_leaf.Goals as goal

pub new-requires : goal.new-requires
new-requires c = record {
  bucket = subst IsBucket
      (sym (c.in_ok-items.ensures ∙ ap (λ xs. set_item xs c.args.key c.args.value) (c.as_slice.ensures ∙ c.items.ensures.items)))
      (set_is_bucket c.args.leaf.now.items c.args.key c.args.value c.items.ensures.bucket c.requires);
}
