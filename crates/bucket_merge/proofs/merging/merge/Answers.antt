use Rattle.std.proofs.Common.{sym, ◌∙◌, subst}
use Rattle.btree_family.specs.Buckets.{IsBucket}
use Rattle.bucket_merge.proofs.Values.{walked_bucket}
use Rattle.bucket_merge.proofs.merging.merge.Goals as goal

pub new-requires : goal.new-requires
new-requires c =
    record {
      bucket = walked_bucket c.as_slice-a.result.now c.as_slice-b.result.now c.as_slice-c.result.now c.in_ok-items.items c.in_ok-items.ensures
          (subst IsBucket (sym (c.as_slice-a.ensures ∙ c.items.ensures.items)) c.items.ensures.bucket)
          (subst IsBucket (sym (c.as_slice-b.ensures ∙ c.items-2.ensures.items)) c.items-2.ensures.bucket)
          (subst IsBucket (sym (c.as_slice-c.ensures ∙ c.items-3.ensures.items)) c.items-3.ensures.bucket);
    }
