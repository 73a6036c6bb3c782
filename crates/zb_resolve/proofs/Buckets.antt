-- The keys of merged buckets can be written, and so can those that a refusal names.
use Rattle.std.proofs.Common.{◌≡◌, List, [], ◌∷◌, Ok}
use Rattle.btree_family.specs.declared.key.Key.{Key}
use Rattle.btree_family.specs.Buckets.{BucketContents, keys_of}
use Rattle.bucket_state.specs.Writable.{IsWritable, AreWritable}
use Rattle.bucket_merge.specs.declared.refusal.MergeRefusal.{MergeRefusal}
use Rattle.bucket_merge.specs.declared.refusal.MergeRefusal.TheVariants as refusals
use Rattle.bucket_merge.specs.Merge.{merge_of}
use Rattle.bucket_merge.specs.Kept.{Each, merge_keeps, merge_names}
use Rattle.bucket_merge.specs.Answers.{RefusesFor}
use Rattle.zb_resolve.specs.Resolution.{IsWritableRefusal}

each_writable : (ks : List Key) → AreWritable ks → Each IsWritable ks
each_writable [] h = tt
each_writable (k ∷ ks) h = (h.0, each_writable ks h.1)

all_writable : (ks : List Key) → Each IsWritable ks → AreWritable ks
all_writable [] h = tt
all_writable (k ∷ ks) h = (h.0, all_writable ks h.1)

pub merged_writable : (a b c m : BucketContents) → AreWritable (keys_of a.items) → AreWritable (keys_of b.items) → AreWritable (keys_of c.items) → merge_of a b c ≡ Ok m → AreWritable (keys_of m.items)
merged_writable a b c m p q r e =
    all_writable (keys_of m.items) (merge_keeps IsWritable a b c m (each_writable (keys_of a.items) p) (each_writable (keys_of b.items) q) (each_writable (keys_of c.items) r) e)

pub refusal_writable : (a b c : BucketContents) (e : MergeRefusal) → AreWritable (keys_of a.items) → AreWritable (keys_of b.items) → AreWritable (keys_of c.items) → RefusesFor e (merge_of a b c) → IsWritableRefusal e
refusal_writable a b c refusals.Link p q r h = tt
refusal_writable a b c refusals.EmptySide p q r h = tt
refusal_writable a b c (refusals.Key k) p q r h =
    merge_names IsWritable a b c k (each_writable (keys_of a.items) p) (each_writable (keys_of b.items) q) (each_writable (keys_of c.items) r) h
refusal_writable a b c refusals.FirstKey p q r h = tt
refusal_writable a b c refusals.Memory p q r h = tt
