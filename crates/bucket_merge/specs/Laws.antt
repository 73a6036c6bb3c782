-- Laws of merging.
use Rattle.std.specs.Prelude.{◌≡◌, true, false, None, Result, Ok, Err, if◌then◌else◌, ◌||◌}
use Rattle.btree_family.specs.declared.key.Key.{Key}
use Rattle.btree_family.specs.Buckets.{BucketContents, keys_of}
use Rattle.btree_family.specs.Rising.{Rises}
use Rattle.bucket_merge.specs.declared.refusal.MergeRefusal.{MergeRefusal}
use Rattle.bucket_merge.specs.declared.refusal.MergeRefusal.TheVariants.{Link, EmptySide, Key as BothChanged, FirstKey}
use Rattle.btree_family.specs.Keys.{is_below}
use Rattle.bucket_merge.specs.Maps.{value_at}
use Rattle.bucket_merge.specs.Merge.{both_changed_at, kept_at, same_links, no_items, first_key_left, merge_of}

-- the keys of each rise
pub record AreSorted (old committed stored : BucketContents) : Type 0 where
  pub first : Rises None (keys_of old.items)
  pub second : Rises None (keys_of committed.items)
  pub third : Rises None (keys_of stored.items)

-- no key was changed by both sides
abbrev pub NoneChangedByBoth : BucketContents → BucketContents → BucketContents → Type 0
NoneChangedByBoth old committed stored = (key : Key) → both_changed_at old.items committed.items stored.items key ≡ false

-- the merge as a finite map: at each key the stored value where stored differs from old, else the committed one
pub record IsMergedMap (old committed stored merged : BucketContents) : Type 0 where
  pub apart : NoneChangedByBoth old committed stored
  pub rises : Rises None (keys_of merged.items)
  pub values : (key : Key) → value_at merged.items key ≡ kept_at old.items committed.items stored.items key
  pub link : merged.next ≡ committed.next

abbrev pub MergedIsMap : Type 0
MergedIsMap =
    (old committed stored merged : BucketContents) → AreSorted old committed stored → merge_of old committed stored ≡ Ok merged →
    IsMergedMap old committed stored merged

-- both sides changed the key, and none below it
pub record IsLeastChanged (old committed stored : BucketContents) (key : Key) : Type 0 where
  pub both : both_changed_at old.items committed.items stored.items key ≡ true
  pub least : (other : Key) → is_below other key ≡ true → both_changed_at old.items committed.items stored.items other ≡ false

abbrev pub LeastIsNamed : Type 0
LeastIsNamed =
    (old committed stored : BucketContents) (key : Key) → AreSorted old committed stored → merge_of old committed stored ≡ Err (BothChanged key) →
    IsLeastChanged old committed stored key

-- the bucket, or the first refusal of the rules that look at no single key
abbrev pub unless_refused : BucketContents → BucketContents → BucketContents → BucketContents → Result BucketContents MergeRefusal
unless_refused old committed stored merged =
    if same_links old committed stored then
    if no_items committed.items || no_items stored.items then Err EmptySide else
    if first_key_left old.items committed.items stored.items then Err FirstKey else Ok merged
    else Err Link

-- stored changed nothing
abbrev pub CommittedAloneIsKept : Type 0
CommittedAloneIsKept =
    (old committed : BucketContents) → Rises None (keys_of old.items) → Rises None (keys_of committed.items) →
    merge_of old committed old ≡ unless_refused old committed old committed

-- committed changed nothing
abbrev pub StoredAloneIsKept : Type 0
StoredAloneIsKept =
    (old stored : BucketContents) → Rises None (keys_of old.items) → Rises None (keys_of stored.items) →
    merge_of old old stored ≡ unless_refused old old stored stored

abbrev pub ExchangedMergeAlike : Type 0
ExchangedMergeAlike =
    (old committed stored : BucketContents) → AreSorted old committed stored → NoneChangedByBoth old committed stored →
    merge_of old committed stored ≡ merge_of old stored committed
