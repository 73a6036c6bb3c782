-- The three-way merge of buckets. From: the merge by key of the BTrees package; the four refusals and their order are own.
use Rattle.std.specs.Prelude.{ℕ, Bool, true, false, List, [], ◌∷◌, ◌++◌, Option, Some, None, Result, Ok, Err, if◌then◌else◌, nat_eq, ◌&&◌, ◌||◌}
use Rattle.std.specs.Option.{option_eq}
use Rattle.btree_family.specs.declared.key.Key.{Key}
use Rattle.btree_family.specs.declared.bucket.Item.{Item}
use Rattle.btree_family.specs.Buckets.{BucketContents, keys_of}
use Rattle.bucket_merge.specs.declared.refusal.MergeRefusal.{MergeRefusal}
use Rattle.bucket_merge.specs.declared.refusal.MergeRefusal.TheVariants.{Link, EmptySide, Key as BothChanged, FirstKey}
use Rattle.btree_family.specs.Keys.{is_below}
use Rattle.bucket_merge.specs.Maps.{value_at, differ, least_key, joined}

-- ---- one key

-- both sides changed it, to whatever
abbrev pub both_changed : Option (Option (List ℕ)) → Option (Option (List ℕ)) → Option (Option (List ℕ)) → Bool
both_changed old committed stored = differ committed old && differ stored old

-- the stored value where the stored side changed it, else the committed one
abbrev pub kept_value : Option (Option (List ℕ)) → Option (Option (List ℕ)) → Option (Option (List ℕ)) → Option (Option (List ℕ))
kept_value old committed stored = if differ stored old then stored else committed

abbrev pub both_changed_at : List Item → List Item → List Item → Key → Bool
both_changed_at old committed stored key = both_changed (value_at old key) (value_at committed key) (value_at stored key)

abbrev pub kept_at : List Item → List Item → List Item → Key → Option (Option (List ℕ))
kept_at old committed stored key = kept_value (value_at old key) (value_at committed key) (value_at stored key)

-- ---- all keys

-- the keys of all three, in their order
abbrev pub all_keys : List Item → List Item → List Item → List Key
all_keys old committed stored = joined (keys_of old) (joined (keys_of committed) (keys_of stored))

-- the first of these keys that both sides changed
abbrev pub changed_among : List Item → List Item → List Item → List Key → Option Key
changed_among old committed stored [] = None
changed_among old committed stored (key ∷ keys) =
    if both_changed_at old committed stored key then Some key else changed_among old committed stored keys

-- the least key that both sides changed
abbrev pub least_changed : List Item → List Item → List Item → Option Key
least_changed old committed stored = changed_among old committed stored (all_keys old committed stored)

-- a key with what stands at it, if something does
abbrev pub item_at : Key → Option (Option (List ℕ)) → List Item
item_at key None = []
item_at key (Some value) = record { key = key; value = value } ∷ []

-- these keys with what is kept at them
abbrev pub kept_among : List Item → List Item → List Item → List Key → List Item
kept_among old committed stored [] = []
kept_among old committed stored (key ∷ keys) =
    item_at key (kept_at old committed stored key) ++ kept_among old committed stored keys

-- the merged items
abbrev pub merged_items : List Item → List Item → List Item → List Item
merged_items old committed stored = kept_among old committed stored (all_keys old committed stored)

-- ---- the rules

abbrev pub same_links : BucketContents → BucketContents → BucketContents → Bool
same_links old committed stored = option_eq nat_eq committed.next old.next && option_eq nat_eq stored.next old.next

abbrev pub no_items : List Item → Bool
no_items [] = true
no_items (item ∷ items) = false

-- both stand, and the first is below the second
abbrev pub stands_below : Option Key → Option Key → Bool
stands_below None other = false
stands_below (Some key) None = false
stands_below (Some key) (Some other) = is_below key other

-- old begins with a key that is below all of committed, or below all of stored
abbrev pub first_key_left : List Item → List Item → List Item → Bool
first_key_left old committed stored = stands_below (least_key old) (least_key committed) || stands_below (least_key old) (least_key stored)

-- the rules that look at no single key: the second one stands before, the third one behind the test of keys
abbrev pub unless_changed : Option Key → Result BucketContents MergeRefusal → Result BucketContents MergeRefusal
unless_changed None merged = merged
unless_changed (Some key) merged = Err (BothChanged key)

-- Old, committed and stored are merged. The first of these that holds refuses: the links are not equal; committed or stored
-- is empty; both changed a key, of which the least is named; old's first key left one of the sides. Else each key has the stored
-- value where stored differs from old, and the committed one elsewhere; the link is the committed one.
abbrev pub merge_of : BucketContents → BucketContents → BucketContents → Result BucketContents MergeRefusal
merge_of old committed stored =
    if same_links old committed stored then
    if no_items committed.items || no_items stored.items then Err EmptySide else
    unless_changed (least_changed old.items committed.items stored.items)
    (if first_key_left old.items committed.items stored.items then Err FirstKey
    else Ok (record { items = merged_items old.items committed.items stored.items; next = committed.next }))
    else Err Link
