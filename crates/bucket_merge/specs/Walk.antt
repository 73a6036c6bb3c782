-- One step of a walk over items in the order of their keys.
use Rattle.std.specs.Prelude.{ℕ, List, [], ◌∷◌, Option, Some, None, Result, Ok, Err, if◌then◌else◌}
use Rattle.btree_family.specs.declared.key.Key.{Key}
use Rattle.btree_family.specs.declared.bucket.Item.{Item}
use Rattle.btree_family.specs.Keys.{key_eq, is_below}
use Rattle.bucket_merge.specs.declared.refusal.MergeRefusal.{MergeRefusal}
use Rattle.bucket_merge.specs.declared.refusal.MergeRefusal.TheVariants.{Key as BothChanged}
use Rattle.bucket_merge.specs.Maps.{differ, least_key}
use Rattle.bucket_merge.specs.Merge.{least_changed, merged_items}

-- the lesser of two keys
abbrev pub lesser_key : Option Key → Option Key → Option Key
lesser_key None other = other
lesser_key (Some key) None = Some key
lesser_key (Some key) (Some other) = Some (if is_below other key then other else key)

abbrev pub least_of_all : List Item → List Item → List Item → Option Key
least_of_all old committed stored = lesser_key (least_key old) (lesser_key (least_key committed) (least_key stored))

-- the first item, where it has this key
abbrev pub first_at : List Item → Key → Option Item
first_at [] key = None
first_at (item ∷ items) key = if key_eq item.key key then Some item else None

-- the items behind it
abbrev pub behind : List Item → Key → List Item
behind [] key = []
behind (item ∷ items) key = if key_eq item.key key then items else item ∷ items

-- what an item has
abbrev pub value_in : Option Item → Option (Option (List ℕ))
value_in None = None
value_in (Some item) = Some item.value

abbrev pub kept_item : Option Item → Option Item → Option Item → Option Item
kept_item old committed stored = if differ (value_in stored) (value_in old) then stored else committed

-- an item, if there is one
abbrev pub as_list : Option Item → List Item
as_list None = []
as_list (Some item) = item ∷ []

-- the merged items, or the least key that both sides changed
abbrev pub or_changed : Option Key → List Item → Result (List Item) MergeRefusal
or_changed None items = Ok items
or_changed (Some key) items = Err (BothChanged key)

abbrev pub walked : List Item → List Item → List Item → Result (List Item) MergeRefusal
walked old committed stored = or_changed (least_changed old committed stored) (merged_items old committed stored)
