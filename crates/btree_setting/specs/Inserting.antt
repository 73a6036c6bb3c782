-- Items with one more key, and branches with one more child. Own.
use Rattle.std.specs.Prelude.{◌≡◌, ℕ, suc, List, [], ◌∷◌, ◌++◌, drop, length, take, Option, ◌==◌, if◌then◌else◌}
use Rattle.btree_family.specs.declared.key.Key.{Key}
use Rattle.btree_family.specs.declared.bucket.Item.{Item}
use Rattle.btree_family.specs.Keys.{key_eq, is_below}
use Rattle.bucket_state.specs.declared.tree.Branch.{Branch}

-- how many keys at the front are below this one
abbrev pub place_in : List Item → Key → ℕ
place_in [] key = 0
place_in (item ∷ items) key = if is_below item.key key then suc (place_in items key) else 0

-- the item at the place of a key, if there is one
abbrev pub standing : List Item → Key → List Item
standing items key = take 1 (drop (place_in items key) items)

-- the items without the first, where that has this key
abbrev pub behind : List Item → Key → List Item
behind [] key = []
behind (item ∷ items) key = if key_eq item.key key then items else item ∷ items

-- the items with this value at a key
abbrev pub set_item : List Item → Key → Option (List ℕ) → List Item
set_item [] key value = record { key = key; value = value } ∷ []
set_item (item ∷ items) key value =
    if is_below item.key key then item ∷ set_item items key value else record { key = key; value = value } ∷ behind (item ∷ items) key

-- a branch before the first whose separator is above the key
abbrev pub insert_branch : Branch → Key → List Branch → List Branch
insert_branch branch key [] = branch ∷ []
insert_branch branch key (other ∷ others) = if is_below key other.key then branch ∷ other ∷ others else other ∷ insert_branch branch key others

-- the first `half` items, and the rest with its first key
pub record ItemsCut (whole left : List Item) (half : ℕ) (key : Key) (right : List Item) : Type 0 where
  pub item : Item
  pub more : List Item
  pub right_is : right ≡ item ∷ more
  pub key_is : key ≡ item.key
  pub half_is : length left ≡ half
  pub cut : whole ≡ left ++ item ∷ more
