-- Items and branches that are compared. Own.
use Rattle.std.specs.Prelude.{ℕ, Bool, true, false, List, [], ◌∷◌, Option, Some, None, eqb, ◌==◌, ◌&&◌, if◌then◌else◌}
use Rattle.std.specs.Cmp.Lexicographic.{pointwise}
use Rattle.btree_family.specs.declared.key.Key.{Key}
use Rattle.btree_family.specs.declared.bucket.Item.{Item}
use Rattle.btree_family.specs.Keys.{key_eq}
use Rattle.bucket_state.specs.declared.tree.Branch.{Branch}

abbrev pub same_value : Option (List ℕ) → Option (List ℕ) → Bool
same_value None None = true
same_value None (Some b) = false
same_value (Some a) None = false
same_value (Some a) (Some b) = pointwise eqb a b

abbrev pub same_item : Item → Item → Bool
same_item a b = key_eq a.key b.key && same_value a.value b.value

abbrev pub same_items : List Item → List Item → Bool
same_items [] [] = true
same_items [] (y ∷ ys) = false
same_items (x ∷ xs) [] = false
same_items (x ∷ xs) (y ∷ ys) = if same_item x y then same_items xs ys else false

-- the key stands in these items with this value
abbrev pub has_value : List Item → Key → Option (List ℕ) → Bool
has_value [] key value = false
has_value (item ∷ items) key value = if key_eq item.key key then same_value item.value value else has_value items key value

-- the key stands in these items
abbrev pub has_key : List Item → Key → Bool
has_key [] key = false
has_key (item ∷ items) key = if key_eq item.key key then true else has_key items key

abbrev pub same_branch : Branch → Branch → Bool
same_branch a b = key_eq a.key b.key && (a.child == b.child)

abbrev pub same_branches : List Branch → List Branch → Bool
same_branches [] [] = true
same_branches [] (y ∷ ys) = false
same_branches (x ∷ xs) [] = false
same_branches (x ∷ xs) (y ∷ ys) = if same_branch x y then same_branches xs ys else false
