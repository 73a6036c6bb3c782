-- Items and branches without one of them. Own.
use Rattle.std.specs.Prelude.{ℕ, zero, suc, List, [], ◌∷◌, if◌then◌else◌}
use Rattle.btree_family.specs.declared.key.Key.{Key}
use Rattle.btree_family.specs.declared.bucket.Item.{Item}
use Rattle.btree_family.specs.Keys.{key_eq}
use Rattle.bucket_state.specs.declared.tree.Branch.{Branch}

-- the items without the first one with this key
abbrev pub remove_item : List Item → Key → List Item
remove_item [] key = []
remove_item (item ∷ items) key = if key_eq item.key key then items else item ∷ remove_item items key

-- the branches without the one at a place
abbrev pub cut_branch : List Branch → ℕ → List Branch
cut_branch [] place = []
cut_branch (branch ∷ branches) zero = branches
cut_branch (branch ∷ branches) (suc place) = branch ∷ cut_branch branches place
