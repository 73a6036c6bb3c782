-- What a remove makes of a sound tree. From: the BTrees package, whose trees are maps.
use Rattle.std.specs.Prelude.{◌≡◌, ℕ, Bool, false, List, Option, None, Result, Ok, Err}
use Rattle.btree_family.specs.declared.key.Key.{Key}
use Rattle.btree_family.specs.declared.bucket.Item.{Item}
use Rattle.btree_family.specs.Keys.{key_eq}
use Rattle.btree_shapes.specs.declared.error.TreeError.{TreeError}
use Rattle.btree_shapes.specs.declared.error.TreeError.TheVariants.{NotATree, NodeMissing, BadKey, Refused, Memory}
use Rattle.btree_shapes.specs.Nodes.{class_held, objects_of, value_in}
use Rattle.btree_shapes.specs.Shapes.{IsTree}
use Rattle.btree_putting.specs.Items.{has_key}
use Rattle.btree_removing.specs.Items.{remove_item}

-- The tree is sound as before, of the same class, and nothing stands at the key; at each other key it has what it had. The
-- answer says whether the key was there; where it was not, nothing changes.
pub record IsRemovedAt (before after : ℕ → Option (List ℕ)) (root kind : ℕ) (mapping : List Item) (key : Key) (was : Bool) : Type 0 where
  pub tree : IsTree (objects_of after root) root kind (remove_item mapping key)
  pub class : class_held (after root) ≡ class_held (before root)
  pub answer : was ≡ has_key mapping key
  pub absent : was ≡ false → after ≡ before
  pub here : value_in (remove_item mapping key) key ≡ None
  pub elsewhere : (other : Key) → key_eq key other ≡ false → value_in (remove_item mapping key) other ≡ value_in mapping other

-- What a remove answers in a sound tree: no object is missing or none of the tree, and where the key is refused, or an object
-- can't be written, nothing changes. After a refusal of the space, or want of memory, some of the puts may be done.
abbrev pub RemovesIn : (ℕ → Option (List ℕ)) → (ℕ → Option (List ℕ)) → ℕ → ℕ → List Item → Key → Result Bool TreeError → Type 0
RemovesIn before after root kind mapping key (Ok was) = IsRemovedAt before after root kind mapping key was
RemovesIn before after root kind mapping key (Err (NotATree oid)) = ⊥
RemovesIn before after root kind mapping key (Err (NodeMissing oid)) = ⊥
RemovesIn before after root kind mapping key (Err BadKey) = after ≡ before
RemovesIn before after root kind mapping key (Err (Refused refusal)) = Unit {0}
RemovesIn before after root kind mapping key (Err Memory) = Unit {0}
