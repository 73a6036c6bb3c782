-- What a set makes of a sound tree. From: the BTrees package, whose trees are maps.
use Rattle.std.specs.Prelude.{◌≡◌, ℕ, false, List, Option, Some, Result, Ok, Err}
use Rattle.btree_family.specs.declared.key.Key.{Key}
use Rattle.btree_family.specs.declared.bucket.Item.{Item}
use Rattle.btree_family.specs.Keys.{key_eq}
use Rattle.btree_shapes.specs.declared.error.TreeError.{TreeError}
use Rattle.btree_shapes.specs.declared.error.TreeError.TheVariants.{NotATree, NodeMissing, BadKey, Refused, Memory}
use Rattle.btree_shapes.specs.Nodes.{class_held, objects_of, shown, value_in}
use Rattle.btree_shapes.specs.Shapes.{IsTree}
use Rattle.btree_setting.specs.Inserting.{set_item}

-- the tree is sound as before, of the same class, and has this value at the key; at each other key it has what it had
pub record IsSetAt (before after : ℕ → Option (List ℕ)) (root kind : ℕ) (mapping : List Item) (key : Key) (value : Option (List ℕ)) : Type 0 where
  pub tree : IsTree (objects_of after root) root kind (set_item mapping key value)
  pub class : class_held (after root) ≡ class_held (before root)
  pub here : value_in (set_item mapping key value) key ≡ Some (shown value)
  pub elsewhere : (other : Key) → key_eq key other ≡ false → value_in (set_item mapping key value) other ≡ value_in mapping other

-- What a set answers in a sound tree: no object is missing or none of the tree, and where key or value are refused, or can't
-- be written, nothing changes. After a refusal of the space, or want of memory, some of the puts may be done.
abbrev pub SetsIn : (ℕ → Option (List ℕ)) → (ℕ → Option (List ℕ)) → ℕ → ℕ → List Item → Key → Option (List ℕ) → Result (Unit {0}) TreeError → Type 0
SetsIn before after root kind mapping key value (Ok u) = IsSetAt before after root kind mapping key value
SetsIn before after root kind mapping key value (Err (NotATree oid)) = ⊥
SetsIn before after root kind mapping key value (Err (NodeMissing oid)) = ⊥
SetsIn before after root kind mapping key value (Err BadKey) = after ≡ before
SetsIn before after root kind mapping key value (Err (Refused refusal)) = Unit {0}
SetsIn before after root kind mapping key value (Err Memory) = Unit {0}
