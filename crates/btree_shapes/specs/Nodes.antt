-- What the objects of a tree hold. From: the BTrees package.
use Rattle.std.specs.Prelude.{ℕ, suc, Bool, List, [], ◌∷◌, Option, Some, None, Result, Ok, Err, if◌then◌else◌}
use Rattle.std.specs.Option.{option_map}
use Rattle.pickle_graph.specs.Graph.{Graph}
use Rattle.btree_family.specs.declared.key.Key.{Key}
use Rattle.btree_family.specs.declared.table.Kind.{Kind}
use Rattle.btree_family.specs.declared.table.Kind.TheVariants as kinds
use Rattle.btree_family.specs.declared.bucket.Item.{Item}
use Rattle.btree_family.specs.Keys.{key_eq, is_below}
use Rattle.btree_family.specs.Classes.{Class, classes, leaf_in}
use Rattle.btree_family.specs.Buckets.{keys_of}
use Rattle.bucket_state.specs.declared.tree.Branch.{Branch}
use Rattle.bucket_state.specs.declared.tree.TreeState.{TreeState}
use Rattle.bucket_state.specs.declared.tree.TreeState.TheVariants as trees
use Rattle.bucket_state.specs.States.{bucket_of}
use Rattle.bucket_state.specs.Trees.{tree_state_of, separators_of}
use Rattle.zb_record.specs.declared.error.RecordError.{RecordError}
use Rattle.zb_record.specs.Records.{record_of}
use Rattle.btree_shapes.specs.declared.node.Node.{Node}
use Rattle.btree_shapes.specs.declared.node.Node.TheVariants.{Lone, Leaf, Inner}
use Rattle.btree_shapes.specs.Classes.{class_named, is_class_of}
use Rattle.btree_shapes.specs.Keys.{is_kind_of}

-- ---- what a record holds

-- a tree without items has a leaf without items
abbrev pub lone_or_inner : TreeState → Node
lone_or_inner trees.Empty = Lone (record { items = []; next = None })
lone_or_inner (trees.Leaf leaf) = Lone leaf
lone_or_inner (trees.Children inner) = Inner inner

-- what a state of this very class holds
abbrev pub node_of_kind : Kind → Class → Graph → Option Node
node_of_kind kinds.Bucket class g = option_map Leaf (bucket_of class g)
node_of_kind kinds.Set class g = option_map Leaf (bucket_of class g)
node_of_kind kinds.Tree class g = option_map lone_or_inner (tree_state_of class g)
node_of_kind kinds.TreeSet class g = option_map lone_or_inner (tree_state_of class g)

abbrev pub own_node : Class → Graph → Option Node
own_node class g = node_of_kind class.kind class g

abbrev pub node_of_leaf : Option Class → Graph → Graph → Option Node
node_of_leaf None own state = None
node_of_leaf (Some leaf) own state = if is_class_of leaf own then option_map Leaf (bucket_of leaf state) else None

-- what a record of the class of a tree's leaves holds
abbrev pub leaf_named : Class → Graph → Graph → Option Node
leaf_named class own state = node_of_leaf (leaf_in classes class) own state

-- What a record, of such a class and state, holds as an object of a tree whose root is of the given class: it is of the
-- root's class, or of the class of its leaves.
abbrev pub node_of : Class → Graph → Graph → Option Node
node_of class own state = if is_class_of class own then own_node class state else leaf_named class own state

-- ---- what an object is to a tree

-- there is no content, or it is no object of such a tree, or it has this class and holds this node
pub data Held : Type 0 where
  Nothing : Held
  Foreign : Held
  Holds : Graph → Node → Held

abbrev pub held_node : Graph → Option Node → Held
held_node class None = Foreign
held_node class (Some node) = Holds class node

abbrev pub held_record : Class → Result (Graph × Graph) RecordError → Held
held_record class (Err e) = Foreign
held_record class (Ok object) = held_node object.0 (node_of class object.0 object.1)

-- what bytes are to a tree whose root is of this class, or of none
abbrev pub held_in : Option Class → Option (List ℕ) → Held
held_in class None = Nothing
held_in None (Some bytes) = Foreign
held_in (Some class) (Some bytes) = held_record class (record_of bytes)

abbrev pub record_class : Result (Graph × Graph) RecordError → Option Class
record_class (Err e) = None
record_class (Ok object) = class_named object.0

-- the class of BTrees that the record of these bytes has
abbrev pub class_held : Option (List ℕ) → Option Class
class_held None = None
class_held (Some bytes) = record_class (record_of bytes)

-- what each object is to the tree with this root
abbrev pub objects_of : (ℕ → Option (List ℕ)) → ℕ → ℕ → Held
objects_of contents root oid = held_in (class_held (contents root)) (contents oid)

-- ---- what a node is to a key

-- the key is of the kind of the node's keys
abbrev pub node_suits : Key → Node → Bool
node_suits key (Lone bucket) = is_kind_of (keys_of bucket.items) key
node_suits key (Leaf bucket) = is_kind_of (keys_of bucket.items) key
node_suits key (Inner inner) = is_kind_of (separators_of inner.tail) key

-- The last child whose separator isn't above the key, or else this one: separators rise, so it is the one before the
-- first separator above the key.
abbrev pub child_for : ℕ → List Branch → Key → ℕ
child_for child [] key = child
child_for child (branch ∷ branches) key = if is_below key branch.key then child else child_for branch.child branches key

-- how many branches stand before the first whose separator is above the key
abbrev pub place_for : List Branch → Key → ℕ
place_for [] key = 0
place_for (branch ∷ branches) key = if is_below key branch.key then 0 else suc (place_for branches key)

-- the value of an item as it is shown: a member of a set has the spelling of True
abbrev pub shown : Option (List ℕ) → List ℕ
shown None = 0x88 ∷ []
shown (Some text) = text

-- what stands under a key of items, as it is shown
abbrev pub value_in : List Item → Key → Option (List ℕ)
value_in [] key = None
value_in (item ∷ items) key = if key_eq item.key key then Some (shown item.value) else value_in items key

-- the items of a node without others below it
abbrev pub items_in : Node → List Item
items_in (Lone bucket) = bucket.items
items_in (Leaf bucket) = bucket.items
items_in (Inner inner) = []
