-- The leaf that loses an item. Own.
use Rattle.std.specs.Prelude.{ℕ, Bool, true, false, List, [], ◌∷◌, Option, Some, None, if◌then◌else◌}
use Rattle.std.specs.Option.{option_map}
use Rattle.pickle_graph.specs.Graph.{Graph}
use Rattle.btree_family.specs.declared.key.Key.{Key}
use Rattle.btree_family.specs.declared.bucket.Item.{Item}
use Rattle.btree_family.specs.Buckets.{BucketContents}
use Rattle.btree_shapes.specs.declared.node.Node.{Node}
use Rattle.btree_shapes.specs.declared.node.Node.TheVariants as node
use Rattle.btree_putting.specs.declared.puts.Put.{Put}
use Rattle.btree_putting.specs.Items.{has_key}
use Rattle.btree_removing.specs.Items.{remove_item}

-- a leaf without a key
abbrev pub leaf_without : BucketContents → Key → BucketContents
leaf_without leaf key = record { items = remove_item leaf.items key; next = leaf.next }

-- what an object holds without a key, where that stands in it
abbrev pub node_without : Node → Key → Option Node
node_without (node.Lone leaf) key = if has_key leaf.items key then Some (node.Lone (leaf_without leaf key)) else None
node_without (node.Leaf leaf) key = if has_key leaf.items key then Some (node.Leaf (leaf_without leaf key)) else None
node_without (node.Inner inner) key = None

abbrev pub put_leaf : ℕ → Graph → Node → Put
put_leaf oid class node = record { oid = oid; class = class; leaves = false; node = node }

-- an object without a key, as it is put
abbrev pub bottom_of : ℕ → Graph → Node → Key → Option Put
bottom_of oid class node key = option_map (put_leaf oid class) (node_without node key)

abbrev pub has_none : List Item → Bool
has_none [] = true
has_none (item ∷ items) = false

-- a leaf is left without items
abbrev pub is_emptied : Node → Bool
is_emptied (node.Lone leaf) = has_none leaf.items
is_emptied (node.Leaf leaf) = has_none leaf.items
is_emptied (node.Inner inner) = false

-- the object is a bucket or a set
abbrev pub is_leaf : Node → Bool
is_leaf (node.Lone leaf) = false
is_leaf (node.Leaf leaf) = true
is_leaf (node.Inner inner) = false

-- the leaf that follows
abbrev pub next_of : Node → Option ℕ
next_of (node.Lone leaf) = leaf.next
next_of (node.Leaf leaf) = leaf.next
next_of (node.Inner inner) = None
