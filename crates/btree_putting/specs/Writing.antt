-- Objects of a tree as they are written. From: the BTrees package.
use Rattle.std.specs.Prelude.{ℕ, Bool, true, false, List, [], ◌∷◌, ◌++◌, length, Option, Some, None, Result, Ok, Err, nat_lt, ◌^◌, ◌&&◌, if◌then◌else◌}
use Rattle.std.specs.Str.{is_utf8}
use Rattle.pickle_reading.specs.declared.error.PickleError.{PickleError}
use Rattle.pickle_reading.specs.declared.reading.TheConstants.{NODE_LIMIT}
use Rattle.pickle_graph.specs.Graph.{Graph, IsGlobal}
use Rattle.pickle_reading.specs.Reading.{graph_at}
use Rattle.btree_family.specs.declared.key.Key.{Key}
use Rattle.btree_family.specs.declared.key.Key.TheVariants.{Text, Bytes, Number}
use Rattle.btree_family.specs.Classes.{Class}
use Rattle.btree_family.specs.Buckets.{keys_of, AreValues}
use Rattle.bucket_state.specs.Trees.{separators_of}
use Rattle.bucket_state.specs.Written.{bucket_graph, embedded_graph, inner_graph}
use Rattle.btree_shapes.specs.declared.node.Node.{Node}
use Rattle.btree_shapes.specs.declared.node.Node.TheVariants as node
use Rattle.btree_putting.specs.declared.writing.Family.{Family}

-- ---- keys

-- a text is UTF-8, and no text or bytes is too long for a token
abbrev pub is_writable : Key → Bool
is_writable (Text text) = is_utf8 text && nat_lt (length text) (2 ^ 32)
is_writable (Bytes bytes) = nat_lt (length bytes) (2 ^ 32)
is_writable (Number n) = true

abbrev pub are_writable : List Key → Bool
are_writable [] = true
are_writable (key ∷ keys) = if is_writable key then are_writable keys else false

-- ---- states

abbrev pub graph_read : Result (Graph × ℕ) PickleError → Option Graph
graph_read (Ok found) = Some found.0
graph_read (Err e) = None

-- the class that references to the children name: that of leaves, or the tree's own
abbrev pub child_class : Class → Class → Bool → Class
child_class class leaf leaves = if leaves then leaf else class

-- the keys of a node can be written
abbrev pub node_writable : Node → Bool
node_writable (node.Lone bucket) = are_writable (keys_of bucket.items)
node_writable (node.Leaf bucket) = are_writable (keys_of bucket.items)
node_writable (node.Inner inner) = are_writable (separators_of inner.tail)

-- The state of a node in a tree of this class, whose leaves are of the other class; the last word is whether the node's
-- children are leaves.
abbrev pub node_graph : Class → Class → Bool → Node → Graph
node_graph class leaf leaves (node.Lone bucket) = embedded_graph bucket.items
node_graph class leaf leaves (node.Leaf bucket) = bucket_graph leaf bucket
node_graph class leaf leaves (node.Inner inner) = inner_graph (child_class class leaf leaves) leaf inner

-- the state, where it can be written
abbrev pub node_state : Class → Class → Bool → Node → Option Graph
node_state class leaf leaves n = if node_writable n then Some (node_graph class leaf leaves n) else None

-- the values of a leaf are spellings
abbrev pub AreNodeValues : Node → Type 0
AreNodeValues (node.Lone bucket) = AreValues bucket.items
AreNodeValues (node.Leaf bucket) = AreValues bucket.items
AreNodeValues (node.Inner inner) = Unit {0}

-- ---- families

-- the names of both classes can be written
pub record AreGlobal (family : Family) : Type 0 where
  pub row : IsGlobal family.row.now.«module».now family.row.now.name.now
  pub leaf : IsGlobal family.leaf.now.«module».now family.leaf.now.name.now

-- ---- classes

-- a class alone, as a pickle
abbrev pub class_pickle : Class → List ℕ
class_pickle class = ((((0x80 ∷ 3 ∷ 0x63 ∷ []) ++ class.module_name) ++ 0x0a ∷ []) ++ class.class_name) ++ 0x0a ∷ 0x2e ∷ []

-- the class of a new object
abbrev pub plain_class : Class → Option Graph
plain_class class = graph_read (graph_at NODE_LIMIT 0 (class_pickle class))

-- its leaves have a class
abbrev pub has_leaf : Option Class → Bool
has_leaf None = false
has_leaf (Some leaf) = true
