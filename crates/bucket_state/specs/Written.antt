-- States as they are written. From: the BTrees package; that each key, value and link stands apart is own.
use Rattle.std.specs.Prelude.{ℕ, ◌+◌, List, [], ◌∷◌, ◌++◌, map, length, Option, Some, None, Result, Ok, Err}
use Rattle.byteorder.specs.Endian.{big_bytes}
use Rattle.pickle_graph.specs.declared.node.Node.{Node}
use Rattle.pickle_graph.specs.declared.node.Node.TheVariants as nodes
use Rattle.pickle_graph.specs.declared.node.Act.{Act}
use Rattle.pickle_graph.specs.declared.node.Act.TheVariants.{Append, Set, Build}
use Rattle.pickle_reading.specs.declared.error.PickleError.{PickleError}
use Rattle.pickle_reading.specs.declared.reading.TheConstants.{NODE_LIMIT}
use Rattle.pickle_graph.specs.Graph.{Graph, AreNodes, AllBelow}
use Rattle.pickle_reading.specs.Reading.{graph_at}
use Rattle.pickle_writing.specs.Spelling.{leaf_text}
use Rattle.btree_family.specs.declared.key.Key.{Key}
use Rattle.btree_family.specs.declared.key.Key.TheVariants as keys
use Rattle.btree_family.specs.Classes.{Class}
use Rattle.btree_family.specs.declared.bucket.Item.{Item}
use Rattle.btree_family.specs.Buckets.{BucketContents}
use Rattle.bucket_state.specs.declared.tree.Branch.{Branch}
use Rattle.bucket_state.specs.declared.tree.Inner.{Inner}

-- ---- graphs side by side

-- an act, whose nodes have numbers greater by so many
abbrev pub shifted_act : ℕ → Act → Act
shifted_act by (Append value) = Append (by + value)
shifted_act by (Set key value) = Set (by + key) (by + value)
shifted_act by (Build state) = Build (by + state)

abbrev pub shifted_pair : ℕ → (ℕ × ℕ) → ℕ × ℕ
shifted_pair by pair = (by + pair.0, by + pair.1)

-- a node that names nodes with numbers greater by so many
abbrev pub shifted : ℕ → Node → Node
shifted by (nodes.Tuple items) = nodes.Tuple (map (λ n. by + n) items)
shifted by (nodes.List items) = nodes.List (map (λ n. by + n) items)
shifted by (nodes.Dict pairs) = nodes.Dict (map (shifted_pair by) pairs)
shifted by (nodes.Reference id) = nodes.Reference (by + id)
shifted by (nodes.Object callee arguments by_new acts) = nodes.Object (by + callee) (by + arguments) by_new (map (shifted_act by) acts)
shifted by nodes.None = nodes.None
shifted by (nodes.Bool b) = nodes.Bool b
shifted by (nodes.Number n) = nodes.Number n
shifted by (nodes.Wide bytes) = nodes.Wide bytes
shifted by (nodes.Float bytes) = nodes.Float bytes
shifted by (nodes.Bytes bytes) = nodes.Bytes bytes
shifted by (nodes.OldText bytes) = nodes.OldText bytes
shifted by (nodes.Text bytes) = nodes.Text bytes
shifted by (nodes.Global module_line name_line) = nodes.Global module_line name_line

-- the nodes of graphs, one graph behind the other, and the numbers of their roots
pub record Laid : Type 0 where
  pub nodes : List Node
  pub roots : List ℕ

abbrev pub no_graphs : Laid
no_graphs = record { nodes = []; roots = [] }

-- one graph more, which shares no node with those before
abbrev pub laid_on : Laid → Graph → Laid
laid_on laid g = record {
  nodes = laid.nodes ++ map (shifted (length laid.nodes)) g.nodes;
  roots = laid.roots ++ (length laid.nodes + g.root) ∷ [];
}

abbrev pub laid_all : Laid → List Graph → Laid
laid_all laid [] = laid
laid_all laid (g ∷ gs) = laid_all (laid_on laid g) gs

-- a tuple of graphs
abbrev pub closed : Laid → Graph
closed laid = record { nodes = laid.nodes ++ nodes.Tuple laid.roots ∷ []; root = length laid.nodes }

abbrev pub tuple_graph : List Graph → Graph
tuple_graph gs = closed (laid_all no_graphs gs)

-- each node holds what its kind says, and the roots are among them
pub record IsLaid (ns : List Node) (roots : List ℕ) : Type 0 where
  pub each : AreNodes ns ns
  pub rooted : AllBelow (length ns) roots

-- ---- keys, values and links

-- one node
abbrev pub leaf_graph : Node → Graph
leaf_graph node = record { nodes = node ∷ []; root = 0 }

abbrev pub key_node : Key → Node
key_node (keys.Text text) = nodes.Text text
key_node (keys.Bytes bytes) = nodes.Bytes bytes
key_node (keys.Number n) = nodes.Number n

abbrev pub key_graph : Key → Graph
key_graph key = leaf_graph (key_node key)

-- the spelling of a key
abbrev pub key_text : Key → List ℕ
key_text key = leaf_text (key_node key)

-- the graph that was read, if one was
abbrev pub graph_found : Result (Graph × ℕ) PickleError → Graph
graph_found (Ok found) = found.0
graph_found (Err e) = leaf_graph nodes.None

-- a spelling as a pickle: PROTO 3, the spelling, and STOP
abbrev pub value_pickle : List ℕ → List ℕ
value_pickle text = 0x80 ∷ 3 ∷ (text ++ 0x2e ∷ [])

-- the graph that a spelling is read as
unfoldable pub value_graph : List ℕ → Graph
value_graph text = graph_found (graph_at NODE_LIMIT 0 (value_pickle text))

-- a reference to an object: its oid and its class, in a tuple
unfoldable pub link_graph : ℕ → List ℕ → List ℕ → Graph
link_graph oid module_name class_name = record {
  nodes = nodes.Bytes (big_bytes 8 oid) ∷ nodes.Global module_name class_name ∷ nodes.Tuple (0 ∷ 1 ∷ []) ∷ nodes.Reference 2 ∷ [];
  root = 3;
}

-- ---- buckets

-- a value, if one stands, and what follows
abbrev pub with_value : Option (List ℕ) → List Graph → List Graph
with_value None gs = gs
with_value (Some text) gs = value_graph text ∷ gs

-- each key, with its value behind it where it has one
abbrev pub item_graphs : List Item → List Graph
item_graphs [] = []
item_graphs (item ∷ items) = key_graph item.key ∷ with_value item.value (item_graphs items)

-- the link to the next bucket of the class, if there is one
abbrev pub next_graphs : Class → Option ℕ → List Graph
next_graphs class None = []
next_graphs class (Some oid) = link_graph oid class.module_name class.class_name ∷ []

-- The state of a bucket or a set: a tuple of its keys and values, and behind it the next link, if it has one. Each key,
-- each value and the link stand apart: no node is part of two of them.
abbrev pub bucket_graph : Class → BucketContents → Graph
bucket_graph class bucket = tuple_graph (tuple_graph (item_graphs bucket.items) ∷ next_graphs class bucket.next)

-- ---- trees of one leaf

abbrev pub none_graph : Graph
none_graph = leaf_graph nodes.None

-- The state of a tree of one leaf that is no object of its own: None where it has no items, else the leaf's state, without a
-- link, in a tuple in a tuple.
abbrev pub embedded_graph : List Item → Graph
embedded_graph [] = none_graph
embedded_graph (item ∷ items) = tuple_graph (tuple_graph (tuple_graph (tuple_graph (item_graphs (item ∷ items)) ∷ []) ∷ []) ∷ [])

-- ---- objects with others below them

-- each separator, with a link to the child behind it, which is of this class
abbrev pub child_graphs : Class → List Branch → List Graph
child_graphs child [] = []
child_graphs child (branch ∷ branches) = key_graph branch.key ∷ link_graph branch.child child.module_name child.class_name ∷ child_graphs child branches

-- The state of an object with others below it: a tuple of its children, which are of one class, with the separators between
-- them, and behind it a link to the first leaf, which is of the other. Each link and each key stands apart.
abbrev pub inner_graph : Class → Class → Inner → Graph
inner_graph child leaf inner =
    tuple_graph (tuple_graph (link_graph inner.head child.module_name child.class_name ∷ child_graphs child inner.tail) ∷ link_graph inner.first leaf.module_name leaf.class_name ∷ [])
