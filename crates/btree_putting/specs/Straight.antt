-- Records of leaves whose texts are made without graphs, and need not be read back. Own.
use Rattle.std.specs.Prelude.{◌≡◌, ℕ, ◌≤◌, Bool, true, false, List, [], ◌∷◌, ◌++◌, length, Option, Some, None, ◌==◌, if◌then◌else◌}
use Rattle.std.specs.Option.{option_map}
use Rattle.pickle_graph.specs.declared.node.Node.TheVariants as kinds
use Rattle.pickle_graph.specs.Graph.{Graph, IsGraph, IsGlobal}
use Rattle.pickle_reading.specs.declared.reading.TheConstants.{NODE_LIMIT}
use Rattle.pickle_reading.specs.Reading.{graph_at}
use Rattle.btree_family.specs.declared.key.Key.{Key}
use Rattle.btree_family.specs.Keys.{rank_of}
use Rattle.btree_family.specs.declared.table.Kind.{Kind}
use Rattle.btree_family.specs.declared.table.Kind.TheVariants as families
use Rattle.btree_family.specs.Classes.{Class}
use Rattle.btree_family.specs.Buckets.{BucketContents, AreValues, keys_of}
use Rattle.bucket_state.specs.States.{bucket_of, stand_in_row}
use Rattle.bucket_state.specs.Laws.{IsLink}
use Rattle.bucket_state.specs.Flat.{FlatItems, flat_text}
use Rattle.bucket_state.specs.FlatGraphs.{AreSignedKeys}
use Rattle.btree_shapes.specs.declared.node.Node.TheVariants.{Leaf}
use Rattle.btree_shapes.specs.Classes.{class_named}
use Rattle.btree_shapes.specs.Nodes.{node_of}
use Rattle.btree_putting.specs.declared.puts.Put.{Put}
use Rattle.btree_putting.specs.declared.straight.TheConstants.{MOST_ITEMS}
use Rattle.btree_putting.specs.declared.kept.Kept.{Kept}
use Rattle.btree_putting.specs.declared.trying.Written.{Written}
use Rattle.btree_putting.specs.Kept.{IsTried}
use Rattle.btree_putting.specs.Puts.{is_class_kept}
use Rattle.btree_putting.specs.Writing.{graph_read, node_writable}

-- ---- keys

-- the key is of the kind of the one before it, if there is one
abbrev pub is_kind_after : Option Key → Key → Bool
is_kind_after None key = true
is_kind_after (Some before) key = rank_of before == rank_of key

abbrev pub are_of_one_kind : Option Key → List Key → Bool
are_of_one_kind before [] = true
are_of_one_kind before (key ∷ keys) = if is_kind_after before key then are_of_one_kind (Some key) keys else false

-- ---- texts

-- a class alone, as a pickle
abbrev pub global_pickle : List ℕ → List ℕ → List ℕ
global_pickle module_name class_name = ((((0x80 ∷ 3 ∷ 0x63 ∷ []) ++ module_name) ++ 0x0a ∷ []) ++ class_name) ++ 0x0a ∷ 0x2e ∷ []

-- a class that is one node, and its text
pub record IsLoneClass (class : Graph) (text : List ℕ) : Type 0 where
  pub module_name : List ℕ
  pub class_name : List ℕ
  pub graph : IsGraph class.nodes class.root
  pub nodes_are : class.nodes ≡ kinds.Global module_name class_name ∷ []
  pub root_is : class.root ≡ 0
  pub text_is : text ≡ global_pickle module_name class_name

-- a bucket of the class whose state has this text, made of no more nodes than a pickle may have
pub record IsStraightState (class : Class) (bucket : BucketContents) (text : List ℕ) : Type 0 where
  pub rising : stand_in_row None (keys_of bucket.items) ≡ true
  pub few : length bucket.items ≤ MOST_ITEMS
  pub values : AreValues bucket.items
  pub link : IsLink bucket.next
  pub signed : AreSignedKeys (keys_of bucket.items)
  pub flat : FlatItems class bucket.items
  pub text_is : text ≡ flat_text class bucket

-- the record of a put that is a leaf
pub record IsStraightText (leaf : Class) (put : Put) (bytes : List ℕ) : Type 0 where
  pub bucket : BucketContents
  pub node_is : put.node ≡ Leaf bucket
  pub writable : node_writable put.node ≡ true
  pub class_text : List ℕ
  pub state_text : List ℕ
  pub class_is : IsLoneClass put.class class_text
  pub state_is : IsStraightState leaf bucket state_text
  pub bytes_are : bytes ≡ ((class_text ++ 0x80 ∷ 3 ∷ []) ++ state_text) ++ 0x2e ∷ []

-- ---- what is read back

-- the class is one of buckets or sets
abbrev pub is_leaf_kind : Kind → Bool
is_leaf_kind families.Bucket = true
is_leaf_kind families.Set = true
is_leaf_kind families.Tree = false
is_leaf_kind families.TreeSet = false

-- a record of this class is read as a leaf of the other one
abbrev pub ReadsAsLeaf : Class → Class → Graph → Type 0
ReadsAsLeaf class leaf own = (state : Graph) → node_of class own state ≡ option_map Leaf (bucket_of leaf state)

-- the class of a record, as it is read back: the same class of BTrees, which is that of leaves
pub record IsClassBack (class leaf : Class) (put : Put) (bytes : List ℕ) (own : Graph) : Type 0 where
  pub reads : graph_read (graph_at NODE_LIMIT 0 bytes) ≡ Some own
  pub same : is_class_kept put.class (class_named own) ≡ true
  pub as_leaf : ReadsAsLeaf class leaf own

-- what trying a put gives
abbrev pub IsTriedSo : Class → Class → Put → Written → Type 0
IsTriedSo class leaf put written = IsTried class leaf put (record { put = put; bytes = written.bytes; entry = written.entry })

-- where the record of a leaf is made so, and its class is read back, trying the put gives these bytes, the class as it is
-- read back and the node of the put
abbrev pub StraightIsTried : Type 0
StraightIsTried =
    (class leaf : Class) (put : Put) (bytes : List ℕ) (own : Graph) → IsGlobal leaf.module_name leaf.class_name → IsStraightText leaf put bytes →
    IsClassBack class leaf put bytes own → IsTriedSo class leaf put (record { bytes = bytes; entry = record { class = own; node = put.node } })
