-- Laws of spellings and of states.
use Rattle.std.specs.Prelude.{◌≡◌, ℕ, ◌≤◌, ◌<◌, ◌^◌, Bool, true, false, List, [], ◌∷◌, Option, Some, None, Ok, slice_get, if◌then◌else◌}
use Rattle.std.specs.Option.{option_map, option_and_then}
use Rattle.byteorder.specs.Endian.{big_bytes, big_number}
use Rattle.pickle_graph.specs.declared.node.Node.{Node}
use Rattle.pickle_reading.specs.declared.reading.TheConstants.{NODE_LIMIT}
use Rattle.pickle_graph.specs.Graph.{Graph, IsGraph}
use Rattle.pickle_graph.specs.Same.{IsSame}
use Rattle.pickle_writing.specs.Spelling.{spelling_of, root_piece}
use Rattle.btree_family.specs.declared.table.KeyKind.{KeyKind}
use Rattle.btree_family.specs.declared.table.ValueKind.{ValueKind}
use Rattle.btree_family.specs.Classes.{Class}
use Rattle.btree_family.specs.declared.bucket.Item.{Item}
use Rattle.btree_family.specs.Families.{key_fits}
use Rattle.btree_family.specs.Buckets.{BucketContents, AreValues, keys_of}
use Rattle.bucket_state.specs.States.{value_fits, has_values, stand_in_row, bucket_of, found_all}
use Rattle.bucket_state.specs.declared.tree.Branch.{Branch}
use Rattle.bucket_state.specs.declared.tree.Inner.{Inner}
use Rattle.bucket_state.specs.declared.tree.TreeState.{TreeState}
use Rattle.bucket_state.specs.declared.tree.TreeState.TheVariants.{Empty, Leaf, Children}
use Rattle.bucket_state.specs.Trees.{tree_state_of, standing_branches}
use Rattle.bucket_state.specs.Written.{bucket_graph, embedded_graph, inner_graph}

-- graphs that are the same are spelled alike
abbrev pub SameIsSpelledAlike : Type 0
SameIsSpelledAlike = (g copy : Graph) → IsSame g copy → spelling_of copy.nodes copy.root ≡ spelling_of g.nodes g.root

-- there is a node, and it may be a value of the family
abbrev pub node_fits : ValueKind → Option Node → Bool
node_fits kind None = false
node_fits kind (Some found) = value_fits kind found

-- the spelling of a node that may be a value of the family, which makes no more nodes than a pickle may have
pub record IsFamilyValue (kind : ValueKind) (text : List ℕ) : Type 0 where
  pub graph : Graph
  pub sound : IsGraph graph.nodes graph.root
  pub spelled : spelling_of graph.nodes graph.root ≡ Ok text
  pub fits : node_fits kind (slice_get graph.nodes graph.root) ≡ true
  pub room : (root_piece graph.nodes graph.root).made ≤ NODE_LIMIT

-- a value stands exactly where the class has values, and is one of the family
abbrev pub ValueStands : Bool → ValueKind → Option (List ℕ) → Type 0
ValueStands true kind None = ⊥
ValueStands true kind (Some text) = IsFamilyValue kind text
ValueStands false kind None = Unit {0}
ValueStands false kind (Some text) = ⊥

-- keys and values of the family
abbrev pub ItemsStand : Bool → KeyKind → ValueKind → List Item → Type 0
ItemsStand values key_kind value_kind [] = Unit {0}
ItemsStand values key_kind value_kind (item ∷ items) =
    (key_fits key_kind item.key ≡ true) × ValueStands values value_kind item.value × ItemsStand values key_kind value_kind items

-- the number of an object, if there is one
abbrev pub IsLink : Option ℕ → Type 0
IsLink None = Unit {0}
IsLink (Some oid) = oid < 2 ^ 64

-- a bucket of a class: keys that rise strictly and are of one kind, keys and values of the family, and a link
pub record BucketStands (class : Class) (bucket : BucketContents) : Type 0 where
  pub items : ItemsStand (has_values class.kind) class.key class.value bucket.items
  pub rising : stand_in_row None (keys_of bucket.items) ≡ true
  pub link : IsLink bucket.next

-- what is written of a bucket reads back as it
abbrev pub WrittenBucketReadsBack : Type 0
WrittenBucketReadsBack = (class : Class) (bucket : BucketContents) → BucketStands class bucket → bucket_of class (bucket_graph class bucket) ≡ Some bucket

-- a tree of these items in one leaf
abbrev pub leaf_tree : List Item → TreeState
leaf_tree [] = Empty
leaf_tree (item ∷ items) = Leaf (record { items = item ∷ items; next = None })

-- what is written of a tree of one leaf reads back as it
abbrev pub WrittenLeafReadsBack : Type 0
WrittenLeafReadsBack =
    (class : Class) (items : List Item) → BucketStands class (record { items = items; next = None }) → tree_state_of class (embedded_graph items) ≡ Some (leaf_tree items)

-- ---- the same graphs, and other links

-- graphs that are the same hold the same bucket, and the same tree's object
abbrev pub SameHoldsTheSame : Type 0
SameHoldsTheSame = (class : Class) (g copy : Graph) → IsSame g copy → (bucket_of class copy ≡ bucket_of class g) × (tree_state_of class copy ≡ tree_state_of class g)

-- the number that eight bytes give back
abbrev pub oid_back : ℕ → ℕ
oid_back oid = big_number 8 (big_bytes 8 oid)

-- items with a link to this bucket
abbrev pub with_link : ℕ → Option BucketContents → Option BucketContents
with_link oid None = None
with_link oid (Some bucket) = Some (record { items = bucket.items; next = Some oid })

-- the state of a bucket with a link holds that of the bucket without one, and the link; `class` is that by which it is read, and
-- `leaf` that which the link names
abbrev pub LinkStandsApart : Type 0
LinkStandsApart =
    (class leaf : Class) (items : List Item) (oid : ℕ) → AreValues items →
    bucket_of class (bucket_graph leaf (record { items = items; next = Some oid })) ≡ with_link (oid_back oid) (bucket_of class (bucket_graph leaf (record { items = items; next = None })))

-- a branch as it reads back, where its key is one of the family
abbrev pub branch_back : KeyKind → Branch → Option Branch
branch_back kind branch = if key_fits kind branch.key then Some (record { key = branch.key; child = oid_back branch.child }) else None

abbrev pub branches_back : KeyKind → List Branch → Option (List Branch)
branches_back kind branches = found_all (branch_back kind) branches

-- an object with others below it as it reads back, where its keys are of the family, rise strictly and are of one kind
abbrev pub inner_back : KeyKind → Inner → Option TreeState
inner_back kind inner =
    option_map (λ tail. Children (record { head = oid_back inner.head; tail = tail; first = oid_back inner.first })) (option_and_then standing_branches (branches_back kind inner.tail))

-- what is written of an object with others below it reads back so
abbrev pub WrittenInnerReadsBack : Type 0
WrittenInnerReadsBack = (class child leaf : Class) (inner : Inner) → tree_state_of class (inner_graph child leaf inner) ≡ inner_back class.key inner
