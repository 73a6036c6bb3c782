-- How deep the values of a state are: of how many edges the walks are that start at them. Own.
use Rattle.std.specs.Prelude.{◌≡◌, ℕ, ◌+◌, false, List, [], ◌∷◌, Option, Some, None}
use Rattle.pickle_writing.specs.declared.depth.TheConstants.{WALK_LIMIT}
use Rattle.pickle_graph.specs.Graph.{Graph, IsGraph}
use Rattle.pickle_graph.specs.Walks.{has_walk}
use Rattle.btree_family.specs.declared.bucket.Item.{Item}
use Rattle.btree_family.specs.Classes.{Class}
use Rattle.btree_family.specs.Buckets.{BucketContents, AreValues}
use Rattle.bucket_state.specs.declared.tree.TreeState.TheVariants.{Leaf}
use Rattle.bucket_state.specs.States.{bucket_of}
use Rattle.bucket_state.specs.Trees.{tree_state_of}
use Rattle.bucket_state.specs.Written.{value_graph, bucket_graph, embedded_graph}

-- no walk of so many edges starts at a value
abbrev pub IsShallow : ℕ → Option (List ℕ) → Type 0
IsShallow n None = Unit {0}
IsShallow n (Some text) = has_walk n (value_graph text).nodes (value_graph text).root ≡ false

abbrev pub AreShallow : ℕ → List Item → Type 0
AreShallow n [] = Unit {0}
AreShallow n (item ∷ items) = IsShallow n item.value × AreShallow n items

-- a graph that can be written
abbrev pub IsWrittenWhole : Graph → Type 0
IsWrittenWhole g = has_walk (WALK_LIMIT + 1) g.nodes g.root ≡ false

-- below the root of a bucket's state a value has two edges less, and below that of a tree of one leaf four
abbrev pub bucket_depth : ℕ
bucket_depth = 199

abbrev pub leaf_depth : ℕ
leaf_depth = 197

-- the values of a state that can be written are not too deep for one
abbrev pub ReadIsShallow : Type 0
ReadIsShallow =
    (class : Class) (g : Graph) (bucket : BucketContents) → IsGraph g.nodes g.root → bucket_of class g ≡ Some bucket → IsWrittenWhole g →
    AreShallow bucket_depth bucket.items

abbrev pub ReadLeafIsShallow : Type 0
ReadLeafIsShallow =
    (class : Class) (g : Graph) (leaf : BucketContents) → IsGraph g.nodes g.root → tree_state_of class g ≡ Some (Leaf leaf) → IsWrittenWhole g →
    AreShallow leaf_depth leaf.items

-- a state of such values can be written
abbrev pub WrittenIsShallow : Type 0
WrittenIsShallow =
    (class : Class) (bucket : BucketContents) → AreValues bucket.items → AreShallow bucket_depth bucket.items → IsWrittenWhole (bucket_graph class bucket)

abbrev pub WrittenLeafIsShallow : Type 0
WrittenLeafIsShallow = (items : List Item) → AreValues items → AreShallow leaf_depth items → IsWrittenWhole (embedded_graph items)
