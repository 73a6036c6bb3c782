-- What is read of a state that can be written is not too deep.
use Rattle.std.specs.Prelude.{◌≡◌, Some}
use Rattle.pickle_graph.specs.Graph.{Graph}
use Rattle.btree_family.specs.Classes.{Class}
use Rattle.btree_family.specs.Buckets.{BucketContents}
use Rattle.bucket_state.specs.declared.tree.TreeState.TheVariants as trees
use Rattle.bucket_state.specs.States.{bucket_of}
use Rattle.bucket_state.specs.Trees.{tree_state_of}
use Rattle.bucket_state.specs.Depths.{AreShallow, bucket_depth, leaf_depth}

-- as a bucket or a set, of whichever class
abbrev pub BucketsAreShallow : Graph → Type 0
BucketsAreShallow g = (class : Class) (bucket : BucketContents) → bucket_of class g ≡ Some bucket → AreShallow bucket_depth bucket.items

-- as a tree of one leaf
abbrev pub TreesAreShallow : Graph → Type 0
TreesAreShallow g = (class : Class) (leaf : BucketContents) → tree_state_of class g ≡ Some (trees.Leaf leaf) → AreShallow leaf_depth leaf.items
