-- What stands in a bucket. From: the BTrees package; that a value is kept as its spelling is own.
use Rattle.std.specs.Prelude.{◌≡◌, ℕ, List, [], ◌∷◌, map, Option, Some, None, Ok}
use Rattle.pickle_graph.specs.Graph.{Graph, IsGraph}
use Rattle.pickle_writing.specs.Spelling.{spelling_of}
use Rattle.btree_family.specs.declared.key.Key.{Key}
use Rattle.btree_family.specs.declared.bucket.Item.{Item}
use Rattle.btree_family.specs.Rising.{Rises}

-- items, and the bucket that follows, if one does
pub record BucketContents : Type 0 where
  pub items : List Item
  pub next : Option ℕ

-- the keys of items, in their order
abbrev pub keys_of : List Item → List Key
keys_of items = map (λ item. item.key) items

-- the bytes are the spelling of a node of some graph
pub record IsSpelling (text : List ℕ) : Type 0 where
  pub graph : Graph
  pub sound : IsGraph graph.nodes graph.root
  pub spelled : spelling_of graph.nodes graph.root ≡ Ok text

-- a value is a spelling; a member of a set has none
abbrev pub IsValue : Option (List ℕ) → Type 0
IsValue None = Unit {0}
IsValue (Some text) = IsSpelling text

-- the values of these items are spellings
abbrev pub AreValues : List Item → Type 0
AreValues [] = Unit {0}
AreValues (item ∷ items) = IsValue item.value × AreValues items

-- keys rise strictly, and each value that stands is a spelling: the invariant of `Bucket`
pub record IsBucket (items : List Item) : Type 0 where
  pub rises : Rises None (keys_of items)
  pub spelled : AreValues items
