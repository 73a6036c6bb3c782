-- The text of the state of a tree of one leaf that is no object of its own, which is made with no graph. Own.
use Rattle.std.specs.Prelude.{◌≡◌, ℕ, ◌+◌, ◌*◌, ◌≤◌, List, [], ◌∷◌, length, Ok}
use Rattle.std.specs.Option.{IsSome}
use Rattle.pickle_graph.specs.Graph.{IsGraph}
use Rattle.pickle_references.specs.Named.{oids_of}
use Rattle.pickle_writing.specs.Spelling.{spelling_of, root_piece}
use Rattle.btree_family.specs.Classes.{Class}
use Rattle.btree_family.specs.declared.bucket.Item.{Item}
use Rattle.btree_family.specs.Buckets.{keys_of}
use Rattle.bucket_state.specs.Writable.{AreWritable}
use Rattle.bucket_state.specs.Written.{embedded_graph}
use Rattle.bucket_state.specs.Flat.{FlatItems, tuple_text, item_texts}
use Rattle.bucket_state.specs.FlatGraphs.{AreSignedKeys}

-- the text of the tree's state: None where it has no items, else that of their tuple, in a tuple in a tuple in a tuple
abbrev pub embedded_text : List Item → List ℕ
embedded_text [] = 0x4e ∷ []
embedded_text (item ∷ items) = tuple_text (tuple_text (tuple_text (tuple_text (item_texts (item ∷ items)) ∷ []) ∷ []) ∷ [])

-- flat items of the class, and the text of the state of a tree of them
pub record IsFlatTree (class : Class) (items : List Item) (text : List ℕ) : Type 0 where
  pub flat : FlatItems class items
  pub spelled : text ≡ embedded_text items

-- the text of such a state is the spelling of its graph
abbrev pub LoneIsSpelled : Type 0
LoneIsSpelled =
    (class : Class) (items : List Item) → FlatItems class items → spelling_of (embedded_graph items).nodes (embedded_graph items).root ≡ Ok (embedded_text items)

-- it makes a node for each key and value, and at most four more
abbrev pub LoneMakesFew : Type 0
LoneMakesFew =
    (class : Class) (items : List Item) → FlatItems class items → (root_piece (embedded_graph items).nodes (embedded_graph items).root).made ≤ 2 * length items + 4

-- the graph of flat items is one, where their keys can be written
abbrev pub LoneIsSound : Type 0
LoneIsSound =
    (class : Class) (items : List Item) → AreWritable (keys_of items) → AreSignedKeys (keys_of items) → FlatItems class items →
    IsGraph (embedded_graph items).nodes (embedded_graph items).root

-- the references in it all name something
abbrev pub LoneIsNamed : Type 0
LoneIsNamed =
    (class : Class) (items : List Item) → AreWritable (keys_of items) → AreSignedKeys (keys_of items) → FlatItems class items → IsSome (oids_of (embedded_graph items))
