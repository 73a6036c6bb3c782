-- Records of trees of one leaf whose texts are made without graphs, and need not be read back. Own.
use Rattle.std.specs.Prelude.{◌≡◌, ℕ, ◌≤◌, Bool, true, false, List, [], ◌∷◌, ◌++◌, length, Option, Some, None}
use Rattle.pickle_graph.specs.Graph.{Graph}
use Rattle.btree_family.specs.Classes.{Class}
use Rattle.btree_family.specs.Buckets.{BucketContents, AreValues, keys_of}
use Rattle.bucket_state.specs.States.{stand_in_row}
use Rattle.bucket_state.specs.Flat.{FlatItems}
use Rattle.bucket_state.specs.FlatGraphs.{AreSignedKeys}
use Rattle.bucket_state.specs.LoneText.{embedded_text}
use Rattle.btree_shapes.specs.declared.node.Node.TheVariants.{Lone}
use Rattle.btree_putting.specs.declared.puts.Put.{Put}
use Rattle.btree_putting.specs.declared.straight.TheConstants.{MOST_ITEMS}
use Rattle.btree_putting.specs.Straight.{IsLoneClass, IsTriedSo}
use Rattle.btree_putting.specs.StraightInner.{IsTreeBack}
use Rattle.btree_putting.specs.Writing.{node_writable}

-- no bucket follows
abbrev pub is_last : Option ℕ → Bool
is_last None = true
is_last (Some oid) = false

-- a leaf without a next one; the state of a tree of it, of this class, has this text, made of no more nodes than a pickle may have
pub record IsStraightLone (class : Class) (bucket : BucketContents) (text : List ℕ) : Type 0 where
  pub rising : stand_in_row None (keys_of bucket.items) ≡ true
  pub few : length bucket.items ≤ MOST_ITEMS
  pub values : AreValues bucket.items
  pub alone : bucket.next ≡ None
  pub signed : AreSignedKeys (keys_of bucket.items)
  pub flat : FlatItems class bucket.items
  pub text_is : text ≡ embedded_text bucket.items

-- the record of a put that is a tree of one leaf
pub record IsLoneText (class : Class) (put : Put) (bytes : List ℕ) : Type 0 where
  pub bucket : BucketContents
  pub node_is : put.node ≡ Lone bucket
  pub writable : node_writable put.node ≡ true
  pub class_text : List ℕ
  pub state_text : List ℕ
  pub class_is : IsLoneClass put.class class_text
  pub state_is : IsStraightLone class bucket state_text
  pub bytes_are : bytes ≡ ((class_text ++ 0x80 ∷ 3 ∷ []) ++ state_text) ++ 0x2e ∷ []

-- where the record of a tree of one leaf is made so, and its class is read back, trying the put gives these bytes, the class as
-- it is read back and the node of the put
abbrev pub LoneIsTried : Type 0
LoneIsTried =
    (class leaf : Class) (put : Put) (bytes : List ℕ) (own : Graph) → IsLoneText class put bytes → IsTreeBack class put bytes own →
    IsTriedSo class leaf put (record { bytes = bytes; entry = record { class = own; node = put.node } })
