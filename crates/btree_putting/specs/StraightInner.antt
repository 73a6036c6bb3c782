-- Records of objects with others below them whose texts are made without graphs, and need not be read back. Own.
use Rattle.std.specs.Prelude.{◌≡◌, ℕ, ◌≤◌, ◌<◌, ◌^◌, Bool, true, false, List, [], ◌∷◌, ◌++◌, length, Option, Some, None, if◌then◌else◌}
use Rattle.std.specs.Option.{option_map}
use Rattle.pickle_graph.specs.Graph.{Graph, IsGlobal}
use Rattle.pickle_reading.specs.declared.reading.TheConstants.{NODE_LIMIT}
use Rattle.pickle_reading.specs.Reading.{graph_at}
use Rattle.btree_family.specs.declared.table.KeyKind.{KeyKind}
use Rattle.btree_family.specs.declared.table.Kind.{Kind}
use Rattle.btree_family.specs.declared.table.Kind.TheVariants as families
use Rattle.btree_family.specs.Classes.{Class}
use Rattle.btree_family.specs.Families.{key_fits}
use Rattle.bucket_state.specs.declared.tree.Branch.{Branch}
use Rattle.bucket_state.specs.declared.tree.Inner.{Inner}
use Rattle.bucket_state.specs.States.{stand_in_row}
use Rattle.bucket_state.specs.Trees.{separators_of, tree_state_of}
use Rattle.bucket_state.specs.FlatGraphs.{AreSignedKeys}
use Rattle.bucket_state.specs.InnerText.{inner_text}
use Rattle.btree_shapes.specs.declared.node.Node.TheVariants as node
use Rattle.btree_shapes.specs.Classes.{class_named}
use Rattle.btree_shapes.specs.Nodes.{lone_or_inner, node_of}
use Rattle.btree_putting.specs.declared.puts.Put.{Put}
use Rattle.btree_putting.specs.declared.straight_inner.TheConstants.{MOST_CHILDREN}
use Rattle.btree_putting.specs.Puts.{is_class_kept}
use Rattle.btree_putting.specs.Straight.{IsLoneClass, IsTriedSo}
use Rattle.btree_putting.specs.Writing.{graph_read, child_class, node_writable}

-- the separators are keys of the family
abbrev pub branches_fit : KeyKind → List Branch → Bool
branches_fit kind [] = true
branches_fit kind (branch ∷ branches) = if key_fits kind branch.key then branches_fit kind branches else false

-- the children have numbers of 64 bits
abbrev pub AreNumbered : List Branch → Type 0
AreNumbered [] = Unit {0}
AreNumbered (branch ∷ branches) = (branch.child < 2 ^ 64) × AreNumbered branches

-- separators are numbers of 128 bits with a sign, or none, and children have numbers of 64 bits
pub record AreSeen (branches : List Branch) : Type 0 where
  pub signed : AreSignedKeys (separators_of branches)
  pub numbered : AreNumbered branches

-- an object with others below it whose state has this text, made of no more nodes than a pickle may have
pub record IsStraightInner (class child leaf : Class) (inner : Inner) (text : List ℕ) : Type 0 where
  pub rising : stand_in_row None (separators_of inner.tail) ≡ true
  pub fit : branches_fit class.key inner.tail ≡ true
  pub few : length inner.tail ≤ MOST_CHILDREN
  pub head : inner.head < 2 ^ 64
  pub first : inner.first < 2 ^ 64
  pub seen : AreSeen inner.tail
  pub text_is : text ≡ inner_text child leaf inner

-- the record of a put that has others below it
pub record IsInnerText (class leaf : Class) (put : Put) (bytes : List ℕ) : Type 0 where
  pub inner : Inner
  pub node_is : put.node ≡ node.Inner inner
  pub writable : node_writable put.node ≡ true
  pub class_text : List ℕ
  pub state_text : List ℕ
  pub class_is : IsLoneClass put.class class_text
  pub state_is : IsStraightInner class (child_class class leaf put.leaves) leaf inner state_text
  pub bytes_are : bytes ≡ ((class_text ++ 0x80 ∷ 3 ∷ []) ++ state_text) ++ 0x2e ∷ []

-- the class is one of trees
abbrev pub is_tree_kind : Kind → Bool
is_tree_kind families.Bucket = false
is_tree_kind families.Set = false
is_tree_kind families.Tree = true
is_tree_kind families.TreeSet = true

-- a record of this class is read as an object of a tree of the other one
abbrev pub ReadsAsTree : Class → Graph → Type 0
ReadsAsTree class own = (state : Graph) → node_of class own state ≡ option_map lone_or_inner (tree_state_of class state)

-- the class of a record, as it is read back: the same class of BTrees, which is that of the tree
pub record IsTreeBack (class : Class) (put : Put) (bytes : List ℕ) (own : Graph) : Type 0 where
  pub reads : graph_read (graph_at NODE_LIMIT 0 bytes) ≡ Some own
  pub same : is_class_kept put.class (class_named own) ≡ true
  pub as_tree : ReadsAsTree class own

-- where the record of an object with others below it is made so, and its class is read back, trying the put gives these bytes,
-- the class as it is read back and the node of the put
abbrev pub InnerIsTried : Type 0
InnerIsTried =
    (class leaf : Class) (put : Put) (bytes : List ℕ) (own : Graph) → IsGlobal class.module_name class.class_name → IsGlobal leaf.module_name leaf.class_name →
    IsInnerText class leaf put bytes → IsTreeBack class put bytes own →
    IsTriedSo class leaf put (record { bytes = bytes; entry = record { class = own; node = put.node } })
