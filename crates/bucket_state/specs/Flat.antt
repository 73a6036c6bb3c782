-- States whose values are leaves, and their texts, which are made with no graph. Own.
use Rattle.std.specs.Prelude.{◌≡◌, ℕ, zero, suc, ◌+◌, ◌*◌, ◌≤◌, nat_lt, if◌then◌else◌, Bool, true, false, List, [], ◌∷◌, ◌++◌, length, Option, Some, None, Ok}
use Rattle.byteorder.specs.Endian.{big_bytes}
use Rattle.pickle_graph.specs.declared.node.Node.{Node}
use Rattle.pickle_graph.specs.declared.node.Node.TheVariants as nodes
use Rattle.pickle_graph.specs.Graph.{IsNode}
use Rattle.pickle_graph.specs.Parts.{is_held}
use Rattle.pickle_writing.specs.Spelling.{leaf_text, spelling_of, root_piece}
use Rattle.btree_family.specs.declared.table.KeyKind.{KeyKind}
use Rattle.btree_family.specs.declared.table.ValueKind.{ValueKind}
use Rattle.btree_family.specs.Classes.{Class}
use Rattle.btree_family.specs.declared.bucket.Item.{Item}
use Rattle.btree_family.specs.Families.{key_fits}
use Rattle.btree_family.specs.Buckets.{BucketContents, AreValues}
use Rattle.bucket_state.specs.States.{value_fits, has_values}
use Rattle.bucket_state.specs.Written.{key_text, bucket_graph}
use Rattle.bucket_state.specs.Laws.{ItemsStand}
use Rattle.bucket_state.specs.Depths.{AreShallow}

-- ---- flat values

-- the text of a leaf, which may be a value of the family
pub record IsFlatValue (kind : ValueKind) (text : List ℕ) : Type 0 where
  pub leaf : Node
  pub sound : IsNode (leaf ∷ []) leaf
  pub lone : is_held leaf ≡ false
  pub fits : value_fits kind leaf ≡ true
  pub spelled : leaf_text leaf ≡ text

-- a value stands exactly where the class has values, and is a flat one of the family
abbrev pub FlatStands : Bool → ValueKind → Option (List ℕ) → Type 0
FlatStands true kind None = ⊥
FlatStands true kind (Some text) = IsFlatValue kind text
FlatStands false kind None = Unit {0}
FlatStands false kind (Some text) = ⊥

-- keys and flat values of the family
abbrev pub AreFlat : Bool → KeyKind → ValueKind → List Item → Type 0
AreFlat values key_kind value_kind [] = Unit {0}
AreFlat values key_kind value_kind (item ∷ items) =
    (key_fits key_kind item.key ≡ true) × FlatStands values value_kind item.value × AreFlat values key_kind value_kind items

-- keys and flat values of the class
abbrev pub FlatItems : Class → List Item → Type 0
FlatItems class items = AreFlat (has_values class.kind) class.key class.value items

-- ---- their text

-- texts, one behind the other
abbrev pub texts_of : List (List ℕ) → List ℕ
texts_of [] = []
texts_of (text ∷ texts) = text ++ texts_of texts

-- of more than three members, a MARK stands before them
abbrev pub tuple_start : ℕ → List ℕ
tuple_start n = if nat_lt 3 n then 0x28 ∷ [] else []

-- behind the members: EMPTY_TUPLE, TUPLE1, TUPLE2 or TUPLE3, and of more TUPLE
abbrev pub tuple_end : ℕ → List ℕ
tuple_end zero = 0x29 ∷ []
tuple_end (suc zero) = 0x85 ∷ []
tuple_end (suc (suc zero)) = 0x86 ∷ []
tuple_end (suc (suc (suc zero))) = 0x87 ∷ []
tuple_end (suc (suc (suc (suc n)))) = 0x74 ∷ []

-- the text of a tuple of members with these texts
abbrev pub tuple_text : List (List ℕ) → List ℕ
tuple_text texts = tuple_start (length texts) ++ (texts_of texts ++ tuple_end (length texts))

-- a value, if one stands, and what follows
abbrev pub value_text : Option (List ℕ) → List (List ℕ) → List (List ℕ)
value_text None texts = texts
value_text (Some text) texts = text ∷ texts

-- each key, with its value behind it where it has one
abbrev pub item_texts : List Item → List (List ℕ)
item_texts [] = []
item_texts (item ∷ items) = key_text item.key ∷ value_text item.value (item_texts items)

-- how many members the tuple of so many items has, with values or without
abbrev pub members_of : Bool → ℕ → ℕ
members_of true items = items * 2
members_of false items = items

-- a reference to an object: its oid and its class, TUPLE2, and BINPERSID
abbrev pub link_text : ℕ → List ℕ → List ℕ → List ℕ
link_text oid module_name class_name =
    leaf_text (nodes.Bytes (big_bytes 8 oid)) ++ (leaf_text (nodes.Global module_name class_name) ++ 0x86 ∷ 0x51 ∷ [])

-- the link to the next bucket of the class, if there is one
abbrev pub next_texts : Class → Option ℕ → List (List ℕ)
next_texts class None = []
next_texts class (Some oid) = link_text oid class.module_name class.class_name ∷ []

-- the link, and the end of a tuple of it and one member more
abbrev pub next_text : Class → Option ℕ → List ℕ
next_text class next = texts_of (next_texts class next) ++ tuple_end (suc (length (next_texts class next)))

-- the text of a bucket's state
abbrev pub flat_text : Class → BucketContents → List ℕ
flat_text class bucket = tuple_text (tuple_text (item_texts bucket.items) ∷ next_texts class bucket.next)

-- flat items of the class went behind a text
pub record IsWithItems (class : Class) (before : List ℕ) (items : List Item) (text : List ℕ) : Type 0 where
  pub flat : FlatItems class items
  pub spelled : text ≡ before ++ texts_of (item_texts items)

-- a bucket of flat values of the class, and the text of its state
pub record IsFlatState (class : Class) (bucket : BucketContents) (text : List ℕ) : Type 0 where
  pub flat : FlatItems class bucket.items
  pub spelled : text ≡ flat_text class bucket

-- ---- laws

-- flat values are values of the family
abbrev pub FlatStand : Type 0
FlatStand =
    (values : Bool) (key_kind : KeyKind) (value_kind : ValueKind) (items : List Item) → AreFlat values key_kind value_kind items →
    ItemsStand values key_kind value_kind items × AreValues items

-- no walk of an edge starts at one
abbrev pub FlatAreShallow : Type 0
FlatAreShallow =
    (values : Bool) (key_kind : KeyKind) (value_kind : ValueKind) (items : List Item) (n : ℕ) → AreFlat values key_kind value_kind items →
    AreShallow (suc n) items

-- the text of a bucket's state is the spelling of its graph
abbrev pub FlatIsSpelled : Type 0
FlatIsSpelled =
    (class : Class) (bucket : BucketContents) → FlatItems class bucket.items →
    spelling_of (bucket_graph class bucket).nodes (bucket_graph class bucket).root ≡ Ok (flat_text class bucket)

-- it makes a node for each key and value, one for the tuple of them, and at most five more
abbrev pub FlatMakesFew : Type 0
FlatMakesFew =
    (class : Class) (bucket : BucketContents) → FlatItems class bucket.items →
    (root_piece (bucket_graph class bucket).nodes (bucket_graph class bucket).root).made ≤ 2 * length bucket.items + 6
