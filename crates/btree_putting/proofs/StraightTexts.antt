-- Records that are made without graphs read back.
use Rattle.std.proofs.Common.{◌≡◌, ℕ, zero, suc, ◌+◌, ◌*◌, ◌≤◌, ◌<◌, Bool, true, false, cond, List, [], ◌∷◌, ◌++◌, length, map, drop, Option, Some, None, Result, Ok, Err, refl, sym, ◌∙◌, ap, subst, arith, append_assoc}
use Rattle.std.specs.Prelude.{◌&&◌, if◌then◌else◌, slice_get, eqb, IsSome, ◌==◌}
use Rattle.std.specs.Option.{option_map}
use Rattle.std.specs.Ordering.{is_lt}
use Rattle.std.specs.Cmp.Lexicographic.{pointwise}
use Rattle.std.proofs.lemmas.Cmp.{nat_eq_equiv}
use Rattle.pickle_graph.specs.declared.node.Node.TheVariants as kinds
use Rattle.pickle_graph.specs.Graph.{Graph, IsGraph, IsGlobal}
use Rattle.pickle_graph.specs.Class.{is_class}
use Rattle.pickle_graph.specs.Same.{IsSame, AreSame}
use Rattle.pickle_graph.specs.Walks.{has_walk}
use Rattle.pickle_reading.specs.declared.reading.TheConstants.{NODE_LIMIT}
use Rattle.pickle_reading.specs.Reading.{graph_at, graph_behind}
use Rattle.pickle_writing.specs.Spelling.{Spelled, piece_of, root_piece, spelling_of, pickled, pickle_text}
use Rattle.zb_record.specs.Records.{record_of, one_behind, object_text}
use Rattle.zb_record.specs.Laws.{CanBeRead, ReadIsRecord, RecordIsReadBack, WrittenRecordReadsBack}
use Rattle.zb_record.specs.declared.record.ObjectRecord.{ObjectRecord}
use Rattle.btree_family.specs.declared.key.Key.{Key}
use Rattle.btree_family.specs.declared.bucket.Item.{Item}
use Rattle.btree_family.specs.declared.table.Kind.{Kind}
use Rattle.btree_family.specs.declared.table.Kind.TheVariants as families
use Rattle.btree_family.specs.Keys.{rank_of}
use Rattle.btree_family.specs.KeyLaws.{key_eq-equiv}
use Rattle.btree_family.specs.Rising.{Rises, is_key_above}
use Rattle.btree_family.specs.Classes.{Class, classes, leaf_in}
use Rattle.btree_family.specs.Buckets.{BucketContents, IsBucket, keys_of}
use Rattle.bucket_state.specs.States.{bucket_of, stand_in_row, follows}
use Rattle.bucket_state.specs.Laws.{IsLink, WrittenBucketReadsBack, SameHoldsTheSame}
use Rattle.bucket_state.specs.Writable.{AreWritable}
use Rattle.bucket_state.specs.Written.{bucket_graph}
use Rattle.bucket_state.specs.Flat.{IsFlatState, FlatStand, FlatIsSpelled, FlatMakesFew}
use Rattle.bucket_state.specs.FlatGraphs.{IsSignedKey, AreSignedKeys, FlatIsSound, FlatIsNamed}
use Rattle.btree_shapes.specs.declared.node.Node.{Node}
use Rattle.btree_shapes.specs.declared.node.Node.TheVariants.{Leaf}
use Rattle.btree_shapes.specs.declared.reading.Entry.{Entry}
use Rattle.btree_shapes.specs.Classes.{is_class_of}
use Rattle.btree_shapes.specs.Nodes.{node_of_kind, own_node, node_of_leaf, leaf_named, node_of}
use Rattle.btree_putting.specs.declared.puts.Put.{Put}
use Rattle.btree_putting.specs.declared.straight.TheConstants.{MOST_ITEMS}
use Rattle.btree_putting.specs.declared.trying.Written.{Written}
use Rattle.btree_putting.specs.Items.{same_value, same_item, same_items}
use Rattle.btree_putting.specs.Kept.{HasRecordBack, HasTextBack}
use Rattle.btree_putting.specs.Puts.{same_link, same_node}
use Rattle.btree_putting.specs.Storing.{IsSoundRecord}
use Rattle.btree_putting.specs.Straight.{is_kind_after, are_of_one_kind, global_pickle, IsLoneClass, IsStraightState, IsStraightText, is_leaf_kind, ReadsAsLeaf, IsClassBack, IsTriedSo, StraightIsTried}
use Rattle.btree_putting.specs.Writing.{graph_read, node_writable, node_graph, AreNodeValues}
use Rattle.btree_putting.proofs.Keeping.{is_record}
use Rattle.btree_putting.proofs.Tried.{same_copy, text_back, is_kept}
use Rattle.btree_putting.proofs.Writables.{all_writable}

-- ---- keys

follows_so : (low : Option Key) (key : Key) → is_key_above low key ≡ true → is_kind_after low key ≡ true → follows low key ≡ true
follows_so None key a k = refl
follows_so (Some before) key a k = ap (λ b. b && (rank_of before == rank_of key)) a ∙ k

first_kind : (b : Bool) (low : Option Key) (keys : List Key) → (if b then are_of_one_kind low keys else false) ≡ true → (b ≡ true) × (are_of_one_kind low keys ≡ true)
first_kind true low keys e = (refl, e)
first_kind false low keys e = absurd cc

-- rising keys of one kind stand in a row
pub row_so : (low : Option Key) (keys : List Key) → Rises low keys → are_of_one_kind low keys ≡ true → stand_in_row low keys ≡ true
row_so low [] r k = refl
row_so low (key ∷ keys) r k =
    let p = first_kind (is_kind_after low key) (Some key) keys k in
    ap (λ b. if b then stand_in_row (Some key) keys else false) (follows_so low key r.0 p.0) ∙ row_so (Some key) keys r.1 p.1

pub state_so : (class : Class) (bucket : BucketContents) (text : List ℕ) → IsBucket bucket.items → are_of_one_kind None (keys_of bucket.items) ≡ true → length bucket.items ≤ MOST_ITEMS → IsLink bucket.next → AreSignedKeys (keys_of bucket.items) → IsFlatState class bucket text → IsStraightState class bucket text
state_so class bucket text b k few link signed f =
    record { rising = row_so None (keys_of bucket.items) b.rises k; few = few; values = b.spelled; link = link; signed = signed; flat = f.flat; text_is = f.spelled }

-- ---- classes

own_kind : (kind : Kind) (class : Class) (state : Graph) → is_leaf_kind kind ≡ true → node_of_kind kind class state ≡ option_map Leaf (bucket_of class state)
own_kind families.Bucket class state k = refl
own_kind families.Set class state k = refl
own_kind families.Tree class state k = absurd cc
own_kind families.TreeSet class state k = absurd cc

-- a record of the class of buckets or sets
pub own_leaf : (class leaf : Class) (own : Graph) → is_class_of class own ≡ true → is_leaf_kind class.kind ≡ true → class ≡ leaf → ReadsAsLeaf class leaf own
own_leaf class leaf own is kind same state =
    ap (λ b. if b then own_node class state else leaf_named class own state) is
    ∙ own_kind class.kind class state kind
    ∙ ap (λ (c : Class). option_map Leaf (bucket_of c state)) same

-- a record of the class of the leaves of a tree
pub leaf_below : (class other leaf : Class) (own : Graph) → is_class_of class own ≡ false → leaf_in classes class ≡ Some other → is_class_of other own ≡ true → other ≡ leaf → ReadsAsLeaf class leaf own
leaf_below class other leaf own no_root found is same state =
    ap (λ b. if b then own_node class state else leaf_named class own state) no_root
    ∙ ap (λ (o : Option Class). node_of_leaf o own state) found
    ∙ ap (λ (b : Bool). if b then option_map Leaf (bucket_of other state) else None) is
    ∙ ap (λ (c : Class). option_map Leaf (bucket_of c state)) same

-- ---- the text of a class

abbrev pub lone : List ℕ → List ℕ → Graph
lone m n = record { nodes = kinds.Global m n ∷ []; root = 0 }

lone_spelled : (m n : List ℕ) → pickle_text (lone m n) ≡ Ok (0x80 ∷ 3 ∷ ((0x63 ∷ (m ++ 10 ∷ (n ++ 10 ∷ []))) ++ 0x2e ∷ []))
unfolding piece_of has_walk
lone_spelled m n = refl

pub lone_made : (m n : List ℕ) → (root_piece (lone m n).nodes (lone m n).root).made ≤ NODE_LIMIT
unfolding piece_of has_walk
lone_made m n = omega arith

lines : (m n : List ℕ) → ((m ++ 10 ∷ []) ++ n) ++ 10 ∷ 0x2e ∷ [] ≡ (m ++ 10 ∷ (n ++ 10 ∷ [])) ++ 0x2e ∷ []
lines m n =
    ap (λ (xs : List ℕ). xs ++ 10 ∷ 0x2e ∷ []) (append_assoc m (10 ∷ []) n)
    ∙ append_assoc m (10 ∷ n) (10 ∷ 0x2e ∷ [])
    ∙ ap (λ (xs : List ℕ). m ++ 10 ∷ xs) (sym (append_assoc n (10 ∷ []) (0x2e ∷ [])))
    ∙ sym (append_assoc m (10 ∷ (n ++ 10 ∷ [])) (0x2e ∷ []))

pub lone_is : (class : Graph) (text : List ℕ) (c : IsLoneClass class text) → class ≡ lone c.module_name c.class_name
lone_is class text c = λ i. record { nodes = c.nodes_are i; root = c.root_is i }

-- the spelled text is that of the bytes that are pushed
abbrev pub ok : List ℕ → Spelled
ok text = Ok text

pub class_spelled : (class : Graph) (text : List ℕ) → IsLoneClass class text → pickle_text class ≡ Ok text
class_spelled class text c =
    ap pickle_text (lone_is class text c)
    ∙ lone_spelled c.module_name c.class_name
    ∙ ap (λ (xs : List ℕ). ok (0x80 ∷ 3 ∷ 0x63 ∷ xs)) (sym (lines c.module_name c.class_name))
    ∙ ap ok (sym c.text_is)

pub class_is : (class : Graph) (text : List ℕ) → IsLoneClass class text → is_class class ≡ true
class_is class text c = ap is_class (lone_is class text c)

-- ---- a node is the same as itself

pub number_self : (n : ℕ) → (n == n) ≡ true
number_self n = nat_eq_equiv.refl n

bytes_self : (xs : List ℕ) → pointwise eqb xs xs ≡ true
bytes_self [] = refl
bytes_self (x ∷ xs) = ap (λ b. b && pointwise eqb xs xs) (number_self x) ∙ bytes_self xs

value_self : (value : Option (List ℕ)) → same_value value value ≡ true
value_self None = refl
value_self (Some text) = bytes_self text

item_self : (item : Item) → same_item item item ≡ true
item_self item = ap (λ b. b && same_value item.value item.value) (key_eq-equiv.refl item.key) ∙ value_self item.value

pub items_self : (items : List Item) → same_items items items ≡ true
items_self [] = refl
items_self (item ∷ items) = ap (λ b. if b then same_items items items else false) (item_self item) ∙ items_self items

link_self : (next : Option ℕ) → same_link next next ≡ true
link_self None = refl
link_self (Some oid) = number_self oid

leaf_self : (node : Node) (bucket : BucketContents) → node ≡ Leaf bucket → same_node node node ≡ true
leaf_self node bucket is =
    ap (λ (n : Node). same_node n n) is
    ∙ ap (λ b. b && same_link bucket.next bucket.next) (items_self bucket.items)
    ∙ link_self bucket.next

-- ---- the whole

pub graph_is : (r : Option Graph) (a b : Graph) → r ≡ Some a → r ≡ Some b → a ≡ b
graph_is r a b e f = cc

-- behind nothing a pickle is read as the first one
pub first_is : (at : ℕ) (bytes : List ℕ) → graph_behind [] [] at bytes ≡ graph_at NODE_LIMIT at bytes
first_is at bytes = let e : NODE_LIMIT + 0 ≡ NODE_LIMIT = omega arith in ap (λ (n : ℕ). graph_at n at bytes) e

pub state_bytes : (class state : List ℕ) → ((class ++ 0x80 ∷ 3 ∷ []) ++ state) ++ 0x2e ∷ [] ≡ class ++ 0x80 ∷ 3 ∷ (state ++ 0x2e ∷ [])
state_bytes class state =
    ap (λ (xs : List ℕ). xs ++ 0x2e ∷ []) (append_assoc class (0x80 ∷ 3 ∷ []) state)
    ∙ append_assoc class (0x80 ∷ 3 ∷ state) (0x2e ∷ [])

pub both_spelled : (class state : Graph) (one two : List ℕ) → pickle_text class ≡ Ok one → pickle_text state ≡ Ok two → object_text class state ≡ Ok (one ++ two)
both_spelled class state one two c s = ap (λ (x : Spelled). one_behind x (pickle_text state)) c ∙ ap (one_behind (Ok one)) s

same_held : SameHoldsTheSame → (class : Class) (g copy : Graph) → AreSame g copy → bucket_of class copy ≡ bucket_of class g
same_held law class g copy s = (law class s.whole copy s.second).0 ∙ sym (law class s.whole g s.first).0

module _ (back : WrittenRecordReadsBack) (is_read : ReadIsRecord) (bucket_back : WrittenBucketReadsBack) (alike : SameHoldsTheSame) (stand : FlatStand) (spelled : FlatIsSpelled) (few : FlatMakesFew) (sound : FlatIsSound) (named : FlatIsNamed) where
  room : (leaf : Class) (bucket : BucketContents) (text : List ℕ) → IsStraightState leaf bucket text → (root_piece (bucket_graph leaf bucket).nodes (bucket_graph leaf bucket).root).made ≤ NODE_LIMIT
  room leaf bucket text s = let most = s.few in let made = few leaf bucket s.flat in omega (arith, most, made)

  bucket_held : (leaf : Class) (bucket : BucketContents) (text : List ℕ) → IsStraightState leaf bucket text → bucket_of leaf (bucket_graph leaf bucket) ≡ Some bucket
  bucket_held leaf bucket text s =
      bucket_back leaf bucket (record { items = (stand _ _ _ bucket.items s.flat).0; rising = s.rising; link = s.link })

  state_spelled : (leaf : Class) (bucket : BucketContents) (text : List ℕ) → IsStraightState leaf bucket text → pickle_text (bucket_graph leaf bucket) ≡ Ok (0x80 ∷ 3 ∷ (text ++ 0x2e ∷ []))
  state_spelled leaf bucket text s = ap pickled (spelled leaf bucket s.flat) ∙ ap (λ (xs : List ℕ). ok (0x80 ∷ 3 ∷ (xs ++ 0x2e ∷ []))) (sym s.text_is)

  keys_so : (put : Put) (bucket : BucketContents) → put.node ≡ Leaf bucket → node_writable put.node ≡ true → AreWritable (keys_of bucket.items)
  keys_so put bucket is w = all_writable (keys_of bucket.items) (sym (ap node_writable is) ∙ w)

  state_sound : (leaf : Class) (put : Put) (bytes : List ℕ) → IsGlobal leaf.module_name leaf.class_name → (t : IsStraightText leaf put bytes) → IsGraph (bucket_graph leaf t.bucket).nodes (bucket_graph leaf t.bucket).root
  state_sound leaf put bytes g t = sound leaf t.bucket g (keys_so put t.bucket t.node_is t.writable) t.state_is.signed t.state_is.flat

  can_read : (leaf : Class) (put : Put) (bytes : List ℕ) → IsGlobal leaf.module_name leaf.class_name → (t : IsStraightText leaf put bytes) → CanBeRead put.class (bucket_graph leaf t.bucket)
  can_read leaf put bytes g t =
      let c = t.class_is in
      let is = lone_is put.class t.class_text c in
      let keys = keys_so put t.bucket t.node_is t.writable in
      subst (λ (x : Graph). CanBeRead x (bucket_graph leaf t.bucket)) (sym is) (record {
        class_graph = subst (λ (x : Graph). IsGraph x.nodes x.root) is c.graph;
        state_graph = state_sound leaf put bytes g t;
        class_is = refl;
        class_named = refl;
        state_named = named leaf t.bucket g keys t.state_is.signed t.state_is.flat;
        class_room = lone_made c.module_name c.class_name;
        state_room = room leaf t.bucket t.state_text t.state_is;
      })

  read_back : (leaf : Class) (put : Put) (bytes : List ℕ) → IsGlobal leaf.module_name leaf.class_name → (t : IsStraightText leaf put bytes) → RecordIsReadBack put.class (bucket_graph leaf t.bucket) (t.class_text ++ 0x80 ∷ 3 ∷ (t.state_text ++ 0x2e ∷ []))
  read_back leaf put bytes g t =
      back put.class (bucket_graph leaf t.bucket) (t.class_text ++ 0x80 ∷ 3 ∷ (t.state_text ++ 0x2e ∷ []))
      (can_read leaf put bytes g t)
      (both_spelled put.class (bucket_graph leaf t.bucket) t.class_text (0x80 ∷ 3 ∷ (t.state_text ++ 0x2e ∷ []))
      (class_spelled put.class t.class_text t.class_is) (state_spelled leaf t.bucket t.state_text t.state_is))

  bytes_so : (leaf : Class) (put : Put) (bytes : List ℕ) (t : IsStraightText leaf put bytes) → bytes ≡ t.class_text ++ 0x80 ∷ 3 ∷ (t.state_text ++ 0x2e ∷ [])
  bytes_so leaf put bytes t = t.bytes_are ∙ state_bytes t.class_text t.state_text

  record_back : (class leaf : Class) (put : Put) (bytes : List ℕ) (own : Graph) → IsGlobal leaf.module_name leaf.class_name → IsStraightText leaf put bytes → IsClassBack class leaf put bytes own → HasRecordBack class put (record_of bytes) (record { class = own; node = put.node })
  record_back class leaf put bytes own g t c =
      let r = read_back leaf put bytes g t in
      let state : Graph = bucket_graph leaf t.bucket in
      let text : List ℕ = t.class_text ++ 0x80 ∷ 3 ∷ (t.state_text ++ 0x2e ∷ []) in
      let reads : record_of bytes ≡ Ok (r.class_copy, r.state_copy) = ap record_of (bytes_so leaf put bytes t) ∙ r.reads in
      let told = is_read bytes r.class_copy r.state_copy reads in
      let first : graph_at NODE_LIMIT 0 bytes ≡ Ok (r.class_copy, told.is.behind) = sym (first_is 0 bytes) ∙ told.class_reads in
      let same : r.class_copy ≡ own = graph_is (graph_read (graph_at NODE_LIMIT 0 bytes)) r.class_copy own (ap graph_read first) c.reads in
      let whole : record_of bytes ≡ Ok (own, r.state_copy) = reads ∙ ap (λ (x : Graph). Ok (x, r.state_copy)) same in
      let held : bucket_of leaf r.state_copy ≡ Some t.bucket = same_held alike leaf state r.state_copy r.state_same ∙ bucket_held leaf t.bucket t.state_text t.state_is in
      let node : node_of class own r.state_copy ≡ Some put.node = c.as_leaf r.state_copy ∙ ap (option_map Leaf) held ∙ ap Some (sym t.node_is) in
      let copy = same_copy class put own r.state_copy put.node c.same node (leaf_self put.node t.bucket t.node_is) in
      subst (λ x. HasRecordBack class put x (record { class = own; node = put.node })) (sym whole) copy

  pub straight_tried : StraightIsTried
  straight_tried class leaf put bytes own g t c =
      let state : Graph = node_graph class leaf put.leaves put.node in
      let state_is : state ≡ bucket_graph leaf t.bucket = ap (node_graph class leaf put.leaves) t.node_is in
      let object : ObjectRecord = record { class = put.class; state = state; class_is = class_is put.class t.class_text t.class_is } in
      let so = is_record class leaf put object refl refl t.writable (class_is put.class t.class_text t.class_is) in
      let values : AreNodeValues put.node = subst AreNodeValues (sym t.node_is) t.state_is.values in
      let graph : IsGraph state.nodes state.root = subst (λ (x : Graph). IsGraph x.nodes x.root) (sym state_is) (state_sound leaf put bytes g t) in
      let r : IsSoundRecord class leaf put object = record { is_for = so; sound = record { class_graph = t.class_is.graph; state_graph = graph; values = values } } in
      let both : object_text put.class (bucket_graph leaf t.bucket) ≡ Ok (t.class_text ++ 0x80 ∷ 3 ∷ (t.state_text ++ 0x2e ∷ [])) =
      both_spelled put.class (bucket_graph leaf t.bucket) t.class_text (0x80 ∷ 3 ∷ (t.state_text ++ 0x2e ∷ []))
      (class_spelled put.class t.class_text t.class_is) (state_spelled leaf t.bucket t.state_text t.state_is) in
      let text : object_text object.class object.state ≡ Ok bytes = ap (object_text put.class) state_is ∙ both ∙ ap ok (sym (bytes_so leaf put bytes t)) in
      is_kept class leaf put object (record { bytes = bytes; entry = record { class = own; node = put.node } }) r
      (text_back class put (object_text object.class object.state) bytes (record { class = own; node = put.node }) text (record_back class leaf put bytes own g t c))

-- by the law above, what was made and read back was tried
pub tried_so : (class leaf : Class) (put : Put) (bytes : List ℕ) (own copy : Graph) (node : Node) → StraightIsTried → IsGlobal leaf.module_name leaf.class_name → IsStraightText leaf put bytes → IsClassBack class leaf put bytes own → copy ≡ own → node ≡ put.node → IsTriedSo class leaf put (record { bytes = bytes; entry = record { class = copy; node = node } })
tried_so class leaf put bytes own copy node law g t c same alike =
    subst (λ (x : Entry). IsTriedSo class leaf put (record { bytes = bytes; entry = x })) (λ i. record { class = sym same i; node = sym alike i }) (law class leaf put bytes own g t c)

-- numbers of the keys from here on, and of all
pub signed_push : (key : Key) (keys : List Key) → IsSignedKey key → AreSignedKeys keys → AreSignedKeys (key ∷ keys)
signed_push key keys s all = (s, all)
