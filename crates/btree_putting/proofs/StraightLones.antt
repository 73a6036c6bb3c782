-- Records of trees of one leaf that are made without graphs read back.
use Rattle.std.proofs.Common.{◌≡◌, ℕ, ◌+◌, ◌*◌, ◌≤◌, true, List, [], ◌∷◌, ◌++◌, length, Option, Some, None, Result, Ok, Err, refl, sym, ◌∙◌, ap, subst, arith}
use Rattle.std.specs.Prelude.{IfOk, IfSome}
use Rattle.std.specs.Option.{option_map}
use Rattle.pickle_graph.specs.Graph.{Graph, IsGraph}
use Rattle.pickle_reading.specs.declared.reading.TheConstants.{NODE_LIMIT}
use Rattle.pickle_reading.specs.Reading.{graph_at}
use Rattle.pickle_writing.specs.Spelling.{root_piece, pickled, pickle_text}
use Rattle.zb_record.specs.Records.{record_of, object_text}
use Rattle.zb_record.specs.Laws.{CanBeRead, ReadIsRecord, RecordIsReadBack, WrittenRecordReadsBack}
use Rattle.zb_record.specs.declared.record.ObjectRecord.{ObjectRecord}
use Rattle.btree_family.specs.declared.bucket.Item.{Item}
use Rattle.btree_family.specs.Classes.{Class}
use Rattle.btree_family.specs.Buckets.{BucketContents, IsBucket, keys_of}
use Rattle.bucket_state.specs.Trees.{tree_state_of}
use Rattle.bucket_state.specs.Laws.{leaf_tree, WrittenLeafReadsBack, SameHoldsTheSame}
use Rattle.bucket_state.specs.Writable.{AreWritable}
use Rattle.bucket_state.specs.Written.{embedded_graph}
use Rattle.bucket_state.specs.Flat.{FlatStand}
use Rattle.bucket_state.specs.FlatGraphs.{AreSignedKeys}
use Rattle.bucket_state.specs.LoneText.{IsFlatTree, LoneIsSpelled, LoneMakesFew, LoneIsSound, LoneIsNamed}
use Rattle.btree_shapes.specs.declared.node.Node.{Node}
use Rattle.btree_shapes.specs.declared.node.Node.TheVariants.{Lone}
use Rattle.btree_shapes.specs.declared.reading.Entry.{Entry}
use Rattle.btree_shapes.specs.Nodes.{lone_or_inner, node_of}
use Rattle.btree_putting.specs.declared.puts.Put.{Put}
use Rattle.btree_putting.specs.declared.straight.TheConstants.{MOST_ITEMS}
use Rattle.btree_putting.specs.Kept.{HasRecordBack}
use Rattle.btree_putting.specs.Puts.{same_node}
use Rattle.btree_putting.specs.Storing.{IsSoundRecord}
use Rattle.btree_putting.specs.Straight.{are_of_one_kind, IsLoneClass, IsTriedSo}
use Rattle.btree_putting.specs.StraightInner.{IsTreeBack}
use Rattle.btree_putting.specs.StraightLone.{is_last, IsStraightLone, IsLoneText, LoneIsTried}
use Rattle.btree_putting.specs.Writing.{graph_read, node_writable, node_graph, AreNodeValues}
use Rattle.btree_putting.proofs.Keeping.{is_record}
use Rattle.btree_putting.proofs.StraightInners.{same_tree}
use Rattle.btree_putting.proofs.StraightTexts.{row_so, items_self, lone_made, lone_is, ok, class_spelled, class_is, graph_is, first_is, state_bytes, both_spelled}
use Rattle.btree_putting.proofs.Tried.{same_copy, text_back, is_kept}
use Rattle.btree_putting.proofs.Writables.{all_writable}

none_follows : (next : Option ℕ) → is_last next ≡ true → next ≡ None
none_follows None e = refl
none_follows (Some oid) e = absurd cc

lone_so : (class : Class) (bucket : BucketContents) (text : List ℕ) → IsBucket bucket.items → are_of_one_kind None (keys_of bucket.items) ≡ true → length bucket.items ≤ MOST_ITEMS → is_last bucket.next ≡ true → AreSignedKeys (keys_of bucket.items) → IsFlatTree class bucket.items text → IsStraightLone class bucket text
lone_so class bucket text b k few alone signed f =
    record { rising = row_so None (keys_of bucket.items) b.rises k; few = few; values = b.spelled; alone = none_follows bucket.next alone; signed = signed; flat = f.flat; text_is = f.spelled }

-- what is answered of the items' text is answered of the state, where there is one
pub found_so : {E : Type 0} (class : Class) (bucket : BucketContents) (result : Result (Option (List ℕ)) E) → IsBucket bucket.items → are_of_one_kind None (keys_of bucket.items) ≡ true → length bucket.items ≤ MOST_ITEMS → is_last bucket.next ≡ true → AreSignedKeys (keys_of bucket.items) → IfOk result (λ found. IfSome found (IsFlatTree class bucket.items)) → IfOk result (λ found. IfSome found (IsStraightLone class bucket))
found_so class bucket (Ok None) b k few alone signed f = tt
found_so class bucket (Ok (Some text)) b k few alone signed f = lone_so class bucket text b k few alone signed f
found_so class bucket (Err e) b k few alone signed f = tt

lone_self : (node : Node) (bucket : BucketContents) → node ≡ Lone bucket → same_node node node ≡ true
lone_self node bucket is = ap (λ (n : Node). same_node n n) is ∙ items_self bucket.items

-- a tree of one leaf is read as that leaf, with items or without
leaf_node : (items : List Item) → lone_or_inner (leaf_tree items) ≡ Lone (record { items = items; next = None })
leaf_node [] = refl
leaf_node (item ∷ items) = refl

as_lone : (bucket : BucketContents) → bucket.next ≡ None → lone_or_inner (leaf_tree bucket.items) ≡ Lone bucket
as_lone bucket alone = leaf_node bucket.items ∙ (λ i. Lone (record { items = bucket.items; next = sym alone i }))

-- ---- the whole

module _ (back : WrittenRecordReadsBack) (is_read : ReadIsRecord) (leaf_back : WrittenLeafReadsBack) (alike : SameHoldsTheSame) (stand : FlatStand) (spelled : LoneIsSpelled) (few : LoneMakesFew) (sound : LoneIsSound) (named : LoneIsNamed) where
  abbrev state_for : List ℕ → List ℕ
  state_for text = 0x80 ∷ 3 ∷ (text ++ 0x2e ∷ [])

  room : (class : Class) (bucket : BucketContents) (text : List ℕ) → IsStraightLone class bucket text → (root_piece (embedded_graph bucket.items).nodes (embedded_graph bucket.items).root).made ≤ NODE_LIMIT
  room class bucket text s = let most = s.few in let made = few class bucket.items s.flat in omega (arith, most, made)

  leaf_held : (class : Class) (bucket : BucketContents) (text : List ℕ) → IsStraightLone class bucket text → tree_state_of class (embedded_graph bucket.items) ≡ Some (leaf_tree bucket.items)
  leaf_held class bucket text s =
      leaf_back class bucket.items (record { items = (stand _ _ _ bucket.items s.flat).0; rising = s.rising; link = tt })

  state_spelled : (class : Class) (bucket : BucketContents) (text : List ℕ) → IsStraightLone class bucket text → pickle_text (embedded_graph bucket.items) ≡ Ok (state_for text)
  state_spelled class bucket text s = ap pickled (spelled class bucket.items s.flat) ∙ ap (λ (xs : List ℕ). ok (state_for xs)) (sym s.text_is)

  keys_so : (put : Put) (bucket : BucketContents) → put.node ≡ Lone bucket → node_writable put.node ≡ true → AreWritable (keys_of bucket.items)
  keys_so put bucket is w = all_writable (keys_of bucket.items) (sym (ap node_writable is) ∙ w)

  state_sound : (class : Class) (put : Put) (bytes : List ℕ) → (t : IsLoneText class put bytes) → IsGraph (embedded_graph t.bucket.items).nodes (embedded_graph t.bucket.items).root
  state_sound class put bytes t = sound class t.bucket.items (keys_so put t.bucket t.node_is t.writable) t.state_is.signed t.state_is.flat

  can_read : (class : Class) (put : Put) (bytes : List ℕ) → (t : IsLoneText class put bytes) → CanBeRead put.class (embedded_graph t.bucket.items)
  can_read class put bytes t =
      let c = t.class_is in
      let is = lone_is put.class t.class_text c in
      let keys = keys_so put t.bucket t.node_is t.writable in
      subst (λ (x : Graph). CanBeRead x (embedded_graph t.bucket.items)) (sym is) (record {
        class_graph = subst (λ (x : Graph). IsGraph x.nodes x.root) is c.graph;
        state_graph = state_sound class put bytes t;
        class_is = refl;
        class_named = refl;
        state_named = named class t.bucket.items keys t.state_is.signed t.state_is.flat;
        class_room = lone_made c.module_name c.class_name;
        state_room = room class t.bucket t.state_text t.state_is;
      })

  written : (class : Class) (put : Put) (bytes : List ℕ) (t : IsLoneText class put bytes) → object_text put.class (embedded_graph t.bucket.items) ≡ Ok (t.class_text ++ state_for t.state_text)
  written class put bytes t =
      both_spelled put.class (embedded_graph t.bucket.items) t.class_text (state_for t.state_text)
      (class_spelled put.class t.class_text t.class_is) (state_spelled class t.bucket t.state_text t.state_is)

  read_back : (class : Class) (put : Put) (bytes : List ℕ) → (t : IsLoneText class put bytes) → RecordIsReadBack put.class (embedded_graph t.bucket.items) (t.class_text ++ state_for t.state_text)
  read_back class put bytes t =
      back put.class (embedded_graph t.bucket.items) (t.class_text ++ state_for t.state_text) (can_read class put bytes t) (written class put bytes t)

  bytes_so : (class : Class) (put : Put) (bytes : List ℕ) (t : IsLoneText class put bytes) → bytes ≡ t.class_text ++ state_for t.state_text
  bytes_so class put bytes t = t.bytes_are ∙ state_bytes t.class_text t.state_text

  record_back : (class : Class) (put : Put) (bytes : List ℕ) (own : Graph) → IsLoneText class put bytes → IsTreeBack class put bytes own → HasRecordBack class put (record_of bytes) (record { class = own; node = put.node })
  record_back class put bytes own t c =
      let r = read_back class put bytes t in
      let state : Graph = embedded_graph t.bucket.items in
      let reads : record_of bytes ≡ Ok (r.class_copy, r.state_copy) = ap record_of (bytes_so class put bytes t) ∙ r.reads in
      let told = is_read bytes r.class_copy r.state_copy reads in
      let first : graph_at NODE_LIMIT 0 bytes ≡ Ok (r.class_copy, told.is.behind) = sym (first_is 0 bytes) ∙ told.class_reads in
      let same : r.class_copy ≡ own = graph_is (graph_read (graph_at NODE_LIMIT 0 bytes)) r.class_copy own (ap graph_read first) c.reads in
      let whole : record_of bytes ≡ Ok (own, r.state_copy) = reads ∙ ap (λ (x : Graph). Ok (x, r.state_copy)) same in
      let held : tree_state_of class r.state_copy ≡ Some (leaf_tree t.bucket.items) = same_tree alike class state r.state_copy r.state_same ∙ leaf_held class t.bucket t.state_text t.state_is in
      let found : node_of class own r.state_copy ≡ Some put.node =
      c.as_tree r.state_copy ∙ ap (option_map lone_or_inner) held ∙ ap Some (as_lone t.bucket t.state_is.alone) ∙ ap Some (sym t.node_is) in
      let copy = same_copy class put own r.state_copy put.node c.same found (lone_self put.node t.bucket t.node_is) in
      subst (λ x. HasRecordBack class put x (record { class = own; node = put.node })) (sym whole) copy

  pub lone_tried : LoneIsTried
  lone_tried class leaf put bytes own t c =
      let state : Graph = node_graph class leaf put.leaves put.node in
      let state_is : state ≡ embedded_graph t.bucket.items = ap (node_graph class leaf put.leaves) t.node_is in
      let object : ObjectRecord = record { class = put.class; state = state; class_is = class_is put.class t.class_text t.class_is } in
      let so = is_record class leaf put object refl refl t.writable (class_is put.class t.class_text t.class_is) in
      let values : AreNodeValues put.node = subst AreNodeValues (sym t.node_is) t.state_is.values in
      let graph : IsGraph state.nodes state.root = subst (λ (x : Graph). IsGraph x.nodes x.root) (sym state_is) (state_sound class put bytes t) in
      let r : IsSoundRecord class leaf put object = record { is_for = so; sound = record { class_graph = t.class_is.graph; state_graph = graph; values = values } } in
      let text : object_text object.class object.state ≡ Ok bytes = ap (object_text put.class) state_is ∙ written class put bytes t ∙ ap ok (sym (bytes_so class put bytes t)) in
      is_kept class leaf put object (record { bytes = bytes; entry = record { class = own; node = put.node } }) r
      (text_back class put (object_text object.class object.state) bytes (record { class = own; node = put.node }) text (record_back class put bytes own t c))

-- by the law above, what was made and read back was tried
pub lone_tried_so : (class leaf : Class) (put : Put) (bytes : List ℕ) (own copy : Graph) (node : Node) → LoneIsTried → IsLoneText class put bytes → IsTreeBack class put bytes own → copy ≡ own → node ≡ put.node → IsTriedSo class leaf put (record { bytes = bytes; entry = record { class = copy; node = node } })
lone_tried_so class leaf put bytes own copy node law t c same alike =
    subst (λ (x : Entry). IsTriedSo class leaf put (record { bytes = bytes; entry = x })) (λ i. record { class = sym same i; node = sym alike i }) (law class leaf put bytes own t c)
