-- Records of objects with others below them that are made without graphs read back.
use Rattle.std.proofs.Common.{◌≡◌, ℕ, ◌+◌, ◌*◌, ◌≤◌, ◌<◌, ◌^◌, Bool, true, false, cond, List, [], ◌∷◌, ◌++◌, length, Option, Some, None, Result, Ok, Err, refl, sym, ◌∙◌, ap, subst, arith}
use Rattle.std.specs.Prelude.{◌&&◌, if◌then◌else◌, ◌==◌}
use Rattle.std.specs.Option.{option_map, option_and_then}
use Rattle.pickle_graph.specs.Graph.{Graph, IsGraph, IsGlobal}
use Rattle.pickle_graph.specs.Same.{AreSame}
use Rattle.pickle_reading.specs.declared.reading.TheConstants.{NODE_LIMIT}
use Rattle.pickle_reading.specs.Reading.{graph_at}
use Rattle.pickle_writing.specs.Spelling.{root_piece, pickled, pickle_text}
use Rattle.zb_record.specs.Records.{record_of, object_text}
use Rattle.zb_record.specs.Laws.{CanBeRead, ReadIsRecord, RecordIsReadBack, WrittenRecordReadsBack}
use Rattle.zb_record.specs.declared.record.ObjectRecord.{ObjectRecord}
use Rattle.btree_family.specs.declared.table.Kind.{Kind}
use Rattle.btree_family.specs.declared.table.Kind.TheVariants as families
use Rattle.btree_family.specs.declared.table.KeyKind.{KeyKind}
use Rattle.btree_family.specs.KeyLaws.{key_eq-equiv}
use Rattle.btree_family.specs.Classes.{Class}
use Rattle.btree_family.specs.Families.{key_fits}
use Rattle.btree_family.specs.Buckets.{BucketContents}
use Rattle.bucket_state.specs.declared.tree.Branch.{Branch}
use Rattle.bucket_state.specs.declared.tree.Inner.{Inner}
use Rattle.bucket_state.specs.declared.tree.TreeState.{TreeState}
use Rattle.bucket_state.specs.declared.tree.TreeState.TheVariants.{Children}
use Rattle.bucket_state.specs.States.{found_both, found_all, bucket_of, stand_in_row}
use Rattle.bucket_state.specs.Trees.{separators_of, standing_branches, tree_state_of}
use Rattle.bucket_state.specs.Laws.{oid_back, with_link, branch_back, branches_back, inner_back, WrittenBucketReadsBack, SameHoldsTheSame, LinkStandsApart, WrittenInnerReadsBack}
use Rattle.bucket_state.specs.Writable.{AreWritable}
use Rattle.bucket_state.specs.Written.{bucket_graph, inner_graph}
use Rattle.bucket_state.specs.FlatGraphs.{IsSignedKey, InnerIsSound, InnerIsNamed}
use Rattle.bucket_state.specs.InnerText.{InnerIsSpelled, InnerMakesFew}
use Rattle.btree_shapes.specs.declared.node.Node.{Node}
use Rattle.btree_shapes.specs.declared.node.Node.TheVariants as node
use Rattle.btree_shapes.specs.declared.reading.Entry.{Entry}
use Rattle.btree_shapes.specs.Classes.{is_class_of}
use Rattle.btree_shapes.specs.Nodes.{lone_or_inner, node_of_kind, own_node, leaf_named, node_of}
use Rattle.btree_putting.specs.declared.puts.Put.{Put}
use Rattle.btree_putting.specs.declared.straight_inner.TheConstants.{MOST_CHILDREN}
use Rattle.btree_putting.specs.Items.{same_branch, same_branches}
use Rattle.btree_putting.specs.Kept.{HasRecordBack}
use Rattle.btree_putting.specs.Puts.{same_node}
use Rattle.btree_putting.specs.Storing.{IsSoundRecord}
use Rattle.btree_putting.specs.Straight.{IsLoneClass, IsTriedSo}
use Rattle.btree_putting.specs.StraightInner.{branches_fit, AreNumbered, AreSeen, IsStraightInner, IsInnerText, is_tree_kind, ReadsAsTree, IsTreeBack, InnerIsTried}
use Rattle.btree_putting.specs.Writing.{graph_read, child_class, node_writable, node_graph, AreNodeValues}
use Rattle.btree_putting.proofs.Keeping.{is_record}
use Rattle.btree_putting.proofs.StraightTexts.{lone_made, lone_is, ok, class_spelled, class_is, number_self, graph_is, first_is, state_bytes, both_spelled}
use Rattle.btree_putting.proofs.Tried.{same_copy, text_back, is_kept}
use Rattle.btree_putting.proofs.Writables.{all_writable}

-- ---- branches

pub seen_none : AreSeen []
seen_none = record { signed = tt; numbered = tt }

pub seen_more : (branch : Branch) (branches : List Branch) → IsSignedKey branch.key → branch.child < 2 ^ 64 → AreSeen branches → AreSeen (branch ∷ branches)
seen_more branch branches s n all = record { signed = (s, all.signed); numbered = (n, all.numbered) }

first_fit : (b : Bool) (kind : KeyKind) (branches : List Branch) → (if b then branches_fit kind branches else false) ≡ true → (b ≡ true) × (branches_fit kind branches ≡ true)
first_fit true kind branches e = (refl, e)
first_fit false kind branches e = absurd cc

-- ---- classes

tree_kind : (kind : Kind) (class : Class) (state : Graph) → is_tree_kind kind ≡ true → node_of_kind kind class state ≡ option_map lone_or_inner (tree_state_of class state)
tree_kind families.Bucket class state k = absurd cc
tree_kind families.Set class state k = absurd cc
tree_kind families.Tree class state k = refl
tree_kind families.TreeSet class state k = refl

-- a record of the class of trees
pub own_tree : (class : Class) (own : Graph) → is_class_of class own ≡ true → is_tree_kind class.kind ≡ true → ReadsAsTree class own
own_tree class own is kind state =
    ap (λ b. if b then own_node class state else leaf_named class own state) is ∙ tree_kind class.kind class state kind

child_global : (class leaf : Class) (leaves : Bool) → IsGlobal class.module_name class.class_name → IsGlobal leaf.module_name leaf.class_name → IsGlobal (child_class class leaf leaves).module_name (child_class class leaf leaves).class_name
child_global class leaf true g h = h
child_global class leaf false g h = g

-- ---- a node is the same as itself

branch_self : (branch : Branch) → same_branch branch branch ≡ true
branch_self branch = ap (λ b. b && (branch.child == branch.child)) (key_eq-equiv.refl branch.key) ∙ number_self branch.child

branches_self : (branches : List Branch) → same_branches branches branches ≡ true
branches_self [] = refl
branches_self (branch ∷ branches) = ap (λ b. if b then same_branches branches branches else false) (branch_self branch) ∙ branches_self branches

inner_self : (n : Node) (inner : Inner) → n ≡ node.Inner inner → same_node n n ≡ true
inner_self n inner is =
    ap (λ (x : Node). same_node x x) is
    ∙ ap (λ b. b && (same_branches inner.tail inner.tail && (inner.first == inner.first))) (number_self inner.head)
    ∙ ap (λ b. b && (inner.first == inner.first)) (branches_self inner.tail)
    ∙ number_self inner.first

-- ---- numbers read back

abbrev with_next_only : ℕ → BucketContents
with_next_only oid = record { items = []; next = Some oid }

some_bucket : (a b : BucketContents) → Some a ≡ Some b → a ≡ b
some_bucket a b e = cc

some_number : (a b : ℕ) → Some a ≡ Some b → a ≡ b
some_number a b e = cc

-- a number of 64 bits is what its eight bytes give: a bucket without items that links to it reads back
number_back : WrittenBucketReadsBack → LinkStandsApart → (class : Class) (oid : ℕ) → oid < 2 ^ 64 → oid_back oid ≡ oid
number_back law apart class oid low =
    let linked : bucket_of class (bucket_graph class (with_next_only oid)) ≡ Some (with_next_only oid) = law class (with_next_only oid) (record { items = tt; rising = refl; link = low }) in
    let lone : bucket_of class (bucket_graph class (record { items = []; next = None })) ≡ Some (record { items = []; next = None }) = law class (record { items = []; next = None }) (record { items = tt; rising = refl; link = tt }) in
    let apart_so : bucket_of class (bucket_graph class (with_next_only oid)) ≡ Some (with_next_only (oid_back oid)) = apart class class [] oid tt ∙ ap (with_link (oid_back oid)) lone in
    let same : with_next_only (oid_back oid) ≡ with_next_only oid = some_bucket (with_next_only (oid_back oid)) (with_next_only oid) (sym apart_so ∙ linked) in
    some_number (oid_back oid) oid (ap (λ (b : BucketContents). b.next) same)

module _ (numbers : (oid : ℕ) → oid < 2 ^ 64 → oid_back oid ≡ oid) where
  tail_back : (kind : KeyKind) (branches : List Branch) → branches_fit kind branches ≡ true → AreNumbered branches → branches_back kind branches ≡ Some branches
  tail_back kind [] f n = refl
  tail_back kind (branch ∷ branches) f n =
      let p = first_fit (key_fits kind branch.key) kind branches f in
      let one : branch_back kind branch ≡ Some branch =
      ap (λ (b : Bool). if b then Some (record { key = branch.key; child = oid_back branch.child }) else None) p.0
      ∙ ap (λ (oid : ℕ). Some (record { key = branch.key; child = oid })) (numbers branch.child n.0) in
      ap (λ (o : Option Branch). found_both (λ y ys. y ∷ ys) o (branches_back kind branches)) one
      ∙ ap (found_both (λ y ys. y ∷ ys) (Some branch)) (tail_back kind branches p.1 n.1)

  back_so : (class child leaf : Class) (inner : Inner) (text : List ℕ) → IsStraightInner class child leaf inner text → inner_back class.key inner ≡ Some (Children inner)
  back_so class child leaf inner text s =
      ap (λ (o : Option (List Branch)). option_map (λ tail. Children (record { head = oid_back inner.head; tail = tail; first = oid_back inner.first })) (option_and_then standing_branches o)) (tail_back class.key inner.tail s.fit s.seen.numbered)
      ∙ ap (λ (b : Bool). option_map (λ tail. Children (record { head = oid_back inner.head; tail = tail; first = oid_back inner.first })) (if b then Some inner.tail else None)) s.rising
      ∙ ap (λ (oid : ℕ). Some (Children (record { head = oid; tail = inner.tail; first = oid_back inner.first }))) (numbers inner.head s.head)
      ∙ ap (λ (oid : ℕ). Some (Children (record { head = inner.head; tail = inner.tail; first = oid }))) (numbers inner.first s.first)

-- ---- the whole

pub same_tree : SameHoldsTheSame → (class : Class) (g copy : Graph) → AreSame g copy → tree_state_of class copy ≡ tree_state_of class g
same_tree law class g copy s = (law class s.whole copy s.second).1 ∙ sym (law class s.whole g s.first).1

module _ (back : WrittenRecordReadsBack) (is_read : ReadIsRecord) (inner_law : WrittenInnerReadsBack) (alike : SameHoldsTheSame) (bucket_back : WrittenBucketReadsBack) (apart : LinkStandsApart) (spelled : InnerIsSpelled) (few : InnerMakesFew) (sound : InnerIsSound) (named : InnerIsNamed) where
  abbrev graph_for : Class → Class → Put → Inner → Graph
  graph_for class leaf put inner = inner_graph (child_class class leaf put.leaves) leaf inner

  abbrev state_for : List ℕ → List ℕ
  state_for text = 0x80 ∷ 3 ∷ (text ++ 0x2e ∷ [])

  room : (class child leaf : Class) (inner : Inner) (text : List ℕ) → IsStraightInner class child leaf inner text → (root_piece (inner_graph child leaf inner).nodes (inner_graph child leaf inner).root).made ≤ NODE_LIMIT
  room class child leaf inner text s = let most = s.few in let made = few child leaf inner in omega (arith, most, made)

  tree_held : (class child leaf : Class) (inner : Inner) (text : List ℕ) → IsStraightInner class child leaf inner text → tree_state_of class (inner_graph child leaf inner) ≡ Some (Children inner)
  tree_held class child leaf inner text s = inner_law class child leaf inner ∙ back_so (number_back bucket_back apart class) class child leaf inner text s

  state_spelled : (class child leaf : Class) (inner : Inner) (text : List ℕ) → IsStraightInner class child leaf inner text → pickle_text (inner_graph child leaf inner) ≡ Ok (state_for text)
  state_spelled class child leaf inner text s = ap pickled (spelled child leaf inner) ∙ ap (λ (xs : List ℕ). ok (state_for xs)) (sym s.text_is)

  keys_so : (put : Put) (inner : Inner) → put.node ≡ node.Inner inner → node_writable put.node ≡ true → AreWritable (separators_of inner.tail)
  keys_so put inner is w = all_writable (separators_of inner.tail) (sym (ap node_writable is) ∙ w)

  state_sound : (class leaf : Class) (put : Put) (bytes : List ℕ) → IsGlobal class.module_name class.class_name → IsGlobal leaf.module_name leaf.class_name → (t : IsInnerText class leaf put bytes) → IsGraph (graph_for class leaf put t.inner).nodes (graph_for class leaf put t.inner).root
  state_sound class leaf put bytes g h t =
      sound (child_class class leaf put.leaves) leaf t.inner (child_global class leaf put.leaves g h) h (keys_so put t.inner t.node_is t.writable) t.state_is.seen.signed

  can_read : (class leaf : Class) (put : Put) (bytes : List ℕ) → IsGlobal class.module_name class.class_name → IsGlobal leaf.module_name leaf.class_name → (t : IsInnerText class leaf put bytes) → CanBeRead put.class (graph_for class leaf put t.inner)
  can_read class leaf put bytes g h t =
      let c = t.class_is in
      let is = lone_is put.class t.class_text c in
      let child : Class = child_class class leaf put.leaves in
      subst (λ (x : Graph). CanBeRead x (graph_for class leaf put t.inner)) (sym is) (record {
        class_graph = subst (λ (x : Graph). IsGraph x.nodes x.root) is c.graph;
        state_graph = state_sound class leaf put bytes g h t;
        class_is = refl;
        class_named = refl;
        state_named = named child leaf t.inner (child_global class leaf put.leaves g h) h (keys_so put t.inner t.node_is t.writable) t.state_is.seen.signed;
        class_room = lone_made c.module_name c.class_name;
        state_room = room class child leaf t.inner t.state_text t.state_is;
      })

  written : (class leaf : Class) (put : Put) (bytes : List ℕ) (t : IsInnerText class leaf put bytes) → object_text put.class (graph_for class leaf put t.inner) ≡ Ok (t.class_text ++ state_for t.state_text)
  written class leaf put bytes t =
      both_spelled put.class (graph_for class leaf put t.inner) t.class_text (state_for t.state_text) (class_spelled put.class t.class_text t.class_is)
      (state_spelled class (child_class class leaf put.leaves) leaf t.inner t.state_text t.state_is)

  bytes_so : (class leaf : Class) (put : Put) (bytes : List ℕ) (t : IsInnerText class leaf put bytes) → bytes ≡ t.class_text ++ state_for t.state_text
  bytes_so class leaf put bytes t = t.bytes_are ∙ state_bytes t.class_text t.state_text

  record_back : (class leaf : Class) (put : Put) (bytes : List ℕ) (own : Graph) → IsGlobal class.module_name class.class_name → IsGlobal leaf.module_name leaf.class_name → IsInnerText class leaf put bytes → IsTreeBack class put bytes own → HasRecordBack class put (record_of bytes) (record { class = own; node = put.node })
  record_back class leaf put bytes own g h t c =
      let state : Graph = graph_for class leaf put t.inner in
      let r = back put.class state (t.class_text ++ state_for t.state_text) (can_read class leaf put bytes g h t) (written class leaf put bytes t) in
      let reads : record_of bytes ≡ Ok (r.class_copy, r.state_copy) = ap record_of (bytes_so class leaf put bytes t) ∙ r.reads in
      let told = is_read bytes r.class_copy r.state_copy reads in
      let first : graph_at NODE_LIMIT 0 bytes ≡ Ok (r.class_copy, told.is.behind) = sym (first_is 0 bytes) ∙ told.class_reads in
      let same : r.class_copy ≡ own = graph_is (graph_read (graph_at NODE_LIMIT 0 bytes)) r.class_copy own (ap graph_read first) c.reads in
      let whole : record_of bytes ≡ Ok (own, r.state_copy) = reads ∙ ap (λ (x : Graph). Ok (x, r.state_copy)) same in
      let held : tree_state_of class r.state_copy ≡ Some (Children t.inner) = same_tree alike class state r.state_copy r.state_same ∙ tree_held class (child_class class leaf put.leaves) leaf t.inner t.state_text t.state_is in
      let found : node_of class own r.state_copy ≡ Some put.node = c.as_tree r.state_copy ∙ ap (option_map lone_or_inner) held ∙ ap Some (sym t.node_is) in
      let copy = same_copy class put own r.state_copy put.node c.same found (inner_self put.node t.inner t.node_is) in
      subst (λ x. HasRecordBack class put x (record { class = own; node = put.node })) (sym whole) copy

  pub inner_tried : InnerIsTried
  inner_tried class leaf put bytes own g h t c =
      let state : Graph = node_graph class leaf put.leaves put.node in
      let state_is : state ≡ graph_for class leaf put t.inner = ap (node_graph class leaf put.leaves) t.node_is in
      let object : ObjectRecord = record { class = put.class; state = state; class_is = class_is put.class t.class_text t.class_is } in
      let so = is_record class leaf put object refl refl t.writable (class_is put.class t.class_text t.class_is) in
      let values : AreNodeValues put.node = subst AreNodeValues (sym t.node_is) tt in
      let graph : IsGraph state.nodes state.root = subst (λ (x : Graph). IsGraph x.nodes x.root) (sym state_is) (state_sound class leaf put bytes g h t) in
      let r : IsSoundRecord class leaf put object = record { is_for = so; sound = record { class_graph = t.class_is.graph; state_graph = graph; values = values } } in
      let text : object_text object.class object.state ≡ Ok bytes = ap (object_text put.class) state_is ∙ written class leaf put bytes t ∙ ap ok (sym (bytes_so class leaf put bytes t)) in
      is_kept class leaf put object (record { bytes = bytes; entry = record { class = own; node = put.node } }) r
      (text_back class put (object_text object.class object.state) bytes (record { class = own; node = put.node }) text (record_back class leaf put bytes own g h t c))

-- by the law above, what was made and read back was tried
pub inner_tried_so : (class leaf : Class) (put : Put) (bytes : List ℕ) (own copy : Graph) (n : Node) → InnerIsTried → IsGlobal class.module_name class.class_name → IsGlobal leaf.module_name leaf.class_name → IsInnerText class leaf put bytes → IsTreeBack class put bytes own → copy ≡ own → n ≡ put.node → IsTriedSo class leaf put (record { bytes = bytes; entry = record { class = copy; node = n } })
inner_tried_so class leaf put bytes own copy n law g h t c same alike =
    subst (λ (x : Entry). IsTriedSo class leaf put (record { bytes = bytes; entry = x })) (λ i. record { class = sym same i; node = sym alike i }) (law class leaf put bytes own g h t c)
