-- What can be written and reads back with 0 for each number, can be with any.
use Rattle.std.proofs.Common.{◌≡◌, ℕ, ◌<◌, ◌^◌, Bool, true, false, cond, List, [], ◌∷◌, ◌++◌, Option, Some, None, Result, Ok, Err, ◌⊎◌, inl, inr, refl, arith, sym, ◌∙◌, ap, subst}
use Rattle.std.specs.Prelude.{◌&&◌, if◌then◌else◌, ◌==◌, nat_lt, map}
use Rattle.std.specs.Option.{option_map, option_and_then}
use Rattle.std.proofs.lemmas.Bool.{eqb-true, eq-eqb}
use Rattle.byteorder.specs.Numbers.{big_number-reads_back}
use Rattle.pickle_graph.specs.Graph.{AllBelow, Graph, IsGraph}
use Rattle.pickle_graph.specs.Same.{AreSame}
use Rattle.pickle_writing.specs.Spelling.{Spelled}
use Rattle.btree_family.specs.declared.bucket.Item.{Item}
use Rattle.btree_family.specs.declared.key.Key.{Key}
use Rattle.btree_family.specs.declared.table.Kind.{Kind}
use Rattle.btree_family.specs.declared.table.Kind.TheVariants as kinds
use Rattle.btree_family.specs.declared.table.KeyKind.{KeyKind}
use Rattle.btree_family.specs.Classes.{Class, classes, leaf_in}
use Rattle.btree_family.specs.Families.{key_fits}
use Rattle.btree_family.specs.Buckets.{BucketContents, AreValues}
use Rattle.btree_family.specs.Keys.{key_eq}
use Rattle.bucket_state.specs.declared.tree.Branch.{Branch}
use Rattle.bucket_state.specs.declared.tree.Inner.{Inner}
use Rattle.bucket_state.specs.declared.tree.TreeState.{TreeState}
use Rattle.bucket_state.specs.declared.tree.TreeState.TheVariants as trees
use Rattle.bucket_state.specs.States.{bucket_of, found_both, found_all, stand_in_row}
use Rattle.bucket_state.specs.Trees.{tree_state_of, separators_of, standing_branches}
use Rattle.bucket_state.specs.Written.{bucket_graph, inner_graph, embedded_graph}
use Rattle.bucket_state.specs.Laws.{SameHoldsTheSame, LinkStandsApart, WrittenInnerReadsBack, oid_back, with_link, branch_back, branches_back, inner_back}
use Rattle.zb_record.specs.declared.error.RecordError.{RecordError}
use Rattle.zb_record.specs.Alike.{GraphsAlike, AlikeIsKept}
use Rattle.pickle_graph.specs.Class.{is_class}
use Rattle.zb_record.specs.Records.{record_of, object_text}
use Rattle.btree_shapes.specs.declared.node.Node.{Node}
use Rattle.btree_shapes.specs.declared.node.Node.TheVariants as node
use Rattle.btree_shapes.specs.declared.space.Call.{Call}
use Rattle.btree_shapes.specs.Classes.{class_named, is_class_of}
use Rattle.btree_shapes.specs.Nodes.{lone_or_inner, node_of_kind, own_node, node_of_leaf, leaf_named, node_of}
use Rattle.btree_putting.specs.declared.puts.Put.{Put}
use Rattle.btree_setting.specs.declared.growing.Terms.{Terms}
use Rattle.btree_setting.specs.declared.preparing.Task.{Task}
use Rattle.btree_putting.specs.Items.{same_items, same_branch, same_branches}
use Rattle.btree_putting.specs.Puts.{put_oid, add_put, add_all, sort_puts, same_link, same_node, is_copy, is_class_kept, reads_as, text_reads_as, state_reads_as, keeps, all_keep, IsSoundPut, AreSound}
use Rattle.btree_setting.specs.declared.change.Change.{Change}
use Rattle.btree_setting.specs.Changes.{IsRootSet}
use Rattle.btree_setting.specs.Sets.{Passes, IsPlan, change_keeps}
use Rattle.btree_putting.specs.Writing.{child_class, node_writable, node_graph, node_state}
use Rattle.btree_setting.proofs.Graphed.{graph_same, bucket_alike, inner_alike, same_writable}
use Rattle.btree_setting.proofs.Numbered.{OidAlike, LinkAlike, BranchAlike, BranchesAlike, NodeAlike, PutAlike, PutsAlike, same_separators}
use Rattle.btree_setting.proofs.Renumbered.{changes_alike}

pub both : (a b : Bool) → (a && b) ≡ true → (a ≡ true) × (b ≡ true)
both true b e = (refl, e)
both false b e = cc

pub when : (a b : Bool) → (if a then b else false) ≡ true → (a ≡ true) × (b ≡ true)
when true b e = (refl, e)
when false b e = cc

-- ---- numbers

oid_kept : (a b : ℕ) → OidAlike a b → (oid_back a == a) ≡ true → (oid_back b == b) ≡ true
oid_kept a b (inl e) k = subst (λ (n : ℕ). (oid_back n == n) ≡ true) e k
oid_kept a b (inr low) k = eq-eqb (oid_back b) b (big_number-reads_back 8 b [] low)

-- ---- a leaf

leaf_kept : (a b : BucketContents) (i j : ℕ) (o : Option BucketContents) → a.items ≡ b.items → a.next ≡ Some i → b.next ≡ Some j → OidAlike i j →
    is_copy (node.Leaf a) (option_map node.Leaf (with_link (oid_back i) o)) ≡ true → is_copy (node.Leaf b) (option_map node.Leaf (with_link (oid_back j) o)) ≡ true
leaf_kept a b i j None e f g h k = cc
leaf_kept a b i j (Some x) e f g h k =
    let parts = both (same_items x.items a.items) (same_link (Some (oid_back i)) a.next) k in
    let items : same_items x.items b.items ≡ true = sym (ap (same_items x.items) e) ∙ parts.0 in
    let link : same_link (Some (oid_back j)) b.next ≡ true = ap (same_link (Some (oid_back j))) g ∙ oid_kept i j h (sym (ap (same_link (Some (oid_back i))) f) ∙ parts.1) in
    (λ n. items n && link n)

-- ---- an object with others below it

branch_kept : (x y : Branch) → BranchAlike x y → (key_eq x.key x.key && (oid_back x.child == x.child)) ≡ true → (key_eq y.key y.key && (oid_back y.child == y.child)) ≡ true
branch_kept x y h k =
    let p = both (key_eq x.key x.key) (oid_back x.child == x.child) k in
    let key : key_eq y.key y.key ≡ true = sym (ap (λ (z : Key). key_eq z z) h.key) ∙ p.0 in
    let child = oid_kept x.child y.child h.child p.1 in
    (λ n. key n && child n)

-- two lists of branches as they read back: none of both, or alike
pub record BackAlike (xs ys us vs : List Branch) : Type 0 where
  pub keys : separators_of us ≡ separators_of vs
  pub kept : same_branches us xs ≡ true → same_branches vs ys ≡ true

abbrev BacksAlike : List Branch → List Branch → Option (List Branch) → Option (List Branch) → Type 0
BacksAlike xs ys None None = Unit {0}
BacksAlike xs ys (Some us) (Some vs) = BackAlike xs ys us vs
BacksAlike xs ys _ _ = ⊥

back_more : (x y : Branch) (xs ys : List Branch) (b c : Bool) (o p : Option (List Branch)) → BranchAlike x y → b ≡ c → BacksAlike xs ys o p →
    BacksAlike (x ∷ xs) (y ∷ ys) (found_both (λ z zs. z ∷ zs) (if b then Some (record { key = x.key; child = oid_back x.child }) else None) o) (found_both (λ z zs. z ∷ zs) (if c then Some (record { key = y.key; child = oid_back y.child }) else None) p)
back_more x y xs ys true true (Some us) (Some vs) h e r = record {
  keys = λ i. h.key i ∷ r.keys i;
  kept = λ k.
      let p = when (same_branch (record { key = x.key; child = oid_back x.child }) x) (same_branches us xs) k in
      let head = branch_kept x y h p.0 in
      let tail = r.kept p.1 in
      (λ i. if head i then tail i else false);
}
back_more x y xs ys true true None None h e r = tt
back_more x y xs ys true true None (Some vs) h e r = absurd r
back_more x y xs ys true true (Some us) None h e r = absurd r
back_more x y xs ys false false o p h e r = tt
back_more x y xs ys true false o p h e r = cc
back_more x y xs ys false true o p h e r = cc

backs_alike : (kind : KeyKind) (xs ys : List Branch) → BranchesAlike xs ys → BacksAlike xs ys (branches_back kind xs) (branches_back kind ys)
backs_alike kind [] [] h = record { keys = refl; kept = λ k. refl }
backs_alike kind (x ∷ xs) (y ∷ ys) h = back_more x y xs ys (key_fits kind x.key) (key_fits kind y.key) (branches_back kind xs) (branches_back kind ys) h.0 (ap (key_fits kind) h.0.key) (backs_alike kind xs ys h.1)
backs_alike kind [] (y ∷ ys) h = absurd h
backs_alike kind (x ∷ xs) [] h = absurd h

-- the object that reads back of such branches
abbrev object_back : Inner → Option (List Branch) → Option TreeState
object_back inner o = option_map (λ tail. trees.Children (record { head = oid_back inner.head; tail = tail; first = oid_back inner.first })) o

inner_kept : (a b : Inner) (o p : Option (List Branch)) → NodeAlike (node.Inner a) (node.Inner b) → BacksAlike a.tail b.tail o p →
    is_copy (node.Inner a) (option_map lone_or_inner (object_back a (option_and_then standing_branches o))) ≡ true → is_copy (node.Inner b) (option_map lone_or_inner (object_back b (option_and_then standing_branches p))) ≡ true
inner_kept a b None None h r k = cc
inner_kept a b None (Some vs) h r k = absurd r
inner_kept a b (Some us) None h r k = absurd r
inner_kept a b (Some us) (Some vs) h r k = by_test (stand_in_row None (separators_of us)) (stand_in_row None (separators_of vs)) (ap (stand_in_row None) r.keys) k
  where
    by_test : (t u : Bool) → t ≡ u → is_copy (node.Inner a) (option_map lone_or_inner (object_back a (if t then Some us else None))) ≡ true → is_copy (node.Inner b) (option_map lone_or_inner (object_back b (if u then Some vs else None))) ≡ true
    by_test true true e k =
        let p = both (oid_back a.head == a.head) (same_branches us a.tail && (oid_back a.first == a.first)) k in
        let q = both (same_branches us a.tail) (oid_back a.first == a.first) p.1 in
        let head = oid_kept a.head b.head h.0 p.0 in
        let tail = r.kept q.0 in
        let first = oid_kept a.first b.first h.2 q.1 in
        (λ i. head i && (tail i && first i))
    by_test true false e k = cc
    by_test false true e k = cc
    by_test false false e k = cc

-- ---- by the class of a record

-- states that hold the same
record HoldSame (g h : Graph) : Type 0 where
  bucket : (class : Class) → bucket_of class g ≡ bucket_of class h
  tree : (class : Class) → tree_state_of class g ≡ tree_state_of class h

kind_same : (kind : Kind) (class : Class) (g h : Graph) → HoldSame g h → node_of_kind kind class g ≡ node_of_kind kind class h
kind_same kinds.Bucket class g h s = ap (option_map node.Leaf) (s.bucket class)
kind_same kinds.Set class g h s = ap (option_map node.Leaf) (s.bucket class)
kind_same kinds.Tree class g h s = ap (option_map lone_or_inner) (s.tree class)
kind_same kinds.TreeSet class g h s = ap (option_map lone_or_inner) (s.tree class)

leaf_same : (o : Option Class) (own g h : Graph) → HoldSame g h → node_of_leaf o own g ≡ node_of_leaf o own h
leaf_same None own g h s = refl
leaf_same (Some leaf) own g h s = ap (λ x. if is_class_of leaf own then option_map node.Leaf x else None) (s.bucket leaf)

node_same : (class : Class) (own g h : Graph) → HoldSame g h → node_of class own g ≡ node_of class own h
node_same class own g h s =
    let one = kind_same class.kind class g h s in
    let two = leaf_same (leaf_in classes class) own g h s in
    (λ i. if is_class_of class own then one i else two i)

-- one node as it is read of two states
abbrev Transfers : Node → Node → Option Node → Option Node → Type 0
Transfers n m o p = is_copy n o ≡ true → is_copy m p ≡ true

kind_moves : (n m : Node) (g h : Graph) → ((class : Class) → Transfers n m (option_map node.Leaf (bucket_of class g)) (option_map node.Leaf (bucket_of class h))) → ((class : Class) → Transfers n m (option_map lone_or_inner (tree_state_of class g)) (option_map lone_or_inner (tree_state_of class h))) →
    (kind : Kind) (class : Class) → Transfers n m (node_of_kind kind class g) (node_of_kind kind class h)
kind_moves n m g h b t kinds.Bucket class = b class
kind_moves n m g h b t kinds.Set class = b class
kind_moves n m g h b t kinds.Tree class = t class
kind_moves n m g h b t kinds.TreeSet class = t class

no_copy : (n m : Node) (b : Bool) (o p : Option Node) → Transfers n m o p → Transfers n m (if b then o else None) (if b then p else None)
no_copy n m true o p f k = f k
no_copy n m false o p f k = cc

leaf_moves : (n m : Node) (g h : Graph) (own : Graph) → ((class : Class) → Transfers n m (option_map node.Leaf (bucket_of class g)) (option_map node.Leaf (bucket_of class h))) → (o : Option Class) → Transfers n m (node_of_leaf o own g) (node_of_leaf o own h)
leaf_moves n m g h own b None k = cc
leaf_moves n m g h own b (Some leaf) k = no_copy n m (is_class_of leaf own) (option_map node.Leaf (bucket_of leaf g)) (option_map node.Leaf (bucket_of leaf h)) (b leaf) k

either : (n m : Node) (b : Bool) (o p q r : Option Node) → Transfers n m o p → Transfers n m q r → Transfers n m (if b then o else q) (if b then p else r)
either n m true o p q r f g k = f k
either n m false o p q r f g k = g k

node_moves : (n m : Node) (g h : Graph) (class : Class) (own : Graph) → ((c : Class) → Transfers n m (option_map node.Leaf (bucket_of c g)) (option_map node.Leaf (bucket_of c h))) → ((c : Class) → Transfers n m (option_map lone_or_inner (tree_state_of c g)) (option_map lone_or_inner (tree_state_of c h))) → Transfers n m (node_of class own g) (node_of class own h)
node_moves n m g h class own b t =
    either n m (is_class_of class own) (own_node class g) (own_node class h) (leaf_named class own g) (leaf_named class own h) (kind_moves n m g h b t class.kind class) (leaf_moves n m g h own b (leaf_in classes class))

-- a leaf is no object with others below it, and the other way round
not_lone : (a b : BucketContents) (o p : Option TreeState) → Transfers (node.Leaf a) (node.Leaf b) (option_map lone_or_inner o) (option_map lone_or_inner p)
not_lone a b None p k = cc
not_lone a b (Some trees.Empty) p k = cc
not_lone a b (Some (trees.Leaf x)) p k = cc
not_lone a b (Some (trees.Children x)) p k = cc

not_leaf : (a b : Inner) (o p : Option BucketContents) → Transfers (node.Inner a) (node.Inner b) (option_map node.Leaf o) (option_map node.Leaf p)
not_leaf a b None p k = cc
not_leaf a b (Some x) p k = cc

module _ (apart : LinkStandsApart) (written : WrittenInnerReadsBack) where
  leaf_by : (leaf : Class) (a b : BucketContents) (i j : Option ℕ) → a.next ≡ i → b.next ≡ j → a.items ≡ b.items → LinkAlike i j → AreValues a.items → (class : Class) → Transfers (node.Leaf a) (node.Leaf b) (option_map node.Leaf (bucket_of class (bucket_graph leaf a))) (option_map node.Leaf (bucket_of class (bucket_graph leaf b)))
  leaf_by leaf a b None None f g e h v class k =
      let same : a ≡ b = (λ n. record { items = e n; next = (f ∙ sym g) n }) in
      subst (λ (x : BucketContents). is_copy (node.Leaf x) (option_map node.Leaf (bucket_of class (bucket_graph leaf x))) ≡ true) same k
  leaf_by leaf a b (Some i) (Some j) f g e h v class k =
      let one : bucket_of class (bucket_graph leaf a) ≡ with_link (oid_back i) (bucket_of class (bucket_graph leaf (record { items = a.items; next = None }))) =
      ap (λ (x : Option ℕ). bucket_of class (bucket_graph leaf (record { items = a.items; next = x }))) f ∙ apart class leaf a.items i v in
      let two : bucket_of class (bucket_graph leaf b) ≡ with_link (oid_back j) (bucket_of class (bucket_graph leaf (record { items = a.items; next = None }))) =
      (λ n. bucket_of class (bucket_graph leaf (record { items = sym e n; next = g n }))) ∙ apart class leaf a.items j v in
      ap (λ (x : Option BucketContents). is_copy (node.Leaf b) (option_map node.Leaf x)) two
      ∙ leaf_kept a b i j (bucket_of class (bucket_graph leaf (record { items = a.items; next = None }))) e f g h (sym (ap (λ (x : Option BucketContents). is_copy (node.Leaf a) (option_map node.Leaf x)) one) ∙ k)
  leaf_by leaf a b None (Some j) f g e h v class k = absurd h
  leaf_by leaf a b (Some i) None f g e h v class k = absurd h

  inner_by : (child leaf : Class) (a b : Inner) → NodeAlike (node.Inner a) (node.Inner b) → (class : Class) → Transfers (node.Inner a) (node.Inner b) (option_map lone_or_inner (tree_state_of class (inner_graph child leaf a))) (option_map lone_or_inner (tree_state_of class (inner_graph child leaf b)))
  inner_by child leaf a b h class k =
      ap (λ (x : Option TreeState). is_copy (node.Inner b) (option_map lone_or_inner x)) (written class child leaf b)
      ∙ inner_kept a b (branches_back class.key a.tail) (branches_back class.key b.tail) h (backs_alike class.key a.tail b.tail h.1)
      (sym (ap (λ (x : Option TreeState). is_copy (node.Inner a) (option_map lone_or_inner x)) (written class child leaf a)) ∙ k)

  -- ---- one put

  -- the text of a record, and the record that it reads as
  record KeptSo (class : Class) (own : Graph) (n : Node) (state : Graph) : Type 0 where
    text : List ℕ
    written_as : object_text own state ≡ Ok text
    copy : Graph × Graph
    reads : record_of text ≡ Ok copy
    class_kept : is_class_kept own (class_named copy.0) ≡ true
    node_kept : is_copy n (node_of class copy.0 copy.1) ≡ true

  -- an own put with the number 0
  abbrev put_of : Graph → Bool → Node → Put
  put_of own leaves n = record { oid = 0; class = own; leaves = leaves; node = n }

  kept_record : (class : Class) (own : Graph) (leaves : Bool) (n : Node) (state : Graph) (text : List ℕ) (r : Result (Graph × Graph) RecordError) → object_text own state ≡ Ok text → record_of text ≡ r → reads_as class (put_of own leaves n) r ≡ true → KeptSo class own n state
  kept_record class own leaves n state text (Err e) w r k = cc
  kept_record class own leaves n state text (Ok copy) w r k =
      let p = both (is_class_kept own (class_named copy.0)) (is_copy n (node_of class copy.0 copy.1)) k in
      record { text = text; written_as = w; copy = copy; reads = r; class_kept = p.0; node_kept = p.1 }

  kept_text : (class : Class) (own : Graph) (leaves : Bool) (n : Node) (state : Graph) (t : Spelled) → object_text own state ≡ t → text_reads_as class (put_of own leaves n) t ≡ true → KeptSo class own n state
  kept_text class own leaves n state (Err e) w k = cc
  kept_text class own leaves n state (Ok text) w k = kept_record class own leaves n state text (record_of text) w refl k

  so_kept : (class : Class) (own : Graph) (leaves : Bool) (n : Node) (state : Graph) → KeptSo class own n state → text_reads_as class (put_of own leaves n) (object_text own state) ≡ true
  so_kept class own leaves n state s =
      ap (text_reads_as class (put_of own leaves n)) s.written_as ∙ ap (reads_as class (put_of own leaves n)) s.reads ∙ (λ i. s.class_kept i && s.node_kept i)

  module _ (alike : AlikeIsKept) (holds : SameHoldsTheSame) where
    -- graphs that are the same hold the same, as both hold what the graph holds of which they are copies
    same_held : (g other : Graph) → AreSame g other → HoldSame other g
    same_held g other s = record {
      bucket = λ c. (holds c s.whole other s.second).0 ∙ sym (holds c s.whole g s.first).0;
      tree = λ c. (holds c s.whole other s.second).1 ∙ sym (holds c s.whole g s.first).1;
    }

    -- the other state is kept where its node moves with it
    moved : (class : Class) (own : Graph) (n m : Node) (g h : Graph) → IsGraph own.nodes own.root → IsGraph g.nodes g.root → GraphsAlike g h → ((o : Graph) → Transfers n m (node_of class o g) (node_of class o h)) → KeptSo class own n g → KeptSo class own m h
    moved class own n m g h own_is g_is a t s =
        let k = alike own g h s.text s.copy own_is g_is a s.written_as s.reads in
        let one : HoldSame s.copy.1 g = same_held g s.copy.1 k.same in
        let two : HoldSame k.other_copy h = same_held h k.other_copy k.other_same in
        let here : is_copy n (node_of class s.copy.0 g) ≡ true = sym (ap (is_copy n) (node_same class s.copy.0 s.copy.1 g one)) ∙ s.node_kept in
        record {
          text = k.text;
          written_as = k.written;
          copy = (s.copy.0, k.other_copy);
          reads = k.reads;
          class_kept = s.class_kept;
          node_kept = ap (is_copy m) (node_same class s.copy.0 k.other_copy h two) ∙ t s.copy.0 here;
        }

    -- a node that is the same but for numbers
    node_kept : (class leaf : Class) (own : Graph) (leaves : Bool) (n m : Node) → NodeAlike n m → IsSoundPut class leaf (put_of own leaves n) → KeptSo class own n (node_graph class leaf leaves n) → KeptSo class own m (node_graph class leaf leaves m)
    node_kept class leaf own leaves (node.Lone a) (node.Lone b) h s k = subst (λ (x : BucketContents). KeptSo class own (node.Lone x) (embedded_graph x.items)) h k
    node_kept class leaf own leaves (node.Leaf a) (node.Leaf b) h s k =
        moved class own (node.Leaf a) (node.Leaf b) (bucket_graph leaf a) (bucket_graph leaf b) s.class_graph s.state_graph (bucket_alike leaf a b h.0 h.1)
        (λ o. node_moves (node.Leaf a) (node.Leaf b) (bucket_graph leaf a) (bucket_graph leaf b) class o (leaf_by leaf a b a.next b.next refl refl h.0 h.1 s.values) (λ c. not_lone a b (tree_state_of c (bucket_graph leaf a)) (tree_state_of c (bucket_graph leaf b)))) k
    node_kept class leaf own leaves (node.Inner a) (node.Inner b) h s k =
        let child : Class = child_class class leaf leaves in
        moved class own (node.Inner a) (node.Inner b) (inner_graph child leaf a) (inner_graph child leaf b) s.class_graph s.state_graph (inner_alike child leaf a b h.1)
        (λ o. node_moves (node.Inner a) (node.Inner b) (inner_graph child leaf a) (inner_graph child leaf b) class o (λ c. not_leaf a b (bucket_of c (inner_graph child leaf a)) (bucket_of c (inner_graph child leaf b))) (inner_by child leaf a b h)) k
    node_kept class leaf own leaves (node.Lone a) (node.Leaf b) h s k = absurd h
    node_kept class leaf own leaves (node.Lone a) (node.Inner b) h s k = absurd h
    node_kept class leaf own leaves (node.Leaf a) (node.Lone b) h s k = absurd h
    node_kept class leaf own leaves (node.Leaf a) (node.Inner b) h s k = absurd h
    node_kept class leaf own leaves (node.Inner a) (node.Lone b) h s k = absurd h
    node_kept class leaf own leaves (node.Inner a) (node.Leaf b) h s k = absurd h

    by_writable : (class leaf : Class) (own : Graph) (leaves : Bool) (n m : Node) (b c : Bool) → b ≡ c → NodeAlike n m → IsSoundPut class leaf (put_of own leaves n) →
        state_reads_as class (put_of own leaves n) (if b then Some (node_graph class leaf leaves n) else None) ≡ true → state_reads_as class (put_of own leaves m) (if c then Some (node_graph class leaf leaves m) else None) ≡ true
    by_writable class leaf own leaves n m true true e h s k =
        let p = both (is_class own) (text_reads_as class (put_of own leaves n) (object_text own (node_graph class leaf leaves n))) k in
        let so = kept_text class own leaves n (node_graph class leaf leaves n) (object_text own (node_graph class leaf leaves n)) refl p.1 in
        let there = so_kept class own leaves m (node_graph class leaf leaves m) (node_kept class leaf own leaves n m h s so) in
        (λ i. p.0 i && there i)
    by_writable class leaf own leaves n m true false e h s k = cc
    by_writable class leaf own leaves n m false c e h s k = cc

    put_kept : (class leaf : Class) (own : Graph) (leaves : Bool) (n m : Node) (i j : ℕ) → NodeAlike n m → IsSoundPut class leaf (put_of own leaves n) → keeps class leaf (record { oid = i; class = own; leaves = leaves; node = n }) ≡ true → keeps class leaf (record { oid = j; class = own; leaves = leaves; node = m }) ≡ true
    put_kept class leaf own leaves n m i j h s k = by_writable class leaf own leaves n m (node_writable n) (node_writable m) (same_writable n m h) h s k

    one_kept : (class leaf : Class) (p q : Put) → PutAlike p q → IsSoundPut class leaf p → keeps class leaf p ≡ true → keeps class leaf q ≡ true
    one_kept class leaf p q h s k =
        let sound : IsSoundPut class leaf (put_of p.class p.leaves p.node) = record { class_graph = s.class_graph; state_graph = s.state_graph; values = s.values } in
        let there : keeps class leaf (record { oid = q.oid; class = p.class; leaves = p.leaves; node = q.node }) ≡ true = put_kept class leaf p.class p.leaves p.node q.node p.oid q.oid h.node sound k in
        (λ i. keeps class leaf (record { oid = q.oid; class = sym h.class i; leaves = sym h.leaves i; node = q.node })) ∙ there

    pub all_kept : (class leaf : Class) (ps qs : List Put) → PutsAlike ps qs → AreSound class leaf ps → all_keep class leaf ps ≡ true → all_keep class leaf qs ≡ true
    all_kept class leaf [] [] h s k = refl
    all_kept class leaf (p ∷ ps) (q ∷ qs) h s k =
        let w = when (keeps class leaf p) (all_keep class leaf ps) k in
        let one = one_kept class leaf p q h.0 s.0 w.0 in
        let rest = all_kept class leaf ps qs h.1 s.1 w.1 in
        (λ i. if one i then rest i else false)
    all_kept class leaf [] (q ∷ qs) h s k = absurd h
    all_kept class leaf (p ∷ ps) [] h s k = absurd h

-- ---- in order

keep_put : (class leaf : Class) (p : Put) (qs : List Put) → keeps class leaf p ≡ true → all_keep class leaf qs ≡ true → all_keep class leaf (add_put p qs) ≡ true
keep_put class leaf p [] k a = ap (λ b. if b then true else false) k
keep_put class leaf p (q ∷ qs) k a =
    let parts = when (keeps class leaf q) (all_keep class leaf qs) a in
    by_test (nat_lt q.oid p.oid) parts.0 (keep_put class leaf p qs k parts.1)
  where
    by_test : (b : Bool) → keeps class leaf q ≡ true → all_keep class leaf (add_put p qs) ≡ true → all_keep class leaf (if b then q ∷ add_put p qs else p ∷ q ∷ qs) ≡ true
    by_test true own rest = (λ i. if own i then rest i else false)
    by_test false own rest = (λ i. if k i then a i else false)

keep_puts : (class leaf : Class) (ps qs : List Put) → all_keep class leaf ps ≡ true → all_keep class leaf qs ≡ true → all_keep class leaf (add_all ps qs) ≡ true
keep_puts class leaf [] qs a b = b
keep_puts class leaf (p ∷ ps) qs a b =
    let w = when (keeps class leaf p) (all_keep class leaf ps) a in
    keep_put class leaf p (add_all ps qs) w.0 (keep_puts class leaf ps qs w.1 b)

keep_append : (class leaf : Class) (ps qs : List Put) → all_keep class leaf ps ≡ true → all_keep class leaf qs ≡ true → all_keep class leaf (ps ++ qs) ≡ true
keep_append class leaf [] qs a b = b
keep_append class leaf (p ∷ ps) qs a b =
    let w = when (keeps class leaf p) (all_keep class leaf ps) a in
    let rest = keep_append class leaf ps qs w.1 b in
    (λ i. if w.0 i then rest i else false)

-- the puts of a plan can be written and read back, since those of the trial can
pub plan_kept : AlikeIsKept → SameHoldsTheSame → LinkStandsApart → WrittenInnerReadsBack → (class leaf : Class) (told : Type 0) (terms : Terms) (task : Task) (count : ℕ) (puts : List Put) (calls calls' : List Call) → Passes class leaf terms task count → IsPlan told terms task puts calls calls' → all_keep class leaf puts ≡ true
plan_kept alike holds apart written class leaf told terms task count puts calls calls' p plan =
    let c = changes_alike terms task.bottom task.rungs p.change plan.change p.trial.set plan.set plan.numbers in
    let k = both (all_keep class leaf p.change.news) (all_keep class leaf p.change.olds) p.kept in
    let news = all_kept apart written alike holds class leaf p.change.news plan.change.news c.news p.sound_news k.0 in
    let olds = all_kept apart written alike holds class leaf p.change.olds plan.change.olds c.olds p.sound_olds k.1 in
    ap (all_keep class leaf) plan.puts_are
    ∙ keep_puts class leaf (plan.change.news ++ plan.change.olds) [] (keep_append class leaf plan.change.news plan.change.olds news olds) refl

-- each change of a set can be written and reads back, since that of the trial does
pub change_kept : AlikeIsKept → SameHoldsTheSame → LinkStandsApart → WrittenInnerReadsBack → (class leaf : Class) (terms : Terms) (task : Task) (count : ℕ) (change : Change) → Passes class leaf terms task count → IsRootSet terms task.bottom task.rungs change → AllBelow (2 ^ 64) (map put_oid change.news) → change_keeps class leaf change ≡ true
change_kept alike holds apart written class leaf terms task count change p set numbers =
    let c = changes_alike terms task.bottom task.rungs p.change change p.trial.set set numbers in
    let k = both (all_keep class leaf p.change.news) (all_keep class leaf p.change.olds) p.kept in
    let news = all_kept apart written alike holds class leaf p.change.news change.news c.news p.sound_news k.0 in
    let olds = all_kept apart written alike holds class leaf p.change.olds change.olds c.olds p.sound_olds k.1 in
    ap (λ b. b && all_keep class leaf change.olds) news ∙ olds
