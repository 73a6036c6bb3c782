-- Sets in sound trees.
use Rattle.std.proofs.Common.{◌≡◌, ℕ, ◌≤◌, ◌<◌, ◌^◌, Bool, true, false, List, [], ◌∷◌, ◌++◌, Option, Some, None, Result, Ok, Err, refl, sym, ◌∙◌, ap, subst, zero, suc, inl, inr}
use Rattle.std.specs.Prelude.{map, length, nat_eq, nat_lt, ◌||◌, not, if◌then◌else◌}
use Rattle.pickle_graph.specs.Graph.{Graph}
use Rattle.btree_family.specs.declared.key.Key.{Key}
use Rattle.btree_family.specs.declared.bucket.Item.{Item}
use Rattle.btree_family.specs.Keys.{rank_of}
use Rattle.btree_family.specs.Classes.{Class}
use Rattle.btree_family.specs.Buckets.{BucketContents}
use Rattle.btree_family.specs.Rising.{Rises}
use Rattle.bucket_state.specs.declared.tree.Inner.{Inner}
use Rattle.bucket_state.specs.Trees.{separators_of}
use Rattle.zb_record.specs.declared.error.RecordError.{RecordError}
use Rattle.zb_record.specs.Records.{record_of}
use Rattle.btree_shapes.specs.declared.node.Node.{Node}
use Rattle.btree_shapes.specs.declared.node.Node.TheVariants as node
use Rattle.btree_shapes.specs.declared.path.Step.{Step}
use Rattle.btree_shapes.specs.declared.way.Found.{Found}
use Rattle.btree_shapes.specs.Nodes.{Held, Holds, node_of, held_node, held_record, held_in, class_held, objects_of}
use Rattle.btree_shapes.specs.Ways.{stands_in}
use Rattle.btree_shapes.specs.Shapes.{Shape, Limb, mapping_of, node_held, nodes_in, IsSound, IsLone, IsTree}
use Rattle.btree_putting.specs.declared.puts.Put.{Put}
use Rattle.btree_setting.specs.Types.{Bottom, Place, Change, Terms, Plain, Rung}
use Rattle.btree_setting.specs.Types as place
use Rattle.btree_setting.specs.declared.preparing.Sizes.{Sizes}
use Rattle.btree_setting.specs.Bottoms.{leaf_at, set_at, bottom_of}
use Rattle.btree_putting.specs.Items.{has_key, has_value}
use Rattle.btree_setting.specs.Inserting.{set_item}
use Rattle.btree_putting.specs.Puts.{put_oid, sort_puts, all_keep, put_all, add_put, leaf_node, lone_node, inner_node}
use Rattle.btree_setting.specs.Changes.{IsRootSet, IsLeafSet}
use Rattle.btree_putting.specs.Firsts.{is_none}
use Rattle.btree_setting.specs.Rungs.{rungs_of, settle}
use Rattle.btree_setting.specs.Sets.{puts_of}
use Rattle.btree_setting.specs.Tasks.{end_of, rungs_above, splits}
use Rattle.btree_maps.specs.Drawn.{Differ, AreNew}
use Rattle.btree_shapes.specs.RiseLaws.{separators_rise}
use Rattle.btree_shapes.specs.ChainLaws.{distinct_links}
use Rattle.btree_maps.proofs.Limbs.{ForKey, OldShape}
use Rattle.btree_maps.proofs.Rungs.{PathIn, RungsIn, rungs_in}
use Rattle.btree_maps.proofs.Putting.{AllPut, all_parts, sort_parts, sort_differ, sort_stands, stands_append, oids_append, differ_append, or_end, both, same_number, own_number, or_left, or_right}
use Rattle.btree_maps.proofs.Onways.{OnWay, leaf_olds, root_on, root_differ, keeps}
use Rattle.btree_maps.proofs.Backs.{AllHeld, OfRoot, all_back, back_put, put_all_else, class_stays}
use Rattle.btree_maps.proofs.Rooting.{root_held, bottom_held, alone_set, lone_fits, lone_splits, tree_set}

-- ---- what stands once all is put

none_of_root : (before : ℕ → Option (List ℕ)) (root : ℕ) (ps : List Put) → stands_in (map put_oid ps) root ≡ false → OfRoot before root ps
none_of_root before root [] n = tt
none_of_root before root (p ∷ ps) n = (
  λ e. let own : nat_eq p.oid root ≡ true = subst (λ o. nat_eq p.oid o ≡ true) e (own_number p.oid) in let off = or_left (nat_eq p.oid root) (stands_in (map put_oid ps) root) n in absurd cc,
  none_of_root before root ps (or_right (nat_eq p.oid root) (stands_in (map put_oid ps) root) n),
)

held_of_root : (before : ℕ → Option (List ℕ)) (root : ℕ) (ps : List Put) → AllHeld (objects_of before root) ps → OfRoot before root ps
held_of_root before root [] a = tt
held_of_root before root (p ∷ ps) a = (λ e. (a.0.0, ap (objects_of before root) (sym e) ∙ a.0.1), held_of_root before root ps a.1)

of_root_append : (before : ℕ → Option (List ℕ)) (root : ℕ) (ps qs : List Put) → OfRoot before root ps → OfRoot before root qs → OfRoot before root (ps ++ qs)
of_root_append before root [] qs a b = b
of_root_append before root (p ∷ ps) qs a b = (a.0, of_root_append before root ps qs a.1 b)

add_of_root : (before : ℕ → Option (List ℕ)) (root : ℕ) (p : Put) (xs : List Put) → (p.oid ≡ root → (n : Node) × (objects_of before root root ≡ Holds p.class n)) → OfRoot before root xs → OfRoot before root (add_put p xs)
add_of_root before root p [] h a = (h, tt)
add_of_root before root p (x ∷ xs) h a = by_test (add_of_root before root p xs h a.1) (nat_lt x.oid p.oid) where
  by_test : OfRoot before root (add_put p xs) → (b : Bool) → OfRoot before root (if b then x ∷ add_put p xs else p ∷ x ∷ xs)
  by_test deeper true = (a.0, deeper)
  by_test deeper false = (h, a)

sort_of_root : (before : ℕ → Option (List ℕ)) (root : ℕ) (ps : List Put) → OfRoot before root ps → OfRoot before root (sort_puts ps)
sort_of_root before root [] a = tt
sort_of_root before root (p ∷ ps) a = add_of_root before root p (sort_puts ps) a.0 (sort_of_root before root ps a.1)

pub record Written (before after : ℕ → Option (List ℕ)) (root : ℕ) (news olds : List Put) : Type 0 where
  pub class : class_held (after root) ≡ class_held (before root)
  pub news_put : AllPut (nodes_in (objects_of after root)) news
  pub olds_put : AllPut (nodes_in (objects_of after root)) olds
  pub others : (p : ℕ) → stands_in (map put_oid news) p ≡ false → stands_in (map put_oid olds) p ≡ false → nodes_in (objects_of after root) p ≡ nodes_in (objects_of before root) p

pub written : (class leaf : Class) (before : ℕ → Option (List ℕ)) (root : ℕ) (news olds : List Put) → class_held (before root) ≡ Some class → Differ (map put_oid news) → Differ (map put_oid olds) → ((q : ℕ) → stands_in (map put_oid olds) q ≡ true → stands_in (map put_oid news) q ≡ false)
    → stands_in (map put_oid news) root ≡ false → AllHeld (objects_of before root) olds → all_keep class leaf (sort_puts (news ++ olds)) ≡ true → Written before (put_all class leaf (sort_puts (news ++ olds)) before) root news olds
written class leaf before root news olds c dn dd out nr held k =
    let ps = sort_puts (news ++ olds) in
    let after = put_all class leaf ps before in
    let d : Differ (map put_oid ps) = sort_differ (news ++ olds) (subst Differ (sym (oids_append news olds)) (differ_append (map put_oid news) (map put_oid olds) dn dd out)) in
    let roots : OfRoot before root ps = sort_of_root before root (news ++ olds) (of_root_append before root news olds (none_of_root before root news nr) (held_of_root before root olds held)) in
    let own : class_held (after root) ≡ Some class = class_stays class leaf before root ps c d k roots in
    let all : AllPut (nodes_in (objects_of after root)) ps = back_put class after root ps own (all_back class leaf ps before d k) in
    let parts = all_parts (nodes_in (objects_of after root)) news olds (sort_parts (nodes_in (objects_of after root)) (news ++ olds) all) in
    record {
      class = own ∙ sym c;
      news_put = parts.0;
      olds_put = parts.1;
      others = λ p x y.
          let s : stands_in (map put_oid ps) p ≡ false = sort_stands (news ++ olds) p ∙ ap (λ os. stands_in os p) (oids_append news olds) ∙ stands_append (map put_oid news) (map put_oid olds) p ∙ both (stands_in (map put_oid news) p) (stands_in (map put_oid olds) p) x y in
          ap (λ z. node_held (held_in z (after p))) (own ∙ sym c) ∙ ap (λ z. node_held (held_in (class_held (before root)) z)) (put_all_else class leaf ps before p s);
    }

-- ---- what is read of an object with others below it

held_inner : (class : Class) (o : Option (List ℕ)) (i : Inner) → node_held (held_in (Some class) o) ≡ Some (node.Inner i) → Rises None (separators_of i.tail)
held_inner class None i e = absurd cc
held_inner class (Some bytes) i e = by_record (record_of bytes) e where
  by_node : (own state : Graph) (o : Option Node) → node_of class own state ≡ o → node_held (held_node own o) ≡ Some (node.Inner i) → Rises None (separators_of i.tail)
  by_node own state None n e = absurd cc
  by_node own state (Some m) n e = let same : m ≡ node.Inner i = cc in separators_rise class own state i (n ∙ ap Some same)

  by_record : (r : Result (Graph × Graph) RecordError) → node_held (held_record class r) ≡ Some (node.Inner i) → Rises None (separators_of i.tail)
  by_record (Err x) e = absurd cc
  by_record (Ok object) e = by_node object.0 object.1 (node_of class object.0 object.1) refl e

rising : (class : Class) (contents : ℕ → Option (List ℕ)) (root : ℕ) → class_held (contents root) ≡ Some class → (oid : ℕ) (i : Inner) → nodes_in (objects_of contents root) oid ≡ Some (node.Inner i) → Rises None (separators_of i.tail)
rising class contents root c oid i e = held_inner class (contents oid) i (ap (λ z. node_held (held_in z (contents oid))) (sym c) ∙ e)

-- ---- the leaf that is set

abbrev pub bottom_with : ℕ → Graph → Key → Option (List ℕ) → BucketContents → Place → Bottom
bottom_with oid class key value leaf p = record { oid = oid; class = class; leaf = record { items = set_item leaf.items key value; next = leaf.next }; place = p; adds = not (has_key leaf.items key) }

pub record BottomIs (oid : ℕ) (class : Graph) (key : Key) (value : Option (List ℕ)) (leaf : BucketContents) (p : Place) (bottom : Bottom) : Type 0 where
  pub oid_is : bottom.oid ≡ oid
  pub class_is : bottom.class ≡ class
  pub items : bottom.leaf.items ≡ set_item leaf.items key value
  pub next : bottom.leaf.next ≡ leaf.next
  pub place_is : bottom.place ≡ p

pub bottom_is : (oid : ℕ) (class : Graph) (key : Key) (value : Option (List ℕ)) (leaf : BucketContents) (p : Place) (bottom : Bottom) → set_at oid class key value (Some (leaf, p)) ≡ Some bottom → BottomIs oid class key value leaf p bottom
bottom_is oid class key value leaf p bottom e = by_test (has_value leaf.items key value) e where
  own : BottomIs oid class key value leaf p (bottom_with oid class key value leaf p)
  own = record { oid_is = refl; class_is = refl; items = refl; next = refl; place_is = refl }

  by_test : (t : Bool) → (if t then None else Some (bottom_with oid class key value leaf p)) ≡ Some bottom → BottomIs oid class key value leaf p bottom
  by_test true e = absurd cc
  by_test false e = let same : bottom_with oid class key value leaf p ≡ bottom = cc in subst (BottomIs oid class key value leaf p) same own

-- the leaf at the end of a way
pub path_end : (objects : ℕ → Held) (key : Key) (h : ℕ) (s : Shape h) (path : List Step) (oid : ℕ) (class : Graph) (n : Node) → PathIn objects key h s path oid class n → (leaf : BucketContents) × (n ≡ node.Leaf leaf) × (objects oid ≡ Holds class n)
path_end objects key zero s [] oid class n p = (record { items = s.items; next = s.next }, p.1, p.2)
path_end objects key zero s (x ∷ xs) oid class n p = absurd p
path_end objects key (suc h) s [] oid class n p = absurd p
path_end objects key (suc h) s (x ∷ xs) oid class n p = any (λ c q. path_end objects key h c xs oid class n q) s.tail s.head p.3 where
  any : ((c : Shape h) → PathIn objects key h c xs oid class n → (leaf : BucketContents) × (n ≡ node.Leaf leaf) × (objects oid ≡ Holds class n)) → (ls : List (Limb (Shape h))) (c : Shape h) → ForKey (λ c. PathIn objects key h c xs oid class n) key c ls → (leaf : BucketContents) × (n ≡ node.Leaf leaf) × (objects oid ≡ Holds class n)
  any each [] c e = each c e
  any each (l ∷ ls) c (inl e) = each c e.1
  any each (l ∷ ls) c (inr e) = any each ls l.child e.1

none_not : (h : ℕ) (objects : ℕ → Held) (key : Key) (s : Shape (suc h)) (path : List Step) (oid : ℕ) (class : Graph) (n : Node) → PathIn objects key (suc h) s path oid class n → is_none path ≡ false
none_not h objects key s [] oid class n p = absurd p
none_not h objects key s (x ∷ xs) oid class n p = refl

-- ---- trees of several objects

abbrev terms_for : Sizes → Key → Plain → Terms
terms_for sizes key plain = record { leaf = sizes.leaf; inner = sizes.inner; key = key; plain = plain }

module _ (class leafs : Class) (before : ℕ → Option (List ℕ)) (root : ℕ) (sizes : Sizes) (key : Key) (value : Option (List ℕ)) (kind : ℕ) (plain : Plain) (c : class_held (before root) ≡ Some class) (rank : rank_of key ≡ kind) (two : 2 ≤ sizes.leaf) (three : 3 ≤ sizes.inner) (change : Change) (few : length change.news < 2 ^ 64) (new : AreNew (objects_of before root) root (map put_oid change.news)) (kept : all_keep class leafs (puts_of change) ≡ true) where
  abbrev objects : ℕ → Held
  objects = objects_of before root

  abbrev after : ℕ → Option (List ℕ)
  after = put_all class leafs (puts_of change) before

  abbrev oids : List ℕ
  oids = map put_oid change.news

  -- the tree after the set, with the class of its root
  abbrev pub Done : List Item → Type 0
  Done mapping = IsTree (objects_of after root) root kind (set_item mapping key value) × (class_held (after root) ≡ class_held (before root))

  inner_done : (h : ℕ) (s : Shape (suc h)) (bottom : Bottom) (rungs : List Rung) → IsSound (nodes_in objects) root kind (suc h) s → RungsIn objects value (terms_for sizes key plain) bottom (suc h) s rungs → IsRootSet (terms_for sizes key plain) bottom rungs change → Done (mapping_of (suc h) s)
  inner_done h s bottom [] i r set = absurd r
  inner_done h s bottom (x ∷ xs) i r set =
      let terms = terms_for sizes key plain in
      let old : OldShape (nodes_in objects) oids kind (suc h) s = ((i.stands, i.names, i.of_kind), new.apart kind (suc h) s i) in
      let on : (q : ℕ) → stands_in (map put_oid change.olds) q ≡ true → OnWay (nodes_in objects) oids bottom.oid (suc h) q = λ q e. root_on objects kind value terms bottom oids h s x xs change q old r set e in
      let w = written class leafs before root change.news change.olds c new.differ (root_differ objects kind value terms bottom oids h s x xs change old r set) (λ q e. (on q e).out) new.root_apart (root_held objects value terms bottom h s x xs change r set) kept in
      let keep = keeps objects kind value terms bottom oids (nodes_in (objects_of after root)) bottom.oid (suc h) (map put_oid change.olds) on w.others in (
        tree_set objects (objects_of after root) kind value terms bottom oids rank two three (rising class before root c) keep root h s x xs change i.height few i.root_is old i.bounded i.linked (distinct_links (nodes_in objects) (suc h) s i.stands i.linked) r set w.news_put w.olds_put w.others,
        w.class,
      )

  pub shape_done : (fits : Bool) (h : ℕ) (s : Shape (suc h)) (found : Found) (bottom : Bottom) (rungs : List Rung) → IsSound (nodes_in objects) root kind (suc h) s → PathIn objects key (suc h) s found.path found.oid found.class found.node → bottom_of (end_of found) key value ≡ Some bottom → settle objects fits key [] (rungs_above sizes key found bottom) ≡ Ok rungs → IsRootSet (terms_for sizes key plain) bottom rungs change → Done (mapping_of (suc h) s)
  shape_done fits h s found bottom rungs i p b e set =
      let terms = terms_for sizes key plain in
      let end = path_end objects key (suc h) s found.path found.oid found.class found.node p in
      let nn = none_not h objects key s found.path found.oid found.class found.node p in
      let at : set_at found.oid found.class key value (leaf_at found.node false) ≡ Some bottom = ap (λ t. set_at found.oid found.class key value (leaf_at found.node t)) (sym nn) ∙ b in
      let is = bottom_is found.oid found.class key value end.0 place.Below bottom (ap (λ z. set_at found.oid found.class key value (leaf_at z false)) (sym end.1) ∙ at) in
      let holds : objects bottom.oid ≡ Holds bottom.class found.node = ap objects is.oid_is ∙ end.2 ∙ ap (λ g. Holds g found.node) (sym is.class_is) in
      let leaf : (t : Shape 0) → found.node ≡ node.Leaf (record { items = t.items; next = t.next }) → (bottom.leaf.items ≡ set_item t.items key value) × (bottom.leaf.next ≡ t.next) = λ t m.
      let same : end.0 ≡ record { items = t.items; next = t.next } = cc (end.1, m) in
      (is.items ∙ ap (λ (z : BucketContents). set_item z.items key value) same, is.next ∙ ap (λ (z : BucketContents). z.next) same) in
      let old : OldShape (nodes_in objects) oids kind (suc h) s = ((i.stands, i.names, i.of_kind), new.apart kind (suc h) s i) in
      let e' : settle objects fits key [] (rungs_of sizes.inner key (splits sizes.leaf bottom) found.oid found.path) ≡ Ok rungs = ap (λ o. settle objects fits key [] (rungs_of sizes.inner key (splits sizes.leaf bottom) o found.path)) (sym is.oid_is) ∙ e in
      inner_done h s bottom rungs i (rungs_in objects kind value terms bottom oids fits found.oid found.class found.node is.oid_is is.place_is holds leaf (suc h) s [] found.path rungs p old e') set

  -- ---- trees of one object

  leaf_written : (bottom : Bottom) (n : Node) → bottom.oid ≡ root → objects bottom.oid ≡ Holds bottom.class n → IsRootSet (terms_for sizes key plain) bottom [] change → Written before after root change.news change.olds
  leaf_written bottom n o h set =
      let olds = leaf_olds bottom.place sizes.leaf plain bottom change set in
      written class leafs before root change.news change.olds c new.differ (subst Differ (sym olds) (refl, tt))
      (λ q e.
      let j : (nat_eq bottom.oid q || false) ≡ true = ap (λ os. stands_in os q) (sym olds) ∙ e in
      ap (stands_in oids) (sym (same_number bottom.oid q (or_end (nat_eq bottom.oid q) j)) ∙ o) ∙ new.root_apart)
      new.root_apart (bottom_held objects (terms_for sizes key plain) bottom change n h set) kept

  pub alone_done : (s : Shape 0) (bottom : Bottom) (n : Node) → IsSound (nodes_in objects) root kind 0 s → bottom.oid ≡ root → objects bottom.oid ≡ Holds bottom.class n → bottom.place ≡ place.Alone → bottom.leaf.items ≡ set_item s.items key value → bottom.leaf.next ≡ s.next → IsRootSet (terms_for sizes key plain) bottom [] change → Done s.items
  alone_done s bottom n i o h p is nx set =
      let w = leaf_written bottom n o h set in
      let set' : IsLeafSet place.Alone sizes.leaf plain bottom change = subst (λ z. IsLeafSet z sizes.leaf plain bottom change) p set in
      let put : Put = record { oid = bottom.oid; class = bottom.class; leaves = false; node = leaf_node bottom.leaf.items bottom.leaf.next } in
      let po : AllPut (nodes_in (objects_of after root)) (put ∷ []) = subst (λ (y : Change). AllPut (nodes_in (objects_of after root)) y.olds) set' w.olds_put in
      let e : nodes_in (objects_of after root) root ≡ Some (leaf_node (set_item s.items key value) s.next) = ap (nodes_in (objects_of after root)) (sym o) ∙ po.0 ∙ ap (λ z. Some (leaf_node z bottom.leaf.next)) is ∙ ap (λ z. Some (leaf_node (set_item s.items key value) z)) nx in
      (alone_set (objects_of after root) kind root s.items s.next key value i.bounded i.of_kind rank i.linked e, w.class)

  pub lone_done : (items : List Item) (bottom : Bottom) (n : Node) → IsLone (nodes_in objects) root kind items → bottom.oid ≡ root → objects bottom.oid ≡ Holds bottom.class n → bottom.place ≡ place.Lone → bottom.leaf.items ≡ set_item items key value → bottom.leaf.next ≡ None → IsRootSet (terms_for sizes key plain) bottom [] change → Done items
  lone_done items bottom n i o h p is nx set =
      let w = leaf_written bottom n o h set in
      let set' : IsLeafSet place.Lone sizes.leaf plain bottom change = subst (λ z. IsLeafSet z sizes.leaf plain bottom change) p set in
      (by_case w set', w.class) where
        by_case : Written before after root change.news change.olds → IsLeafSet place.Lone sizes.leaf plain bottom change → IsTree (objects_of after root) root kind (set_item items key value)
        by_case w (inl a) =
            let put : Put = record { oid = bottom.oid; class = bottom.class; leaves = false; node = lone_node bottom.leaf.items bottom.leaf.next } in
            let po : AllPut (nodes_in (objects_of after root)) (put ∷ []) = subst (λ (y : Change). AllPut (nodes_in (objects_of after root)) y.olds) a.1 w.olds_put in
            let e : nodes_in (objects_of after root) root ≡ Some (lone_node (set_item items key value) None) = ap (nodes_in (objects_of after root)) (sym o) ∙ po.0 ∙ ap (λ z. Some (lone_node z None)) is in
            lone_fits (objects_of after root) kind root items key value i.rises i.of_kind rank e
        by_case w (inr a) =
            let sp = a.1 in
            let top : Put = record { oid = bottom.oid; class = bottom.class; leaves = true; node = inner_node sp.new (record { key = sp.key; child = sp.other } ∷ []) sp.new } in
            let one : Put = record { oid = sp.new; class = plain.leaf; leaves = false; node = leaf_node sp.left (Some sp.other) } in
            let two' : Put = record { oid = sp.other; class = plain.leaf; leaves = false; node = leaf_node sp.right bottom.leaf.next } in
            let po : AllPut (nodes_in (objects_of after root)) (top ∷ []) = subst (λ (y : Change). AllPut (nodes_in (objects_of after root)) y.olds) sp.is w.olds_put in
            let pn : AllPut (nodes_in (objects_of after root)) (one ∷ two' ∷ []) = subst (λ (y : Change). AllPut (nodes_in (objects_of after root)) y.news) sp.is w.news_put in
            let e : nodes_in (objects_of after root) root ≡ Some (inner_node sp.new (record { key = sp.cut.item.key; child = sp.other } ∷ []) sp.new) = ap (nodes_in (objects_of after root)) (sym o) ∙ po.0 ∙ ap (λ z. Some (inner_node sp.new (record { key = z; child = sp.other } ∷ []) sp.new)) sp.cut.key_is in
            let e2 : nodes_in (objects_of after root) sp.other ≡ Some (leaf_node (sp.cut.item ∷ sp.cut.more) None) = pn.1.0 ∙ ap (λ z. Some (leaf_node z bottom.leaf.next)) sp.cut.right_is ∙ ap (λ z. Some (leaf_node (sp.cut.item ∷ sp.cut.more) z)) nx in
            lone_splits (objects_of after root) kind root sp.new sp.other items key value sp.left sp.cut.item sp.cut.more i.rises i.of_kind rank (sym is ∙ sp.cut.cut) e pn.0 e2
