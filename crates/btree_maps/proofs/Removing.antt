-- Removes in sound trees.
use Rattle.std.proofs.Common.{◌≡◌, ℕ, true, false, List, [], ◌∷◌, ◌++◌, Option, Some, None, Result, Ok, Err, refl, arith, sym, ◌∙◌, ap, subst, zero, suc, inl, inr, append_assoc, append-nil}
use Rattle.std.specs.Prelude.{map, nat_eq, if◌then◌else◌, ◌==◌}
use Rattle.std.proofs.lemmas.Grind.{common_steps}
use Rattle.std.proofs.lemmas.Bool.{cases_eq}
use Rattle.pickle_graph.specs.Graph.{Graph}
use Rattle.btree_family.specs.declared.key.Key.{Key}
use Rattle.btree_family.specs.declared.bucket.Item.{Item}
use Rattle.btree_family.specs.Classes.{Class}
use Rattle.btree_family.specs.Buckets.{BucketContents}
use Rattle.bucket_state.specs.declared.tree.Inner.{Inner}
use Rattle.btree_shapes.specs.declared.error.TreeError.{TreeError}
use Rattle.btree_shapes.specs.declared.node.Node.{Node}
use Rattle.btree_shapes.specs.declared.node.Node.TheVariants as node
use Rattle.btree_shapes.specs.declared.path.Step.{Step}
use Rattle.btree_shapes.specs.Nodes.{Held, Holds, class_held, objects_of}
use Rattle.btree_shapes.specs.Ways.{stands_in}
use Rattle.btree_shapes.specs.Shapes.{LeafShape, Shape, Limb, Bounded, mapping_of, node_held, nodes_in, Link, links_of, Linked, IsSound, IsTree}
use Rattle.btree_putting.specs.declared.puts.Put.{Put}
use Rattle.btree_putting.specs.Puts.{put_oid, same_link, sort_puts, all_keep, put_all}
use Rattle.btree_removing.specs.Types.{Last, Loss, Same, Gone, Rung, Start}
use Rattle.btree_removing.specs.Items.{remove_item}
use Rattle.btree_removing.specs.Bottoms.{leaf_without, put_leaf}
use Rattle.btree_removing.specs.Rungs.{rung_oid, rungs_of}
use Rattle.btree_removing.specs.Sides.{no_sides, sides_of}
use Rattle.btree_removing.specs.Lasts.{last_below, relinked as relinked_puts, relink, link_before}
use Rattle.btree_removing.specs.Losses.{raise, leaves_tree}
use Rattle.btree_removing.specs.Plans.{first_head, all_puts}
use Rattle.btree_maps.specs.Drawn.{Differ}
use Rattle.btree_maps.proofs.RemoveItems.{within_remove, rises_remove, kind_remove}
use Rattle.btree_shapes.specs.ChainLaws.{Avoids, Distinct, distinct_links, distinct_parts}
use Rattle.btree_maps.proofs.Dropping.{drop_link, drop_same, relink_one, distinct_map, link, chain_after, chain_first}
use Rattle.btree_maps.proofs.Limbs.{ForKey, Fine}
use Rattle.btree_maps.proofs.Rungs.{PathIn, inner_of}
use Rattle.btree_maps.proofs.Putting.{AllPut, both, bool_cases, same_number, other_number}
use Rattle.btree_maps.proofs.Backs.{AllHeld}
use Rattle.btree_maps.proofs.Setting.{Written, written, path_end}
use Rattle.btree_maps.proofs.Losing.{WayIn, Apart, AreHeld, loss_off, loss_differ, loss_held, raise_kept, way_apart}
use Rattle.btree_maps.proofs.Fading.{Fate}
use Rattle.btree_maps.proofs.Relinking.{relinked}
use Rattle.btree_maps.proofs.Befores.{Comes, LeftOf, from_start, place_in, leaf_of, way_of_path}
use Rattle.btree_maps.proofs.Endings.{EndsBy, last_left}
use Rattle.btree_maps.proofs.Leaving.{tree_removed}

-- ---- the leaf

abbrev pub leaf_put : ℕ → Graph → BucketContents → Key → Put
leaf_put oid class bucket key = put_leaf oid class (node.Leaf (leaf_without bucket key))

bottom_kept : (nodes nodes' : ℕ → Option Node) (kind : ℕ) (key : Key) (oid : ℕ) (class : Graph) (bucket : BucketContents) (low high : Option Key) → Fine nodes kind 0 (leaf_of oid bucket) → Bounded 0 low high (leaf_of oid bucket) → AllPut nodes' (leaf_put oid class bucket key ∷ [])
    → Fate nodes' kind key oid false 0 low high (leaf_of oid bucket) Same
bottom_kept nodes nodes' kind key oid class bucket low high f b po = record {
  after = record { oid = oid; items = remove_item bucket.items key; next = bucket.next };
  oid = refl;
  fine = (po.0, tt, kind_remove kind bucket.items key f.2);
  bounded = (rises_remove None bucket.items key b.0, within_remove low high bucket.items key b.1);
  mapping = refl;
  first_is = refl;
  links = refl;
}

bottom_gone : (nodes' : ℕ → Option Node) (kind : ℕ) (key : Key) (oid : ℕ) (bucket : BucketContents) (low high : Option Key) → remove_item bucket.items key ≡ [] → Fate nodes' kind key oid true 0 low high (leaf_of oid bucket) Gone
bottom_gone nodes' kind key oid bucket low high e = record { mapping = e; links = drop_same oid (link oid bucket.next) [] refl; first = refl }

-- the objects of the way hold what it says
path_held : (objects : ℕ → Held) (key : Key) (h : ℕ) (s : Shape h) (path : List Step) (oid : ℕ) (class : Graph) (n : Node) → PathIn objects key h s path oid class n → AreHeld objects (rungs_of true path)
path_held objects key zero s [] oid class n p = tt
path_held objects key zero s (x ∷ xs) oid class n p = absurd p
path_held objects key (suc h) s [] oid class n p = absurd p
path_held objects key (suc h) s (x ∷ xs) oid class n p = (p.2, any (λ c q. path_held objects key h c xs oid class n q) s.tail s.head p.3) where
  any : ((c : Shape h) → PathIn objects key h c xs oid class n → AreHeld objects (rungs_of true xs)) → (ls : List (Limb (Shape h))) (c : Shape h) → ForKey (λ c. PathIn objects key h c xs oid class n) key c ls → AreHeld objects (rungs_of true xs)
  any each [] c e = each c e
  any each (l ∷ ls) c (inl e) = each c e.1
  any each (l ∷ ls) c (inr e) = any each ls l.child e.1

-- ---- the leaf before

-- it is another leaf, which links to this one
next_not : (to : ℕ) (nx : Option ℕ) (ys : List Link) → Linked (link to nx ∷ ys) → Avoids to ys → same_link (Some to) nx ≡ false
next_not to nx [] l a = ap (same_link (Some to)) l
next_not to nx (y ∷ ys) l a = ap (same_link (Some to)) l.0 ∙ not_same to y.oid (λ e. a.0 (sym e)) where
  not_same : (m n : ℕ) → (m ≡ n → ⊥) → (m == n) ≡ false
  not_same m n x = grind (arith, common_steps)

other_link : (xs ys : List Link) (p to : ℕ) (q nx : Option ℕ) → Linked (xs ++ link p q ∷ link to nx ∷ ys) → Distinct (xs ++ link p q ∷ link to nx ∷ ys) → same_link q nx ≡ false
other_link [] ys p to q nx l d = ap (λ z. same_link z nx) l.0 ∙ next_not to nx ys l.1 d.1.0
other_link (x ∷ []) ys p to q nx l d = other_link [] ys p to q nx l.1 d.1
other_link (x ∷ z ∷ zs) ys p to q nx l d = other_link (z ∷ zs) ys p to q nx l.1 d.1

abbrev with_node : (ℕ → Option Node) → ℕ → Node → ℕ → Option Node
with_node nodes o n q = if q == o then Some n else nodes q

node_there : (nodes : ℕ → Option Node) (o : ℕ) (n : Node) → with_node nodes o n o ≡ Some n
node_there nodes o n = grind (arith, common_steps)

node_else : (nodes : ℕ → Option Node) (o q : ℕ) (n : Node) → (q ≡ o → ⊥) → with_node nodes o n q ≡ nodes q
node_else nodes o q n e = grind (arith, common_steps)

-- a leaf is no object with others below it
not_inner : (bucket : BucketContents) (inner : Inner) → Some (node.Leaf bucket) ≡ Some (node.Inner inner) → ⊥
not_inner bucket inner e = cc

off_rungs : (objects : ℕ → Held) (p : ℕ) (bucket : BucketContents) (rungs : List Rung) → AreHeld objects rungs → nodes_in objects p ≡ Some (node.Leaf bucket) → stands_in (map rung_oid rungs) p ≡ false
off_rungs objects p bucket [] r e = refl
off_rungs objects p bucket (x ∷ xs) r e =
    let apart : x.oid ≡ p → ⊥ = λ same. not_inner bucket x.inner (sym e ∙ ap (nodes_in objects) (sym same) ∙ ap node_held r.0) in
    both (nat_eq x.oid p) (stands_in (map rung_oid xs) p) (other_number x.oid p apart) (off_rungs objects p bucket xs r.1 e)

out_of_one : (os : List ℕ) (p q : ℕ) → stands_in os p ≡ false → stands_in os q ≡ true → stands_in (p ∷ []) q ≡ false
out_of_one os p q n i = elim (bool_cases (nat_eq p q)) [
  | inl t ↦ let bad : true ≡ false = sym i ∙ ap (stands_in os) (sym (same_number p q t)) ∙ n in absurd cc
  | inr f ↦ both (nat_eq p q) false f refl
]

leaf_same : (a b : BucketContents) → Some (node.Leaf a) ≡ Some (node.Leaf b) → a.items ≡ b.items
leaf_same a b e = let same : a ≡ b = cc in ap (λ (z : BucketContents). z.items) same

-- ---- trees of several objects

module _ (class leafs : Class) (before : ℕ → Option (List ℕ)) (root kind : ℕ) (key : Key) (c : class_held (before root) ≡ Some class) where
  abbrev objects : ℕ → Held
  objects = objects_of before root

  abbrev nodes : ℕ → Option Node
  nodes = nodes_in objects

  abbrev pub after_all : List Put → ℕ → Option (List ℕ)
  after_all puts = put_all class leafs puts before

  -- the tree after the remove, with the class of its root
  abbrev pub Done : List Put → List Item → Type 0
  Done puts mapping = IsTree (objects_of (after_all puts) root) root kind (remove_item mapping key) × (class_held (after_all puts root) ≡ class_held (before root))

  -- ---- the leaf keeps an item

  pub kept_done : (h : ℕ) (s : Shape (suc h)) (path : List Step) (oid : ℕ) (own : Graph) (bucket : BucketContents) → IsSound nodes root kind (suc h) s → PathIn objects key (suc h) s path oid own (node.Leaf bucket) → all_keep class leafs (leaf_put oid own bucket key ∷ []) ≡ true → Done (leaf_put oid own bucket key ∷ []) (mapping_of (suc h) s)
  kept_done h s path oid own bucket i p kept =
      let puts : List Put = leaf_put oid own bucket key ∷ [] in
      let nodes' = nodes_in (objects_of (after_all puts) root) in
      let base : Loss = record { puts = puts; rest = Same } in
      let rungs = rungs_of true path in
      let leaf = leaf_of oid bucket in
      let fine : Fine nodes kind (suc h) s = (i.stands, i.names, i.of_kind) in
      let end = path_end objects key (suc h) s path oid own (node.Leaf bucket) p in
      let w : Written before (after_all puts) root [] puts = written class leafs before root [] puts c tt (refl, tt) (λ q n. refl) refl ((node.Leaf bucket, end.2), tt) kept in
      let way : WayIn key None base leaf (suc h) s rungs = way_of_path objects kind key None base oid own (node.Leaf bucket) bucket refl (suc h) s [] no_sides path p fine (λ g. absurd cc) in
      let same : raise key None rungs base ≡ base = raise_kept key None puts rungs in
      let po : AllPut nodes' (raise key None rungs base).puts = subst (λ (z : Loss). AllPut nodes' z.puts) (sym same) w.olds_put in
      let stay : (q : ℕ) → stands_in (map put_oid (raise key None rungs base).puts) q ≡ false → nodes' q ≡ nodes q = λ q n. w.others q refl (ap (λ (z : Loss). stands_in (map put_oid z.puts) q) (sym same) ∙ n) in (
        tree_removed nodes (objects_of (after_all puts) root) root kind key None base leaf false refl h s rungs (mapping_of (suc h) s) i.height fine i.bounded (distinct_links nodes (suc h) s i.stands i.linked) i.linked i.root_is refl way
            (λ low high f b a. bottom_kept nodes nodes' kind key oid own bucket low high f b a) po stay,
        w.class,
      )

  -- ---- the leaf leaves

  module _ (h : ℕ) (s : Shape (suc h)) (path : List Step) (oid : ℕ) (own : Graph) (bucket : BucketContents) (i : IsSound nodes root kind (suc h) s) (p : PathIn objects key (suc h) s path oid own (node.Leaf bucket)) (none : remove_item bucket.items key ≡ []) (known : Option ℕ)
      (head : first_head key objects (sides_of key (rungs_of true path)).head ≡ Ok known) where
    abbrev base : Loss
    base = leaves_tree (leaf_put oid own bucket key)

    abbrev rungs : List Rung
    rungs = rungs_of true path

    abbrev leaf : LeafShape
    leaf = leaf_of oid bucket

    abbrev olds : List Put
    olds = (raise key known rungs base).puts

    fine : Fine nodes kind (suc h) s
    fine = (i.stands, i.names, i.of_kind)

    way : WayIn key known base leaf (suc h) s rungs
    way = way_of_path objects kind key known base oid own (node.Leaf bucket) bucket refl (suc h) s [] no_sides path p fine (λ g. head)

    apart : Apart oid rungs
    apart = way_apart nodes kind key known base leaf (suc h) s rungs fine way

    differ : Differ (map put_oid olds)
    differ = loss_differ key known base oid refl rungs apart

    held : AllHeld objects olds
    held = loss_held key known base objects rungs ((node.Leaf bucket, (path_end objects key (suc h) s path oid own (node.Leaf bucket) p).2), tt) (path_held objects key (suc h) s path oid own (node.Leaf bucket) p)

    chain : Distinct (links_of (suc h) s)
    chain = distinct_links nodes (suc h) s i.stands i.linked

    -- no leaf stands before it
    first_done : (behind : List Link) → links_of (suc h) s ≡ link oid bucket.next ∷ behind → all_keep class leafs (sort_puts olds) ≡ true → Done (sort_puts olds) (mapping_of (suc h) s)
    first_done behind cut kept =
        let after' = objects_of (after_all (sort_puts olds)) root in
        let w : Written before (after_all (sort_puts olds)) root [] olds = written class leafs before root [] olds c tt differ (λ q n. refl) refl held kept in
        let l : Linked (drop_link oid (links_of (suc h) s)) = subst (λ ls. Linked (drop_link oid ls)) (sym cut) (chain_first oid bucket.next behind (subst Linked cut i.linked)) in (
          tree_removed nodes after' root kind key known base leaf true refl h s rungs (mapping_of (suc h) s) i.height fine i.bounded chain l i.root_is refl way (λ low high f b a. bottom_gone (nodes_in after') kind key oid bucket low high none) w.olds_put (λ q n. w.others q refl n),
          w.class,
        )

    -- the leaf before takes over the link
    module _ (o : ℕ) (class' : Graph) (items : List Item) (nx : Option ℕ) (front behind : List Link) (holds : objects o ≡ Holds class' (node.Leaf (record { items = items; next = nx }))) (cut : links_of (suc h) s ≡ front ++ link o nx ∷ link oid bucket.next ∷ behind) where
      abbrev new : Node
      new = node.Leaf (record { items = items; next = bucket.next })

      abbrev before_put : Put
      before_put = put_leaf o class' new

      abbrev puts : List Put
      puts = sort_puts (before_put ∷ olds)

      stands : nodes o ≡ Some (node.Leaf (record { items = items; next = nx }))
      stands = ap node_held holds

      distinct : Distinct (front ++ link o nx ∷ link oid bucket.next ∷ behind)
      distinct = subst Distinct cut chain

      linked : Linked (front ++ link o nx ∷ link oid bucket.next ∷ behind)
      linked = subst Linked cut i.linked

      pub link_changes : same_link nx bucket.next ≡ false
      link_changes = other_link front behind o oid nx bucket.next linked distinct

      not_leaf : oid ≡ o → ⊥
      not_leaf e = (distinct_parts front (link o nx ∷ link oid bucket.next ∷ behind) distinct).1.0.0 e

      off : stands_in (map put_oid olds) o ≡ false
      off = loss_off key known base oid refl rungs o (other_number oid o not_leaf) (off_rungs objects o (record { items = items; next = nx }) rungs (path_held objects key (suc h) s path oid own (node.Leaf bucket) p) stands)

      root_apart : stands_in (o ∷ []) root ≡ false
      root_apart =
          let n : o ≡ root → ⊥ = λ e. not_inner (record { items = items; next = nx }) (inner_of h s) (sym stands ∙ ap nodes e ∙ ap nodes (sym i.root_is) ∙ i.stands.0) in
          both (nat_eq o root) false (other_number o root n) refl

      abbrev nodes1 : ℕ → Option Node
      nodes1 = with_node nodes o new

      inners1 : (q : ℕ) (j : Inner) → nodes q ≡ Some (node.Inner j) → nodes1 q ≡ Some (node.Inner j)
      inners1 q j e = node_else nodes o q new (λ same. not_inner (record { items = items; next = nx }) j (sym stands ∙ ap nodes (sym same) ∙ e)) ∙ e

      others1 : (q : ℕ) (l : BucketContents) → nodes q ≡ Some (node.Leaf l) → (q ≡ o → ⊥) → nodes1 q ≡ Some (node.Leaf l)
      others1 q l e n = node_else nodes o q new n ∙ e

      here1 : (l : BucketContents) → nodes o ≡ Some (node.Leaf l) → nodes1 o ≡ Some (node.Leaf (record { items = l.items; next = bucket.next }))
      here1 l e = node_there nodes o new ∙ ap (λ z. Some (node.Leaf (record { items = z; next = bucket.next }))) (leaf_same (record { items = items; next = nx }) l (sym stands ∙ e))

      pub before_done : all_keep class leafs puts ≡ true → Done puts (mapping_of (suc h) s)
      before_done kept =
          let objects' = objects_of (after_all puts) root in
          let w : Written before (after_all puts) root (before_put ∷ []) olds = written class leafs before root (before_put ∷ []) olds c (refl, tt) differ (λ q n. out_of_one (map put_oid olds) o q off n) root_apart held kept in
          let r = relinked nodes nodes1 kind key known base leaf o bucket.next not_leaf inners1 others1 here1 (suc h) s fine in
          let l : Linked (drop_link oid (map (relink_one o bucket.next) (front ++ link o nx ∷ link oid bucket.next ∷ behind))) = chain_after front behind o oid nx bucket.next linked distinct in
          let l' : Linked (drop_link oid (links_of (suc h) r.after)) = subst (λ ls. Linked (drop_link oid ls)) (sym (r.links ∙ ap (map (relink_one o bucket.next)) cut)) l in
          let d' : Distinct (links_of (suc h) r.after) = subst Distinct (sym r.links) (distinct_map o bucket.next (links_of (suc h) s) chain) in
          let stay : (q : ℕ) → stands_in (map put_oid olds) q ≡ false → nodes_in objects' q ≡ nodes1 q = λ q n. elim (cases_eq q o) [
            | inl same ↦ ap (nodes_in objects') same ∙ w.news_put.0 ∙ sym (node_there nodes o new) ∙ ap nodes1 (sym same)
            | inr not ↦ w.others q (both (nat_eq o q) false (other_number o q (λ e. not (sym e))) refl) n ∙ sym (node_else nodes o q new not)
          ] in (
            tree_removed nodes1 objects' root kind key known base leaf true refl h r.after rungs (mapping_of (suc h) s) i.height r.fine (r.bounded None None i.bounded) d' l' (r.oid ∙ i.root_is) (sym r.mapping) (r.way rungs way)
                (λ low high f b a. bottom_gone (nodes_in objects') kind key oid bucket low high none) w.olds_put stay,
            w.class,
          )

    -- ---- with what was read besides the way

    abbrev Leaves : Result (List Put) TreeError → Type 0
    Leaves r = (befores : List Put) → r ≡ Ok befores → all_keep class leafs (sort_puts (befores ++ olds)) ≡ true → Done (sort_puts (befores ++ olds)) (mapping_of (suc h) s)

    relinked_is : (o : ℕ) (g : Graph) (items : List Item) (nx next : Option ℕ) → same_link nx next ≡ false → relinked_puts o g (node.Leaf (record { items = items; next = nx })) next ≡ put_leaf o g (node.Leaf (record { items = items; next = next })) ∷ []
    relinked_is o g items nx next e = ap (λ b. if b then [] else put_leaf o g (node.Leaf (record { items = items; next = next })) ∷ []) e

    last_done : (start : Start) (front behind : List Link) (l : LeftOf nodes start front) → links_of (suc h) s ≡ front ++ link oid bucket.next ∷ behind → (r : Result Last TreeError) → EndsBy objects l.height l.shape r → Leaves (relink bucket.next r)
    last_done start front behind l cut (Err x) e befores q kept = absurd cc
    last_done start front behind l cut (Ok last) e befores q kept =
        let front' = l.more ++ e.front in
        let cut' : links_of (suc h) s ≡ front' ++ link last.oid e.next ∷ link oid bucket.next ∷ behind =
        cut ∙ ap (λ ys. ys ++ link oid bucket.next ∷ behind) (l.cut ∙ ap (λ ys. l.more ++ ys) e.cut ∙ sym (append_assoc l.more e.front (link last.oid e.next ∷ []))) ∙ append_assoc front' (link last.oid e.next ∷ []) (link oid bucket.next ∷ behind) in
        let changes = link_changes last.oid last.class e.items e.next front' behind e.holds cut' in
        let given : relinked_puts last.oid last.class last.node bucket.next ≡ befores = cc in
        let are : befores ≡ put_leaf last.oid last.class (node.Leaf (record { items = e.items; next = bucket.next })) ∷ [] =
        sym given ∙ ap (λ n. relinked_puts last.oid last.class n bucket.next) e.node_is ∙ relinked_is last.oid last.class e.items e.next bucket.next changes in
        subst (λ bs. all_keep class leafs (sort_puts (bs ++ olds)) ≡ true → Done (sort_puts (bs ++ olds)) (mapping_of (suc h) s)) (sym are)
        (before_done last.oid last.class e.items e.next front' behind e.holds cut') kept

    left_done : (left : Option Start) (front behind : List Link) → Comes nodes left front → links_of (suc h) s ≡ front ++ link oid bucket.next ∷ behind → Leaves (link_before key objects bucket.next left)
    left_done None front behind comes cut befores q kept =
        let nil : befores ≡ [] = cc in
        let cut' : links_of (suc h) s ≡ link oid bucket.next ∷ behind = cut ∙ ap (λ ys. ys ++ link oid bucket.next ∷ behind) comes in
        subst (λ bs. all_keep class leafs (sort_puts (bs ++ olds)) ≡ true → Done (sort_puts (bs ++ olds)) (mapping_of (suc h) s)) (sym nil) (first_done behind cut') kept
    left_done (Some start) front behind comes cut befores q kept = last_done start front behind comes cut (last_below key objects start) (last_left key objects start front comes) befores q kept

    pub leaves_done : (befores : List Put) → link_before key objects bucket.next (sides_of key rungs).left ≡ Ok befores → all_keep class leafs (all_puts key rungs (leaf_put oid own bucket key) befores known) ≡ true
        → Done (all_puts key rungs (leaf_put oid own bucket key) befores known) (mapping_of (suc h) s)
    leaves_done befores q kept =
        let placed = place_in nodes kind key known base leaf (links_of (suc h) s) (suc h) s [] no_sides rungs [] [] fine tt (from_start (suc h) i.height) way refl tt (sym (append-nil (links_of (suc h) s))) in
        left_done (sides_of key rungs).left placed.front placed.behind placed.comes placed.cut befores q kept
