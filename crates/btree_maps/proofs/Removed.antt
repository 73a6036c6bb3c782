-- What a remove answers and makes in a sound tree.
use Rattle.std.proofs.Common.{◌≡◌, ℕ, Bool, true, false, List, [], ◌∷◌, Option, Some, None, Result, Ok, Err, refl, arith, sym, ◌∙◌, ap, subst, zero, suc, inl, inr, ◌⊎◌, append-nil}
use Rattle.std.specs.Prelude.{if◌then◌else◌}
use Rattle.std.specs.Option.{option_map}
use Rattle.pickle_graph.specs.Graph.{Graph}
use Rattle.btree_family.specs.declared.key.Key.{Key}
use Rattle.btree_family.specs.declared.bucket.Item.{Item}
use Rattle.btree_family.specs.Classes.{Class}
use Rattle.btree_family.specs.Buckets.{BucketContents, keys_of}
use Rattle.btree_family.specs.Rising.{Rises}
use Rattle.btree_shapes.specs.declared.error.TreeError.{TreeError}
use Rattle.btree_shapes.specs.declared.error.TreeError.TheVariants.{NotATree, NodeMissing, BadKey, Refused, Memory}
use Rattle.btree_shapes.specs.declared.node.Node.{Node}
use Rattle.btree_shapes.specs.declared.node.Node.TheVariants as node
use Rattle.btree_shapes.specs.declared.path.Step.{Step}
use Rattle.btree_shapes.specs.declared.space.Call.{Call}
use Rattle.btree_shapes.specs.declared.way.Found.{Found}
use Rattle.btree_shapes.specs.Nodes.{Held, Holds, items_in, class_held, objects_of}
use Rattle.btree_shapes.specs.Ways.{way_for, IsRefusal}
use Rattle.btree_shapes.specs.Shapes.{Shape, Limb, joined, AreOfKind, Parted, Bounded, mapping_of, nodes_in, links_of, IsSound, IsLone, IsTree}
use Rattle.btree_shapes.specs.Steps.{root_bad_key}
use Rattle.btree_putting.specs.declared.puts.Put.{Put}
use Rattle.btree_putting.specs.Items.{has_key}
use Rattle.btree_putting.specs.Puts.{all_keep, put_all, leaf_node, lone_node}
use Rattle.btree_removing.specs.Types.{Loss, Same, Rung}
use Rattle.btree_removing.specs.Items.{remove_item}
use Rattle.btree_removing.specs.Bottoms.{leaf_without, put_leaf, bottom_of, has_none}
use Rattle.btree_removing.specs.Rungs.{rungs_of}
use Rattle.btree_removing.specs.Sides.{no_sides, sides_of}
use Rattle.btree_removing.specs.Lasts.{link_before}
use Rattle.btree_removing.specs.Plans.{first_head, all_puts, puts_with, puts_leaving, puts_for, some_puts, plan_for, plan_found, plan_by, fits_tree, plan_under}
use Rattle.btree_removing.specs.Ends.{Breaks, IsRemoved, IsAbsent, Removes}
use Rattle.btree_maps.specs.Removals.{IsRemovedAt, RemovesIn}
use Rattle.btree_maps.proofs.RemoveItems.{within_remove, rises_remove, kind_remove, has_front, has_back, remove_none, value_gone, value_kept}
use Rattle.btree_maps.proofs.Mappings.{within-mapping, within-joined}
use Rattle.btree_maps.proofs.Wider.{rises_mapping}
use Rattle.btree_maps.proofs.Limbs.{ForKey, Fine}
use Rattle.btree_maps.proofs.Rungs.{PathIn}
use Rattle.btree_maps.proofs.Refusing.{Safe}
use Rattle.btree_maps.proofs.Founds.{one_found, err_ok, fits_true, lone_found, lone_or, shape_or, root_held}
use Rattle.btree_maps.proofs.Paths.{LeadsOr}
use Rattle.btree_maps.proofs.Setting.{Written, written, path_end}
use Rattle.btree_maps.proofs.Losing.{WayIn}
use Rattle.btree_maps.proofs.Befores.{Placed, from_start, place_in, leaf_of, way_of_path}
use Rattle.btree_maps.proofs.Endings.{before_safe, head_safe}
use Rattle.btree_maps.proofs.Removing.{leaf_put, Done, kept_done, leaves_done}

-- ---- parts of a plan

some_is : (r : Result (List Put) TreeError) (puts : List Put) → some_puts r ≡ Ok (Some puts) → r ≡ Ok puts
some_is (Ok ps) puts e = let same : ps ≡ puts = cc in ap Ok same
some_is (Err x) puts e = absurd cc

not_none : (r : Result (List Put) TreeError) → some_puts r ≡ Ok None → ⊥
not_none (Ok ps) e = cc
not_none (Err x) e = cc

err_is : (r : Result (List Put) TreeError) (x : TreeError) → some_puts r ≡ Err x → r ≡ Err x
err_is (Ok ps) x e = absurd cc
err_is (Err y) x e = let same : y ≡ x = cc in ap Err same

plan_some : (key : Key) (objects : ℕ → Held) (path : List Step) (o : Option Put) (puts : List Put) → plan_for key objects path o ≡ Ok (Some puts) → (p : Put) × (o ≡ Some p) × (puts_for key objects path p ≡ Ok puts)
plan_some key objects path None puts e = absurd cc
plan_some key objects path (Some p) puts e = (p, refl, some_is (puts_for key objects path p) puts e)

plan_none : (key : Key) (objects : ℕ → Held) (path : List Step) (o : Option Put) → plan_for key objects path o ≡ Ok None → o ≡ None
plan_none key objects path None e = refl
plan_none key objects path (Some p) e = absurd (not_none (puts_for key objects path p) e)

plan_err : (key : Key) (objects : ℕ → Held) (path : List Step) (o : Option Put) (x : TreeError) → plan_for key objects path o ≡ Err x → (p : Put) × (o ≡ Some p) × (puts_for key objects path p ≡ Err x)
plan_err key objects path None x e = absurd cc
plan_err key objects path (Some p) x e = (p, refl, err_is (puts_for key objects path p) x e)

way_parts : (key : Key) (objects : ℕ → Held) (way : Result Found TreeError) (y : Option (List Put)) → plan_by key objects way ≡ Ok y → (found : Found) × (way ≡ Ok found) × (plan_found key objects found ≡ Ok y)
way_parts key objects (Ok found) y e = (found, refl, e)
way_parts key objects (Err x) y e = absurd cc

leaf_bottom : (oid : ℕ) (class : Graph) (bucket : BucketContents) (key : Key) (p : Put) → bottom_of oid class (node.Leaf bucket) key ≡ Some p → (has_key bucket.items key ≡ true) × (p ≡ leaf_put oid class bucket key)
leaf_bottom oid class bucket key p e = by_test (has_key bucket.items key) e where
  by_test : (b : Bool) → option_map (put_leaf oid class) (if b then Some (node.Leaf (leaf_without bucket key)) else None) ≡ Some p → (b ≡ true) × (p ≡ leaf_put oid class bucket key)
  by_test true e = (refl, cc)
  by_test false e = absurd cc

lone_bottom : (oid : ℕ) (class : Graph) (bucket : BucketContents) (key : Key) (p : Put) → bottom_of oid class (node.Lone bucket) key ≡ Some p → (has_key bucket.items key ≡ true) × (p ≡ put_leaf oid class (node.Lone (leaf_without bucket key)))
lone_bottom oid class bucket key p e = by_test (has_key bucket.items key) e where
  by_test : (b : Bool) → option_map (put_leaf oid class) (if b then Some (node.Lone (leaf_without bucket key)) else None) ≡ Some p → (b ≡ true) × (p ≡ put_leaf oid class (node.Lone (leaf_without bucket key)))
  by_test true e = (refl, cc)
  by_test false e = absurd cc

leaf_none : (oid : ℕ) (class : Graph) (bucket : BucketContents) (key : Key) → bottom_of oid class (node.Leaf bucket) key ≡ None → has_key bucket.items key ≡ false
leaf_none oid class bucket key e = by_test (has_key bucket.items key) e where
  by_test : (b : Bool) → option_map (put_leaf oid class) (if b then Some (node.Leaf (leaf_without bucket key)) else None) ≡ None → b ≡ false
  by_test true e = absurd cc
  by_test false e = refl

lone_none : (oid : ℕ) (class : Graph) (bucket : BucketContents) (key : Key) → bottom_of oid class (node.Lone bucket) key ≡ None → has_key bucket.items key ≡ false
lone_none oid class bucket key e = by_test (has_key bucket.items key) e where
  by_test : (b : Bool) → option_map (put_leaf oid class) (if b then Some (node.Lone (leaf_without bucket key)) else None) ≡ None → b ≡ false
  by_test true e = absurd cc
  by_test false e = refl

none_is : (xs : List Item) → has_none xs ≡ true → xs ≡ []
none_is [] e = refl
none_is (x ∷ xs) e = absurd cc

-- the puts of a leaf that leaves
record WithParts (key : Key) (rungs : List Rung) (leaf : Put) (a : Result (List Put) TreeError) (b : Result (Option ℕ) TreeError) (puts : List Put) : Type 0 where
  befores : List Put
  known : Option ℕ
  a_is : a ≡ Ok befores
  b_is : b ≡ Ok known
  is : puts ≡ all_puts key rungs leaf befores known

with_parts : (key : Key) (rungs : List Rung) (leaf : Put) (a : Result (List Put) TreeError) (b : Result (Option ℕ) TreeError) (puts : List Put) → puts_with key rungs leaf a b ≡ Ok puts → WithParts key rungs leaf a b puts
with_parts key rungs leaf (Ok befores) (Ok known) puts e = record { befores = befores; known = known; a_is = refl; b_is = refl; is = (let same : puts ≡ all_puts key rungs leaf befores known = cc in same) }
with_parts key rungs leaf (Ok befores) (Err x) puts e = absurd cc
with_parts key rungs leaf (Err x) b puts e = absurd cc

with_err : (key : Key) (rungs : List Rung) (leaf : Put) (a : Result (List Put) TreeError) (b : Result (Option ℕ) TreeError) (x : TreeError) → puts_with key rungs leaf a b ≡ Err x → (a ≡ Err x) ⊎ (b ≡ Err x)
with_err key rungs leaf (Ok befores) (Ok known) x e = absurd cc
with_err key rungs leaf (Ok befores) (Err y) x e = let same : y ≡ x = cc in inr (ap Err same)
with_err key rungs leaf (Err y) b x e = let same : y ≡ x = cc in inl (ap Err same)

-- ---- whether the key was there

has_limbs : (objects : ℕ → Held) (key : Key) (oid : ℕ) (class : Graph) (bucket : BucketContents) (h : ℕ) (path : List Step) → ((low high : Option Key) (t : Shape h) → PathIn objects key h t path oid class (node.Leaf bucket) → Bounded h low high t → has_key (mapping_of h t) key ≡ has_key bucket.items key)
    → (low high : Option Key) (c : Shape h) (ls : List (Limb (Shape h))) → ForKey (λ t. PathIn objects key h t path oid class (node.Leaf bucket)) key c ls → Parted (Bounded h) low high c ls → has_key (joined (mapping_of h) c ls) key ≡ has_key bucket.items key
has_limbs objects key oid class bucket h path each low high c [] f b = each low high c f b
has_limbs objects key oid class bucket h path each low high c (l ∷ ls) (inl f) b =
    has_front l.key high (mapping_of h c) (joined (mapping_of h) l.child ls) key (within-joined (Bounded h) (mapping_of h) (within-mapping h) (Some l.key) high l.child ls b.3) f.0 ∙ each low (Some l.key) c f.1 b.2
has_limbs objects key oid class bucket h path each low high c (l ∷ ls) (inr f) b =
    has_back low l.key (mapping_of h c) (joined (mapping_of h) l.child ls) key (within-mapping h low (Some l.key) c b.2) f.0 ∙ has_limbs objects key oid class bucket h path each (Some l.key) high l.child ls f.1 b.3

has_in : (objects : ℕ → Held) (key : Key) (oid : ℕ) (class : Graph) (bucket : BucketContents) (h : ℕ) (low high : Option Key) (s : Shape h) (path : List Step) → PathIn objects key h s path oid class (node.Leaf bucket) → Bounded h low high s → has_key (mapping_of h s) key ≡ has_key bucket.items key
has_in objects key oid class bucket zero low high s [] p b = ap (λ n. has_key (items_in n) key) (sym p.1)
has_in objects key oid class bucket zero low high s (x ∷ xs) p b = absurd p
has_in objects key oid class bucket (suc h) low high s [] p b = absurd p
has_in objects key oid class bucket (suc h) low high s (x ∷ xs) p b = has_limbs objects key oid class bucket h xs (λ low' high' t q d. has_in objects key oid class bucket h low' high' t xs q d) low high s.head s.tail p.3 b

-- ---- trees of one leaf

alone_removed : (objects' : ℕ → Held) (kind root : ℕ) (items : List Item) (next : Option ℕ) (key : Key) → Bounded 0 None None (record { oid = root; items = items; next = next }) → AreOfKind kind items → next ≡ None → nodes_in objects' root ≡ Some (leaf_node (remove_item items key) next) → IsTree objects' root kind (remove_item items key)
alone_removed objects' kind root items next key b k n e =
    let s : Shape 0 = record { oid = root; items = remove_item items key; next = next } in
    let sound : IsSound (nodes_in objects') root kind 0 s = record {
      root_is = refl;
      height = omega arith;
      stands = e;
      bounded = (rises_remove None items key b.0, within_remove None None items key b.1);
      of_kind = kind_remove kind items key k;
      names = tt;
      linked = n;
    } in
    inr (0, s, sound, refl)

lone_removed : (objects' : ℕ → Held) (kind root : ℕ) (items : List Item) (key : Key) → Rises None (keys_of items) → AreOfKind kind items → nodes_in objects' root ≡ Some (lone_node (remove_item items key) None) → IsTree objects' root kind (remove_item items key)
lone_removed objects' kind root items key r k e = inl (record { stands = e; rises = rises_remove None items key r; of_kind = kind_remove kind items key k })

-- a leaf without others above it is put alone
abbrev alone_or : Bool → Put → Result (List Put) TreeError
alone_or b put = if b then Ok (put ∷ []) else Ok (put ∷ [])

alone_is : (b : Bool) (put : Put) (puts : List Put) → alone_or b put ≡ Ok puts → puts ≡ put ∷ []
alone_is true put puts e = cc
alone_is false put puts e = cc

alone_not_err : (b : Bool) (put : Put) (x : TreeError) → alone_or b put ≡ Err x → ⊥
alone_not_err true put x e = cc
alone_not_err false put x e = cc

leaf_alone : (key : Key) (objects : ℕ → Held) (oid : ℕ) (class : Graph) (bucket : BucketContents) (puts : List Put) → puts_for key objects [] (put_leaf oid class (node.Leaf bucket)) ≡ Ok puts → puts ≡ put_leaf oid class (node.Leaf bucket) ∷ []
leaf_alone key objects oid class bucket puts e = alone_is (has_none bucket.items) (put_leaf oid class (node.Leaf bucket)) puts e

lone_alone : (key : Key) (objects : ℕ → Held) (oid : ℕ) (class : Graph) (bucket : BucketContents) (puts : List Put) → puts_for key objects [] (put_leaf oid class (node.Lone bucket)) ≡ Ok puts → puts ≡ put_leaf oid class (node.Lone bucket) ∷ []
lone_alone key objects oid class bucket puts e = alone_is (has_none bucket.items) (put_leaf oid class (node.Lone bucket)) puts e

leaf_not_err : (key : Key) (objects : ℕ → Held) (oid : ℕ) (class : Graph) (bucket : BucketContents) (x : TreeError) → puts_for key objects [] (put_leaf oid class (node.Leaf bucket)) ≡ Err x → ⊥
leaf_not_err key objects oid class bucket x e = alone_not_err (has_none bucket.items) (put_leaf oid class (node.Leaf bucket)) x e

lone_not_err : (key : Key) (objects : ℕ → Held) (oid : ℕ) (class : Graph) (bucket : BucketContents) (x : TreeError) → puts_for key objects [] (put_leaf oid class (node.Lone bucket)) ≡ Err x → ⊥
lone_not_err key objects oid class bucket x e = alone_not_err (has_none bucket.items) (put_leaf oid class (node.Lone bucket)) x e

-- ---- what is found

-- the leaf where the way ends
record LeafFound (objects : ℕ → Held) (key : Key) (h : ℕ) (s : Shape h) (found : Found) : Type 0 where
  bucket : BucketContents
  is : found.node ≡ node.Leaf bucket
  path : PathIn objects key h s found.path found.oid found.class (node.Leaf bucket)
  holds : objects found.oid ≡ Holds found.class (node.Leaf bucket)

leaf_at : (objects : ℕ → Held) (key : Key) (h : ℕ) (s : Shape h) (way : Result Found TreeError) (found : Found) → way ≡ Ok found → LeadsOr objects key h s way → LeafFound objects key h s found
leaf_at objects key h s way found w (inl q) = absurd (err_ok way BadKey found q w)
leaf_at objects key h s way found w (inr l) =
    let same : l.found ≡ found = one_found way l.found found l.is w in
    let p : PathIn objects key h s found.path found.oid found.class found.node = subst (λ (f : Found). PathIn objects key h s f.path f.oid f.class f.node) same l.path in
    let end = path_end objects key h s found.path found.oid found.class found.node p in
    record { bucket = end.0; is = end.1; path = subst (λ n. PathIn objects key h s found.path found.oid found.class n) end.1 p; holds = end.2 ∙ ap (Holds found.class) end.1 }

leaf_found : (objects : ℕ → Held) (root kind h : ℕ) (s : Shape h) (key : Key) (found : Found) → way_for true key objects root ≡ Ok found → IsSound (nodes_in objects) root kind h s → LeafFound objects key h s found
leaf_found objects root kind h s key found w i = leaf_at objects key h s (way_for true key objects root) found w (shape_or objects root kind h s key i)

lone_is : (objects : ℕ → Held) (root kind : ℕ) (mapping : List Item) (key : Key) (found : Found) → way_for true key objects root ≡ Ok found → IsLone (nodes_in objects) root kind mapping → (class : Graph) × (objects root ≡ Holds class (node.Lone (record { items = mapping; next = None }))) × (found ≡ lone_found root class mapping)
lone_is objects root kind mapping key found w i =
    let l = lone_or objects root kind mapping key i in (
      l.0,
      l.1,
      elim l.2 [
        | inl q ↦ absurd (err_ok (way_for true key objects root) BadKey found q w)
        | inr r ↦ one_found (way_for true key objects root) found (lone_found root l.0 mapping) w r
      ],
    )

root_path : (objects : ℕ → Held) (key : Key) (s : Shape 0) (path : List Step) (oid : ℕ) (class : Graph) (n : Node) → PathIn objects key 0 s path oid class n → (path ≡ []) × (oid ≡ s.oid) × (n ≡ node.Leaf (record { items = s.items; next = s.next }))
root_path objects key s [] oid class n p = (refl, p.0, p.1)
root_path objects key s (x ∷ xs) oid class n p = absurd p

module _ (class leafs : Class) (before : ℕ → Option (List ℕ)) (root kind : ℕ) (key : Key) (c : class_held (before root) ≡ Some class) where
  abbrev objects : ℕ → Held
  objects = objects_of before root

  abbrev D : List Put → List Item → Type 0
  D puts mapping = Done class leafs before root kind key c puts mapping

  -- one object alone is put
  alone_written : (put : Put) (n : Node) → objects put.oid ≡ Holds put.class n → all_keep class leafs (put ∷ []) ≡ true → Written before (put_all class leafs (put ∷ []) before) root [] (put ∷ [])
  alone_written put n h kept = written class leafs before root [] (put ∷ []) c tt (refl, tt) (λ q x. refl) refl ((n, h), tt) kept

  inner_done : (h : ℕ) (s : Shape (suc h)) (path : List Step) (oid : ℕ) (own : Graph) (bucket : BucketContents) (puts : List Put) → IsSound (nodes_in objects) root kind (suc h) s → PathIn objects key (suc h) s path oid own (node.Leaf bucket) → puts_for key objects path (leaf_put oid own bucket key) ≡ Ok puts → all_keep class leafs puts ≡ true → D puts (mapping_of (suc h) s)
  inner_done h s path oid own bucket puts i p e kept = by_test (has_none (remove_item bucket.items key)) refl e where
    by_test : (b : Bool) → has_none (remove_item bucket.items key) ≡ b → (if b then puts_leaving key objects (rungs_of true path) (leaf_put oid own bucket key) (sides_of key (rungs_of true path)) else Ok (leaf_put oid own bucket key ∷ [])) ≡ Ok puts → D puts (mapping_of (suc h) s)
    by_test true none e =
        let w = with_parts key (rungs_of true path) (leaf_put oid own bucket key) (link_before key objects bucket.next (sides_of key (rungs_of true path)).left) (first_head key objects (sides_of key (rungs_of true path)).head) puts e in
        subst (λ ps. D ps (mapping_of (suc h) s)) (sym w.is) (leaves_done class leafs before root kind key c h s path oid own bucket i p (none_is (remove_item bucket.items key) none) w.known w.b_is w.befores w.a_is (ap (all_keep class leafs) (sym w.is) ∙ kept))
    by_test false none e =
        let same : puts ≡ leaf_put oid own bucket key ∷ [] = cc in
        subst (λ ps. D ps (mapping_of (suc h) s)) (sym same) (kept_done class leafs before root kind key c h s path oid own bucket i p (ap (all_keep class leafs) (sym same) ∙ kept))

  -- the tree without the key, which was there
  tree_done : (found : Found) (puts : List Put) (mapping : List Item) → way_for true key objects root ≡ Ok found → plan_found key objects found ≡ Ok (Some puts) → all_keep class leafs puts ≡ true → IsTree objects root kind mapping → D puts mapping × (has_key mapping key ≡ true)
  tree_done found puts mapping w e kept (inl i) =
      let l = lone_is objects root kind mapping key found w i in
      let same = l.2 in
      let bucket : BucketContents = record { items = mapping; next = None } in
      let put : Put = put_leaf root l.0 (node.Lone (leaf_without bucket key)) in
      let s = plan_some key objects [] (bottom_of root l.0 (node.Lone bucket) key) puts (sym (ap (plan_found key objects) same) ∙ e) in
      let b = lone_bottom root l.0 bucket key s.0 s.1 in
      let are : puts ≡ put ∷ [] = lone_alone key objects root l.0 (leaf_without bucket key) puts (ap (puts_for key objects []) (sym b.1) ∙ s.2) in
      let kept' : all_keep class leafs (put ∷ []) ≡ true = ap (all_keep class leafs) (sym are) ∙ kept in
      let z = alone_written put (node.Lone bucket) l.1 kept' in
      (subst (λ ps. D ps mapping) (sym are) (lone_removed (objects_of (put_all class leafs (put ∷ []) before) root) kind root mapping key i.rises i.of_kind z.olds_put.0, z.class), b.0)
  tree_done found puts mapping w e kept (inr (zero, s, i, m)) =
      let l = leaf_found objects root kind 0 s key found w i in
      let r = root_path objects key s found.path found.oid found.class (node.Leaf l.bucket) l.path in
      let put : Put = leaf_put found.oid found.class l.bucket key in
      let at : plan_for key objects [] (bottom_of found.oid found.class (node.Leaf l.bucket) key) ≡ Ok (Some puts) = ap (λ n. plan_for key objects [] (bottom_of found.oid found.class n key)) (sym l.is) ∙ ap (λ z. plan_for key objects z (bottom_of found.oid found.class found.node key)) (sym r.0) ∙ e in
      let p = plan_some key objects [] (bottom_of found.oid found.class (node.Leaf l.bucket) key) puts at in
      let b = leaf_bottom found.oid found.class l.bucket key p.0 p.1 in
      let are : puts ≡ put ∷ [] = leaf_alone key objects found.oid found.class (leaf_without l.bucket key) puts (ap (puts_for key objects []) (sym b.1) ∙ p.2) in
      let kept' : all_keep class leafs (put ∷ []) ≡ true = ap (all_keep class leafs) (sym are) ∙ kept in
      let z = alone_written put (node.Leaf l.bucket) l.holds kept' in
      let bucket : l.bucket ≡ record { items = s.items; next = s.next } = cc (r.2) in
      let at_root : found.oid ≡ root = r.1 ∙ i.root_is in
      let after = objects_of (put_all class leafs (put ∷ []) before) root in
      let st : nodes_in after root ≡ Some (leaf_node (remove_item s.items key) s.next) = ap (nodes_in after) (sym at_root) ∙ z.olds_put.0 ∙ ap (λ (y : BucketContents). Some (leaf_node (remove_item y.items key) y.next)) bucket in
      let d : D (put ∷ []) s.items = (alone_removed after kind root s.items s.next key i.bounded i.of_kind i.linked st, z.class) in
      let has : has_key s.items key ≡ true = ap (λ (y : BucketContents). has_key y.items key) (sym bucket) ∙ b.0 in
      (subst (D puts) (sym m) (subst (λ ps. D ps s.items) (sym are) d), ap (λ xs. has_key xs key) m ∙ has)
  tree_done found puts mapping w e kept (inr (suc h, s, i, m)) =
      let l = leaf_found objects root kind (suc h) s key found w i in
      let at : plan_for key objects found.path (bottom_of found.oid found.class (node.Leaf l.bucket) key) ≡ Ok (Some puts) = ap (λ n. plan_for key objects found.path (bottom_of found.oid found.class n key)) (sym l.is) ∙ e in
      let p = plan_some key objects found.path (bottom_of found.oid found.class (node.Leaf l.bucket) key) puts at in
      let b = leaf_bottom found.oid found.class l.bucket key p.0 p.1 in
      let d = inner_done h s found.path found.oid found.class l.bucket puts i l.path (ap (puts_for key objects found.path) (sym b.1) ∙ p.2) kept in
      let has = has_in objects key found.oid found.class l.bucket (suc h) None None s found.path l.path i.bounded in
      (subst (D puts) (sym m) d, ap (λ xs. has_key xs key) m ∙ has ∙ b.0)

-- ---- an absent key, and what is refused

bad_safe : (r : Result (Option (List Put)) TreeError) (x : TreeError) → r ≡ Err BadKey → r ≡ Err x → Safe x
bad_safe (Ok t) x p q = absurd cc
bad_safe (Err y) x p q = let a : y ≡ BadKey = cc in let b : y ≡ x = cc in subst Safe (sym a ∙ b) tt

module _ (objects : ℕ → Held) (root kind : ℕ) (key : Key) where
  absent_in : (found : Found) (mapping : List Item) → way_for true key objects root ≡ Ok found → plan_found key objects found ≡ Ok None → IsTree objects root kind mapping → has_key mapping key ≡ false
  absent_in found mapping w e (inl i) =
      let l = lone_is objects root kind mapping key found w i in
      let same = l.2 in
      let bucket : BucketContents = record { items = mapping; next = None } in
      lone_none root l.0 bucket key (plan_none key objects [] (bottom_of root l.0 (node.Lone bucket) key) (sym (ap (plan_found key objects) same) ∙ e))
  absent_in found mapping w e (inr (h, s, i, m)) =
      let l = leaf_found objects root kind h s key found w i in
      let at : plan_for key objects found.path (bottom_of found.oid found.class (node.Leaf l.bucket) key) ≡ Ok None = ap (λ n. plan_for key objects found.path (bottom_of found.oid found.class n key)) (sym l.is) ∙ e in
      let n = leaf_none found.oid found.class l.bucket key (plan_none key objects found.path (bottom_of found.oid found.class (node.Leaf l.bucket) key) at) in
      ap (λ xs. has_key xs key) m ∙ has_in objects key found.oid found.class l.bucket h None None s found.path l.path i.bounded ∙ n

  inner_safe : (h : ℕ) (s : Shape (suc h)) (path : List Step) (oid : ℕ) (own : Graph) (bucket : BucketContents) (x : TreeError) → IsSound (nodes_in objects) root kind (suc h) s → PathIn objects key (suc h) s path oid own (node.Leaf bucket) → puts_for key objects path (leaf_put oid own bucket key) ≡ Err x → Safe x
  inner_safe h s path oid own bucket x i p e = by_test (has_none (remove_item bucket.items key)) e where
    base : Loss
    base = record { puts = []; rest = Same }

    fine : Fine (nodes_in objects) kind (suc h) s
    fine = (i.stands, i.names, i.of_kind)

    way : WayIn key None base (leaf_of oid bucket) (suc h) s (rungs_of true path)
    way = way_of_path objects kind key None base oid own (node.Leaf bucket) bucket refl (suc h) s [] no_sides path p fine (λ g. absurd cc)

    placed : Placed (nodes_in objects) (leaf_of oid bucket) (sides_of key (rungs_of true path)) (links_of (suc h) s)
    placed = place_in (nodes_in objects) kind key None base (leaf_of oid bucket) (links_of (suc h) s) (suc h) s [] no_sides (rungs_of true path) [] [] fine tt (from_start (suc h) i.height) way refl tt (sym (append-nil (links_of (suc h) s)))

    by_test : (b : Bool) → (if b then puts_leaving key objects (rungs_of true path) (leaf_put oid own bucket key) (sides_of key (rungs_of true path)) else Ok (leaf_put oid own bucket key ∷ [])) ≡ Err x → Safe x
    by_test true e = elim (with_err key (rungs_of true path) (leaf_put oid own bucket key) (link_before key objects bucket.next (sides_of key (rungs_of true path)).left) (first_head key objects (sides_of key (rungs_of true path)).head) x e) [
      | inl a ↦ before_safe key objects bucket.next (sides_of key (rungs_of true path)).left placed.front x placed.comes a
      | inr b ↦ head_safe key objects (sides_of key (rungs_of true path)).head x placed.head b
    ]
    by_test false e = absurd cc

  lone_safe : (x : TreeError) (mapping : List Item) (class : Graph) → plan_found key objects (lone_found root class mapping) ≡ Err x → Safe x
  lone_safe x mapping class e =
      let bucket : BucketContents = record { items = mapping; next = None } in
      let p = plan_err key objects [] (bottom_of root class (node.Lone bucket) key) x e in
      let b = lone_bottom root class bucket key p.0 p.1 in
      absurd (lone_not_err key objects root class (leaf_without bucket key) x (ap (puts_for key objects []) (sym b.1) ∙ p.2))

  shape_safe : (h : ℕ) (s : Shape h) (x : TreeError) (found : Found) → IsSound (nodes_in objects) root kind h s → way_for true key objects root ≡ Ok found → plan_found key objects found ≡ Err x → Safe x
  shape_safe zero s x found i w e =
      let l = leaf_found objects root kind 0 s key found w i in
      let r = root_path objects key s found.path found.oid found.class (node.Leaf l.bucket) l.path in
      let at : plan_for key objects [] (bottom_of found.oid found.class (node.Leaf l.bucket) key) ≡ Err x =
      ap (λ n. plan_for key objects [] (bottom_of found.oid found.class n key)) (sym l.is) ∙ ap (λ z. plan_for key objects z (bottom_of found.oid found.class found.node key)) (sym r.0) ∙ e in
      let p = plan_err key objects [] (bottom_of found.oid found.class (node.Leaf l.bucket) key) x at in
      let b = leaf_bottom found.oid found.class l.bucket key p.0 p.1 in
      absurd (leaf_not_err key objects found.oid found.class (leaf_without l.bucket key) x (ap (puts_for key objects []) (sym b.1) ∙ p.2))
  shape_safe (suc h) s x found i w e =
      let l = leaf_found objects root kind (suc h) s key found w i in
      let at : plan_for key objects found.path (bottom_of found.oid found.class (node.Leaf l.bucket) key) ≡ Err x = ap (λ n. plan_for key objects found.path (bottom_of found.oid found.class n key)) (sym l.is) ∙ e in
      let p = plan_err key objects found.path (bottom_of found.oid found.class (node.Leaf l.bucket) key) x at in
      let b = leaf_bottom found.oid found.class l.bucket key p.0 p.1 in
      inner_safe h s found.path found.oid found.class l.bucket x i l.path (ap (puts_for key objects found.path) (sym b.1) ∙ p.2)

  found_safe : (x : TreeError) (mapping : List Item) → IsTree objects root kind mapping → plan_by key objects (way_for true key objects root) ≡ Err x → Safe x
  found_safe x mapping (inl i) e =
      let l = lone_or objects root kind mapping key i in
      elim l.2 [
        | inl q ↦ bad_safe (plan_by key objects (way_for true key objects root)) x (ap (plan_by key objects) q) e
        | inr r ↦ lone_safe x mapping l.0 (sym (ap (plan_by key objects) r) ∙ e)
      ]
  found_safe x mapping (inr (h, s, i, m)) e = elim (shape_or objects root kind h s key i) [
    | inl q ↦ bad_safe (plan_by key objects (way_for true key objects root)) x (ap (plan_by key objects) q) e
    | inr w ↦ shape_safe h s x w.found i w.is (sym (ap (plan_by key objects) w.is) ∙ e)
  ]

-- ---- the whole

plan_safe : (before : ℕ → Option (List ℕ)) (root kind : ℕ) (mapping : List Item) (key : Key) (x : TreeError) → IsTree (objects_of before root) root kind mapping → plan_under before root key ≡ Err x → Safe x
plan_safe before root kind mapping key x t e = by_fits (fits_tree (class_held (before root)) key) e where
  by_fits : (fits : Bool) → plan_by key (objects_of before root) (way_for fits key (objects_of before root) root) ≡ Err x → Safe x
  by_fits true e = found_safe (objects_of before root) root kind key x mapping t e
  by_fits false e =
      let held = root_held (objects_of before root) root kind mapping t in
      let bad = root_bad_key false key (objects_of before root) root held.0 held.1 held.2 refl in
      bad_safe (plan_by key (objects_of before root) (way_for false key (objects_of before root) root)) x (ap (plan_by key (objects_of before root)) bad) e

-- the way that was found is one for a key that fits
fitting : (before : ℕ → Option (List ℕ)) (root kind : ℕ) (mapping : List Item) (key : Key) (y : Option (List Put)) → IsTree (objects_of before root) root kind mapping → plan_under before root key ≡ Ok y → (found : Found) × (way_for true key (objects_of before root) root ≡ Ok found) × (plan_found key (objects_of before root) found ≡ Ok y)
fitting before root kind mapping key y t e =
    let objects = objects_of before root in
    let fits = fits_tree (class_held (before root)) key in
    let p = way_parts key objects (way_for fits key objects root) y e in
    let held = root_held objects root kind mapping t in
    let f = fits_true fits key objects root held.0 held.1 p.0 held.2 p.1 in
    (p.0, ap (λ b. way_for b key objects root) (sym f) ∙ p.1, p.2)

tree_rises : (objects : ℕ → Held) (root kind : ℕ) (mapping : List Item) → IsTree objects root kind mapping → Rises None (keys_of mapping)
tree_rises objects root kind mapping (inl i) = i.rises
tree_rises objects root kind mapping (inr (h, s, i, m)) = subst (λ xs. Rises None (keys_of xs)) (sym m) (rises_mapping h None None s i.bounded)

removed_done : (told : Type 0) (before after : ℕ → Option (List ℕ)) (calls calls' : List Call) (root kind : ℕ) (mapping : List Item) (key : Key) → IsTree (objects_of before root) root kind mapping → IsRemoved told before after calls calls' root key → IsRemovedAt before after root kind mapping key true
removed_done told before after calls calls' root kind mapping key t x =
    let f = fitting before root kind mapping key (Some x.puts) t x.plan.plan_is in
    let d = tree_done x.class x.leaf before root kind key x.plan.class_is f.0 x.puts mapping f.1 f.2 x.stored.kept t in
    let d' : IsTree (objects_of after root) root kind (remove_item mapping key) × (class_held (after root) ≡ class_held (before root)) =
    subst (λ (g : ℕ → Option (List ℕ)). IsTree (objects_of g root) root kind (remove_item mapping key) × (class_held (g root) ≡ class_held (before root))) (sym x.stored.contents) d.0 in
    record {
      tree = d'.0;
      class = d'.1;
      answer = sym d.1;
      absent = λ e. absurd cc;
      here = value_gone None mapping key (tree_rises (objects_of before root) root kind mapping t);
      elsewhere = λ other n. value_kept mapping key other n;
    }

absent_done : (told : Type 0) (before after : ℕ → Option (List ℕ)) (calls calls' : List Call) (root kind : ℕ) (mapping : List Item) (key : Key) → IsTree (objects_of before root) root kind mapping → IsAbsent told before after calls calls' root key → IsRemovedAt before after root kind mapping key false
absent_done told before after calls calls' root kind mapping key t x =
    let f = fitting before root kind mapping key None t x.none in
    let a = absent_in (objects_of before root) root kind key f.0 mapping f.1 f.2 t in
    let same : remove_item mapping key ≡ mapping = remove_none mapping key a in
    let t' : IsTree (objects_of after root) root kind (remove_item mapping key) =
    subst (λ (g : ℕ → Option (List ℕ)). IsTree (objects_of g root) root kind (remove_item mapping key)) (sym x.contents) (subst (IsTree (objects_of before root) root kind) (sym same) t) in
    record {
      tree = t';
      class = ap (λ (g : ℕ → Option (List ℕ)). class_held (g root)) x.contents;
      answer = sym a;
      absent = λ e. x.contents;
      here = value_gone None mapping key (tree_rises (objects_of before root) root kind mapping t);
      elsewhere = λ other n. value_kept mapping key other n;
    }

refused : (before after : ℕ → Option (List ℕ)) (root kind : ℕ) (mapping : List Item) (key : Key) (e : TreeError) → IsTree (objects_of before root) root kind mapping → IsRefusal e (plan_under before root key) → after ≡ before → RemovesIn before after root kind mapping key (Err e)
refused before after root kind mapping key (NotATree oid) t r s = plan_safe before root kind mapping key (NotATree oid) t r
refused before after root kind mapping key (NodeMissing oid) t r s = plan_safe before root kind mapping key (NodeMissing oid) t r
refused before after root kind mapping key BadKey t r s = s
refused before after root kind mapping key (Refused refusal) t r s = tt
refused before after root kind mapping key Memory t r s = tt

unwritten : (told : Type 0) (class leaf : Class) (puts : List Put) (before after : ℕ → Option (List ℕ)) (calls calls' : List Call) (root kind : ℕ) (mapping : List Item) (key : Key) (e : TreeError) → Breaks told class leaf puts before after calls calls' e → RemovesIn before after root kind mapping key (Err e)
unwritten told class leaf puts before after calls calls' root kind mapping key (NotATree oid) w = w
unwritten told class leaf puts before after calls calls' root kind mapping key (NodeMissing oid) w = w
unwritten told class leaf puts before after calls calls' root kind mapping key BadKey w = w.contents
unwritten told class leaf puts before after calls calls' root kind mapping key (Refused refusal) w = tt
unwritten told class leaf puts before after calls calls' root kind mapping key Memory w = tt

-- what a remove answers and makes
pub removes_in : (told : Type 0) (before after : ℕ → Option (List ℕ)) (calls calls' : List Call) (root : ℕ) (key : Key) (result : Result Bool TreeError) → Removes told before after calls calls' root key result → (kind : ℕ) (mapping : List Item) → IsTree (objects_of before root) root kind mapping → RemovesIn before after root kind mapping key result
removes_in told before after calls calls' root key (Ok true) x kind mapping t = removed_done told before after calls calls' root kind mapping key t x
removes_in told before after calls calls' root key (Ok false) x kind mapping t = absent_done told before after calls calls' root kind mapping key t x
removes_in told before after calls calls' root key (Err e) (inl x) kind mapping t = refused before after root kind mapping key e t x.refusal x.contents
removes_in told before after calls calls' root key (Err e) (inr x) kind mapping t = unwritten told x.class x.leaf x.puts before after x.middle calls' root kind mapping key e x.breaks
