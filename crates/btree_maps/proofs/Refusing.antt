-- In a sound tree a set misses no object, and a value that is there changes nothing.
use Rattle.std.proofs.Common.{◌≡◌, ℕ, ◌-◌, ◌/◌, Bool, true, false, List, [], ◌∷◌, ◌++◌, Option, Some, None, Result, Ok, Err, refl, arith, sym, ◌∙◌, ap, subst, zero, suc, inl, inr}
use Rattle.std.specs.Prelude.{map, length, slice_get, nat_lt, ◌==◌, ◌&&◌, if◌then◌else◌}
use Rattle.pickle_graph.specs.Graph.{Graph}
use Rattle.btree_family.specs.declared.key.Key.{Key}
use Rattle.bucket_state.specs.declared.tree.Inner.{Inner}
use Rattle.btree_shapes.specs.declared.error.TreeError.{TreeError}
use Rattle.btree_shapes.specs.declared.error.TreeError.TheVariants.{NotATree, NodeMissing, BadKey, Refused, Memory}
use Rattle.btree_shapes.specs.declared.node.Node.{Node}
use Rattle.btree_shapes.specs.declared.node.Node.TheVariants as node
use Rattle.btree_shapes.specs.declared.path.Step.{Step}
use Rattle.btree_shapes.specs.Nodes.{Held, Holds, node_suits, items_in, place_for}
use Rattle.btree_shapes.specs.Shapes.{Shape, Limb, oid_of, branch_of, EachChild, joined, Parted, Bounded, mapping_of, nodes_in, Stands}
use Rattle.btree_setting.specs.Types.{Rung, Seam, New, Old, Beside}
use Rattle.btree_putting.specs.Items.{has_value}
use Rattle.btree_setting.specs.Inserting.{set_item}
use Rattle.btree_setting.specs.Rungs.{child_in, seam_child, seam_of, seam_for, seam_if, grows, first_below, put_first, rung_of, rungs_of, settled_by, settled, then_rungs, settle}
use Rattle.btree_putting.specs.Firsts.{is_none, first_of, first_held}
use Rattle.btree_maps.proofs.Mappings.{within-mapping, within-joined}
use Rattle.btree_maps.proofs.Reaching.{Higher, higher_less, higher_last, not_twice, held_as}
use Rattle.btree_maps.proofs.SetItems.{set_kept, set_front, set_back}
use Rattle.btree_maps.proofs.Limbs.{ForKey}
use Rattle.btree_maps.proofs.Rungs.{PathIn, inner_of}

-- ---- a value that is there

module _ (objects : ℕ → Held) (key : Key) (value : Option (List ℕ)) (oid : ℕ) (class : Graph) (n : Node) (has : has_value (items_in n) key value ≡ true) where
  kept_limbs : (h : ℕ) (path : List Step) → ((low high : Option Key) (t : Shape h) → PathIn objects key h t path oid class n → Bounded h low high t → set_item (mapping_of h t) key value ≡ mapping_of h t)
      → (low high : Option Key) (c : Shape h) (ls : List (Limb (Shape h))) → ForKey (λ t. PathIn objects key h t path oid class n) key c ls → Parted (Bounded h) low high c ls → set_item (joined (mapping_of h) c ls) key value ≡ joined (mapping_of h) c ls
  kept_limbs h path each low high c [] f b = each low high c f b
  kept_limbs h path each low high c (l ∷ ls) (inl f) b =
      let rest = joined (mapping_of h) l.child ls in
      set_front l.key high (mapping_of h c) rest key value (within-joined (Bounded h) (mapping_of h) (within-mapping h) (Some l.key) high l.child ls b.3) f.0
      ∙ ap (λ xs. xs ++ rest) (each low (Some l.key) c f.1 b.2)
  kept_limbs h path each low high c (l ∷ ls) (inr f) b =
      let rest = joined (mapping_of h) l.child ls in
      set_back low l.key (mapping_of h c) rest key value (within-mapping h low (Some l.key) c b.2) f.0
      ∙ ap (λ xs. mapping_of h c ++ xs) (kept_limbs h path each (Some l.key) high l.child ls f.1 b.3)

  pub kept_in : (h : ℕ) (low high : Option Key) (s : Shape h) (path : List Step) → PathIn objects key h s path oid class n → Bounded h low high s → set_item (mapping_of h s) key value ≡ mapping_of h s
  kept_in zero low high s [] p b = set_kept None s.items key value b.0 (ap (λ m. has_value (items_in m) key value) (sym p.1) ∙ has)
  kept_in zero low high s (x ∷ xs) p b = absurd p
  kept_in (suc h) low high s [] p b = absurd p
  kept_in (suc h) low high s (x ∷ xs) p b = kept_limbs h xs (λ low' high' t q d. kept_in h low' high' t xs q d) low high s.head s.tail p.3 b

-- ---- no object is missed

abbrev pub Safe : TreeError → Type 0
Safe (NotATree oid) = ⊥
Safe (NodeMissing oid) = ⊥
Safe BadKey = Unit {0}
Safe (Refused refusal) = Unit {0}
Safe Memory = Unit {0}

beside_is : (leaves on_way : Bool) (first : ℕ) (o : Option ℕ) (child : ℕ) → seam_of leaves on_way first o ≡ Beside child → o ≡ Some child
beside_is leaves on_way first None child e = absurd cc
beside_is true on_way first (Some c) child e = absurd cc
beside_is false true first (Some c) child e = absurd cc
beside_is false false first (Some c) child e = let same : c ≡ child = cc in ap Some same

when_beside : (b : Bool) (seam : Seam) (child : ℕ) → seam_if b seam ≡ Beside child → seam ≡ Beside child
when_beside true seam child e = e
when_beside false seam child e = absurd cc

some_child : (b : Bool) (o : Option ℕ) (child : ℕ) → (if b then None else o) ≡ Some child → o ≡ Some child
some_child true o child e = absurd cc
some_child false o child e = e

branch_child : (nodes : ℕ → Option Node) (h : ℕ) (ls : List (Limb (Shape h))) (i child : ℕ) → EachChild (Stands nodes h) ls → child_in (slice_get (map (branch_of h) ls) i) ≡ Some child → (t : Shape h) × (oid_of h t ≡ child) × Stands nodes h t
branch_child nodes h [] i child st e = absurd cc
branch_child nodes h (l ∷ ls) zero child st e = (l.child, cc, st.0)
branch_child nodes h (l ∷ ls) (suc i) child st e = branch_child nodes h ls i child st.1 e

-- a child that is to be read besides the way is one of the shape
beside_child : (nodes : ℕ → Option Node) (h : ℕ) (ls : List (Limb (Shape h))) (key : Key) (b leaves : Bool) (first child : ℕ) → EachChild (Stands nodes h) ls → seam_if b (seam_for (map (branch_of h) ls) key leaves first) ≡ Beside child → (t : Shape h) × (oid_of h t ≡ child) × Stands nodes h t
beside_child nodes h ls key b leaves first child st e =
    let tail = map (branch_of h) ls in
    let half = length tail / 2 in
    let place = place_for tail key in
    let w = when_beside b (seam_for tail key leaves first) child e in
    let o = beside_is leaves (nat_lt half place && (place - half == 1)) first (seam_child tail place) child w in
    let c = some_child (half == place) (child_in (slice_get tail (if nat_lt half place then half else half - 1))) child o in
    branch_child nodes h ls (if nat_lt half place then half else half - 1) child st c

first_safe : (fits : Bool) (key : Key) (child : ℕ) (rung : Rung) (class : Graph) (n : Node) (held : Held) (e : TreeError) → held ≡ Holds class n → put_first rung (first_held fits key child held) ≡ Err e → Safe e
first_safe fits key child rung class n held e h r = by_test (fits && node_suits key n) (sym (ap (λ z. put_first rung (first_held fits key child z)) h) ∙ r) where
  by_test : (b : Bool) → put_first rung (if b then Ok (first_of child n) else Err BadKey) ≡ Err e → Safe e
  by_test true r = absurd cc
  by_test false r = let same : BadKey ≡ e = cc in subst Safe same tt

module _ (objects : ℕ → Held) (fits : Bool) (key : Key) (max : ℕ) (grown : Bool) (leaf oid : ℕ) (class : Graph) (n : Node) where
  settled_safe : (h : ℕ) (ls : List (Limb (Shape h))) (above : List ℕ) (rung : Rung) (b leaves : Bool) (first : ℕ) (e : TreeError) → EachChild (Stands (nodes_in objects) h) ls → Higher (nodes_in objects) above h → (seam : Seam) → seam_if b (seam_for (map (branch_of h) ls) key leaves first) ≡ seam → settled_by objects fits key above rung seam ≡ Err e → Safe e
  settled_safe h ls above rung b leaves first e st a New s r = absurd cc
  settled_safe h ls above rung b leaves first e st a (Old f) s r = absurd cc
  settled_safe h ls above rung b leaves first e st a (Beside child) s r =
      let t = beside_child (nodes_in objects) h ls key b leaves first child st s in
      let once = not_twice (nodes_in objects) above child h t.0 t.1 t.2 a in
      let stands = shape_held h t.0 t.2 in
      let held = held_as (objects child) stands.0 (ap (nodes_in objects) (sym t.1) ∙ stands.1) in
      first_safe fits key child rung held.0 stands.0 (objects child) e held.1 (sym (ap (λ z. if z then Err (NotATree child) else put_first rung (first_held fits key child (objects child))) once) ∙ r) where
        shape_held : (h : ℕ) (t : Shape h) → Stands (nodes_in objects) h t → (m : Node) × (nodes_in objects (oid_of h t) ≡ Some m)
        shape_held zero t st = (node.Leaf (record { items = t.items; next = t.next }), st)
        shape_held (suc h) t st = (node.Inner (inner_of h t), st.0)

  then_safe : (r : Result Rung TreeError) (rest : Result (List Rung) TreeError) (e : TreeError) → ((x : TreeError) → r ≡ Err x → Safe x) → ((x : TreeError) → rest ≡ Err x → Safe x) → then_rungs r rest ≡ Err e → Safe e
  then_safe (Ok rung) (Ok rungs) e p q t = absurd cc
  then_safe (Ok rung) (Err x) e p q t = let same : x ≡ e = cc in subst Safe same (q x refl)
  then_safe (Err x) rest e p q t = let same : x ≡ e = cc in subst Safe same (p x refl)

  pub settle_safe : (h : ℕ) (s : Shape h) (above : List ℕ) (path : List Step) (e : TreeError) → PathIn objects key h s path oid class n → Stands (nodes_in objects) h s → Higher (nodes_in objects) above h → settle objects fits key above (rungs_of max key grown leaf path) ≡ Err e → Safe e
  settle_safe zero s above [] e p st a r = absurd cc
  settle_safe zero s above (x ∷ xs) e p st a r = absurd p
  settle_safe (suc h) s above [] e p st a r = absurd p
  settle_safe (suc h) s above (x ∷ xs) e p st a r =
      let x' = rung_of max key grown leaf x xs in
      let above' = above ++ x'.oid ∷ [] in
      let a' : Higher (nodes_in objects) above' h = higher_last (nodes_in objects) above h (suc h) x.oid s (higher_less (nodes_in objects) above (suc h) h (omega arith) a) (sym p.0) st (omega arith) in
      let seams : seam_if (grows max grown (x ∷ xs)) (seam_for (map (branch_of h) s.tail) key (is_none xs) (first_below leaf xs)) ≡ x'.seam = ap (λ (i : Inner). seam_if (grows max grown (x ∷ xs)) (seam_for i.tail key (is_none xs) (first_below leaf xs))) (sym p.1) in
      then_safe (settled objects fits key above' x') (settle objects fits key above' (rungs_of max key grown leaf xs)) e
      (λ y q. settled_safe h s.tail above' x' (grows max grown (x ∷ xs)) (is_none xs) (first_below leaf xs) y st.2 a' x'.seam seams q)
      (λ y q. deeper (λ c f st' v. settle_safe h c above' xs v f st' a') s.tail s.head p.3 st.1 st.2 y q)
      r where
        deeper : {R : Result (List Rung) TreeError} → ((c : Shape h) → PathIn objects key h c xs oid class n → Stands (nodes_in objects) h c → (v : TreeError) → R ≡ Err v → Safe v) → (ls : List (Limb (Shape h))) (c : Shape h) → ForKey (λ t. PathIn objects key h t xs oid class n) key c ls → Stands (nodes_in objects) h c → EachChild (Stands (nodes_in objects) h) ls → (y : TreeError) → R ≡ Err y → Safe y
        deeper each [] c f st sts y q = each c f st y q
        deeper each (l ∷ ls) c (inl f) st sts y q = each c f.1 st y q
        deeper each (l ∷ ls) c (inr f) st sts y q = deeper each ls l.child f.1 sts.0 sts.1 y q
