-- What a set puts anew stands on its way.
use Rattle.std.proofs.Common.{◌≡◌, ℕ, ◌≤◌, Bool, true, false, List, [], ◌∷◌, ◌++◌, Option, Some, None, refl, arith, sym, ◌∙◌, ap, subst, zero, suc, inl, inr, ◌⊎◌}
use Rattle.std.specs.Prelude.{map, nat_eq, ◌||◌}
use Rattle.btree_family.specs.declared.key.Key.{Key}
use Rattle.btree_family.specs.Buckets.{BucketContents}
use Rattle.bucket_state.specs.declared.tree.Branch.{Branch}
use Rattle.bucket_state.specs.declared.tree.Inner.{Inner}
use Rattle.btree_shapes.specs.declared.node.Node.{Node}
use Rattle.btree_shapes.specs.declared.node.Node.TheVariants as node
use Rattle.btree_shapes.specs.Nodes.{Held}
use Rattle.btree_shapes.specs.Ways.{stands_in}
use Rattle.btree_shapes.specs.Shapes.{Shape, Limb, oid_of, branch_of, EachChild, EachLimb, joined, nodes_in, Stands, links_of}
use Rattle.btree_putting.specs.declared.puts.Put.{Put}
use Rattle.btree_setting.specs.Types.{Bottom, Place, Change, Terms, Plain, Rung}
use Rattle.btree_setting.specs.Types as place
use Rattle.btree_putting.specs.Puts.{put_oid, inner_node}
use Rattle.btree_setting.specs.Changes.{IsSet, IsRootSet, IsLeafSet, Rise, RootRise, grown}
use Rattle.btree_maps.specs.Drawn.{Differ}
use Rattle.btree_maps.proofs.Reaching.{one_height}
use Rattle.btree_shapes.specs.ChainLaws.{In, Avoids, avoids_in, avoids_parts}
use Rattle.btree_maps.proofs.Limbs.{chosen, Fine, OldShape, old_head, old_tail, fine_inner}
use Rattle.btree_maps.proofs.Rungs.{RungsIn, rungs_there, inner_of}
use Rattle.btree_maps.proofs.Putting.{or_cases, or_end, bool_cases, same_number, stands_append, oids_append, differ_append}

-- ---- one object has one shape

abbrev inner_in : Option Node → Inner
inner_in (Some (node.Inner i)) = i
inner_in (Some (node.Leaf b)) = record { head = 0; tail = []; first = 0 }
inner_in (Some (node.Lone b)) = record { head = 0; tail = []; first = 0 }
inner_in None = record { head = 0; tail = []; first = 0 }

abbrev leaf_in : Option Node → BucketContents
leaf_in (Some (node.Leaf b)) = b
leaf_in (Some (node.Inner i)) = record { items = []; next = None }
leaf_in (Some (node.Lone b)) = record { items = []; next = None }
leaf_in None = record { items = []; next = None }

abbrev leaf_shape : ℕ → BucketContents → Shape 0
leaf_shape oid leaf = record { oid = oid; items = leaf.items; next = leaf.next }

abbrev inner_shape : (h : ℕ) → ℕ → Shape h → List (Limb (Shape h)) → ℕ → Shape (suc h)
inner_shape h oid head tail first = record { oid = oid; head = head; tail = tail; first = first }

abbrev limb_with : (h : ℕ) → Key → Shape h → Limb (Shape h)
limb_with h key child = record { key = key; child = child }

module _ (nodes : ℕ → Option Node) where
  same_limbs : (h : ℕ) → ((s t : Shape h) → Stands nodes h s → Stands nodes h t → oid_of h s ≡ oid_of h t → s ≡ t) → (ls ms : List (Limb (Shape h))) → EachChild (Stands nodes h) ls → EachChild (Stands nodes h) ms → map (branch_of h) ls ≡ map (branch_of h) ms → ls ≡ ms
  same_limbs h each [] [] p q e = refl
  same_limbs h each [] (m ∷ ms) p q e = absurd cc
  same_limbs h each (l ∷ ls) [] p q e = absurd cc
  same_limbs h each (l ∷ ls) (m ∷ ms) p q e =
      let b : branch_of h l ≡ branch_of h m = cc in
      let bs : map (branch_of h) ls ≡ map (branch_of h) ms = cc in
      let c : l.child ≡ m.child = each l.child m.child p.0 q.0 (ap (λ (x : Branch). x.child) b) in
      let k : l.key ≡ m.key = ap (λ (x : Branch). x.key) b in
      let r = same_limbs h each ls ms p.1 q.1 bs in
      let one : l ≡ m = ap (λ z. limb_with h z l.child) k ∙ ap (λ z. limb_with h m.key z) c in
      ap (λ z. z ∷ ls) one ∙ ap (λ zs. m ∷ zs) r

  pub one_shape : (h : ℕ) (s t : Shape h) → Stands nodes h s → Stands nodes h t → oid_of h s ≡ oid_of h t → s ≡ t
  one_shape zero s t p q e =
      let leaves = ap leaf_in (sym p ∙ ap nodes e ∙ q) in
      ap (λ z. leaf_shape z (record { items = s.items; next = s.next })) e ∙ ap (leaf_shape t.oid) leaves
  one_shape (suc h) s t p q e =
      let same : inner_of h s ≡ inner_of h t = ap inner_in (sym p.0 ∙ ap nodes e ∙ q.0) in
      let heads : s.head ≡ t.head = one_shape h s.head t.head p.1 q.1 (ap (λ (x : Inner). x.head) same) in
      let tails : s.tail ≡ t.tail = same_limbs h (one_shape h) s.tail t.tail p.2 q.2 (ap (λ (x : Inner). x.tail) same) in
      let first : s.first ≡ t.first = ap (λ (x : Inner). x.first) same in
      ap (λ z. inner_shape h z s.head s.tail s.first) e ∙ ap (λ z. inner_shape h t.oid z s.tail s.first) heads ∙ ap (λ z. inner_shape h t.oid t.head z s.first) tails ∙ ap (inner_shape h t.oid t.head t.tail) first

  one_links : (h h' : ℕ) (s : Shape h) (t : Shape h') → h ≡ h' → Stands nodes h s → Stands nodes h' t → oid_of h s ≡ oid_of h' t → links_of h s ≡ links_of h' t
  one_links h h' s t same p q e =
      subst (λ k. (t : Shape k) → Stands nodes k t → oid_of h s ≡ oid_of k t → links_of h s ≡ links_of k t) same (λ t q e. ap (links_of h) (one_shape h s t p q e)) t q e

  -- two objects of one number have the same leaves below them
  pub same_links : (h h' : ℕ) (s : Shape h) (t : Shape h') → Stands nodes h s → Stands nodes h' t → oid_of h s ≡ oid_of h' t → links_of h s ≡ links_of h' t
  same_links h h' s t p q e = one_links h h' s t (one_height nodes h h' s t p q e) p q e

-- ---- objects on the way to a leaf

-- an object at most this high stands at this number, with the leaf below it, and the number is none of some
pub record OnWay (nodes : ℕ → Option Node) (oids : List ℕ) (to h q : ℕ) : Type 0 where
  pub height : ℕ
  pub shape : Shape height
  pub is : oid_of height shape ≡ q
  pub stands : Stands nodes height shape
  pub low : height ≤ h
  pub holds : In to (links_of height shape)
  pub out : stands_in oids q ≡ false

pub on_more : (nodes : ℕ → Option Node) (oids : List ℕ) (to h q : ℕ) → OnWay nodes oids to h q → OnWay nodes oids to (suc h) q
on_more nodes oids to h q o = record { height = o.height; shape = o.shape; is = o.is; stands = o.stands; low = omega (arith, o.low); holds = o.holds; out = o.out }

-- what is put anew for a leaf
pub leaf_olds : (p : Place) (max : ℕ) (plain : Plain) (b : Bottom) (c : Change) → IsLeafSet p max plain b c → map put_oid c.olds ≡ b.oid ∷ []
leaf_olds place.Alone max plain b c s = ap (λ (x : Change). map put_oid x.olds) s
leaf_olds place.Below max plain b c (inl s) = ap (λ (x : Change). map put_oid x.olds) s.1
leaf_olds place.Below max plain b c (inr s) = ap (λ (x : Change). map put_oid x.olds) s.1.is
leaf_olds place.Lone max plain b c (inl s) = ap (λ (x : Change). map put_oid x.olds) s.1
leaf_olds place.Lone max plain b c (inr s) = ap (λ (x : Change). map put_oid x.olds) s.1.is

-- what is put anew for an object above
abbrev pub OneMore : List Put → List Put → Rung → Type 0
OneMore below olds x = (olds ≡ below) ⊎ ((p : Put) × (olds ≡ below ++ p ∷ []) × (p.oid ≡ x.oid) × (p.class ≡ x.class))

abbrev rung_put : Rung → Bool → Node → Put
rung_put x leaves n = record { oid = x.oid; class = x.class; leaves = leaves; node = n }

pub rise_olds : (terms : Terms) (x : Rung) (b c : Change) → Rise terms.inner terms.key terms.plain x b c → OneMore b.olds c.olds x
rise_olds terms x b c (inl r) = inl (ap (λ (z : Change). z.olds) r.is)
rise_olds terms x b c (inr (inl r)) = inr (rung_put x x.leaves (inner_node x.inner.head (grown terms.key x r.up) x.inner.first), ap (λ (z : Change). z.olds) r.is, refl, refl)
rise_olds terms x b c (inr (inr r)) = inr (rung_put x x.leaves (inner_node x.inner.head r.split.left x.inner.first), ap (λ (z : Change). z.olds) r.split.is, refl, refl)

pub root_olds : (terms : Terms) (x : Rung) (b c : Change) → RootRise terms.inner terms.key terms.plain x b c → OneMore b.olds c.olds x
root_olds terms x b c (inl r) = inl (ap (λ (z : Change). z.olds) r.is)
root_olds terms x b c (inr (inl r)) = inr (rung_put x x.leaves (inner_node x.inner.head (grown terms.key x r.up) x.inner.first), ap (λ (z : Change). z.olds) r.is, refl, refl)
root_olds terms x b c (inr (inr r)) = inr (rung_put x false (inner_node r.split.new (record { key = r.split.middle.key; child = r.split.other } ∷ []) x.inner.first), ap (λ (z : Change). z.olds) r.split.is, refl, refl)

oids_last : (below olds : List Put) (p : Put) (x : Rung) → olds ≡ below ++ p ∷ [] → p.oid ≡ x.oid → map put_oid olds ≡ map put_oid below ++ x.oid ∷ []
oids_last below olds p x e i = ap (map put_oid) e ∙ oids_append below (p ∷ []) ∙ ap (λ o. map put_oid below ++ o ∷ []) i

module _ (objects : ℕ → Held) (kind : ℕ) (value : Option (List ℕ)) (terms : Terms) (bottom : Bottom) (oids : List ℕ) where
  abbrev On : ℕ → ℕ → Type 0
  On h q = OnWay (nodes_in objects) oids bottom.oid h q

  step_on : (h : ℕ) (s : Shape (suc h)) (x : Rung) (xs : List Rung) (b c : Change) (q : ℕ) → OldShape (nodes_in objects) oids kind (suc h) s → RungsIn objects value terms bottom (suc h) s (x ∷ xs) → OneMore b.olds c.olds x → (stands_in (map put_oid b.olds) q ≡ true → On h q) → stands_in (map put_oid c.olds) q ≡ true → On (suc h) q
  step_on h s x xs b c q o r (inl e) below i = on_more (nodes_in objects) oids bottom.oid h q (below (ap (λ ps. stands_in (map put_oid ps) q) (sym e) ∙ i))
  step_on h s x xs b c q o r (inr (p, e, n, g)) below i =
      let j : (stands_in (map put_oid b.olds) q || (nat_eq x.oid q || false)) ≡ true = sym (stands_append (map put_oid b.olds) (x.oid ∷ []) q) ∙ ap (λ os. stands_in os q) (sym (oids_last b.olds c.olds p x e n)) ∙ i in
      elim (or_cases (stands_in (map put_oid b.olds) q) (nat_eq x.oid q || false) j) [
        | inl k ↦ on_more (nodes_in objects) oids bottom.oid h q (below k)
        | inr k ↦
            let same : x.oid ≡ q = same_number x.oid q (or_end (nat_eq x.oid q) k) in
            record { height = suc h; shape = s; is = sym r.0 ∙ same; stands = o.0.0; low = omega arith; holds = rungs_there objects value terms bottom (suc h) s (x ∷ xs) r; out = ap (stands_in oids) (sym same ∙ r.0) ∙ o.1.0 }
      ]

  -- what is put anew is on the way
  pub olds_on : (h : ℕ) (s : Shape h) (rungs : List Rung) (c : Change) (q : ℕ) → OldShape (nodes_in objects) oids kind h s → RungsIn objects value terms bottom h s rungs → IsSet terms bottom rungs c → stands_in (map put_oid c.olds) q ≡ true → On h q
  olds_on zero s [] c q o r i e =
      let olds = leaf_olds bottom.place terms.leaf terms.plain bottom c i in
      let j : (nat_eq bottom.oid q || false) ≡ true = ap (λ os. stands_in os q) (sym olds) ∙ e in
      let same : bottom.oid ≡ q = same_number bottom.oid q (or_end (nat_eq bottom.oid q) j) in
      record { height = 0; shape = s; is = sym r.0 ∙ same; stands = o.0.0; low = omega arith; holds = inl (sym r.0); out = ap (stands_in oids) (sym same ∙ r.0) ∙ o.1 }
  olds_on zero s (x ∷ xs) c q o r i e = absurd r
  olds_on (suc h) s [] c q o r i e = absurd r
  olds_on (suc h) s (x ∷ xs) c q o r (b, sb, rise) e =
      let t = chosen (λ t. RungsIn objects value terms bottom h t xs) (OldShape (nodes_in objects) oids kind h) kind terms.key s.head s.tail r.4 (old_head (nodes_in objects) oids kind h s o) (old_tail (nodes_in objects) oids kind h s o) in
      step_on h s x xs b c q o r (rise_olds terms x b c rise) (λ k. olds_on h t.0 xs b q t.2 t.1 sb k) e

  -- an object is not among those that are put anew below it
  pub not_below : (h : ℕ) (s : Shape (suc h)) (x : Rung) (xs : List Rung) (b : Change) → OldShape (nodes_in objects) oids kind (suc h) s → RungsIn objects value terms bottom (suc h) s (x ∷ xs) → IsSet terms bottom xs b → stands_in (map put_oid b.olds) s.oid ≡ false
  not_below h s x xs b o r sb = by_test (stands_in (map put_oid b.olds) s.oid) refl where
    by_test : (t : Bool) → stands_in (map put_oid b.olds) s.oid ≡ t → stands_in (map put_oid b.olds) s.oid ≡ false
    by_test false e = e
    by_test true e =
        let t = chosen (λ t. RungsIn objects value terms bottom h t xs) (OldShape (nodes_in objects) oids kind h) kind terms.key s.head s.tail r.4 (old_head (nodes_in objects) oids kind h s o) (old_tail (nodes_in objects) oids kind h s o) in
        let w = olds_on h t.0 xs b s.oid t.2 t.1 sb e in
        let same : w.height ≡ suc h = one_height (nodes_in objects) w.height (suc h) w.shape s w.stands o.0.0 w.is in
        absurd (omega (arith, w.low, same))

  one_more_differs : (x : Rung) (below olds : List Put) → OneMore below olds x → stands_in (map put_oid below) x.oid ≡ false → Differ (map put_oid below) → Differ (map put_oid olds)
  one_more_differs x below olds (inl e) n d = subst (λ ps. Differ (map put_oid ps)) (sym e) d
  one_more_differs x below olds (inr (p, e, i, g)) n d = subst Differ (sym (oids_last below olds p x e i)) (differ_append (map put_oid below) (x.oid ∷ []) d (refl, tt) (λ q k. ap (stands_in (map put_oid below)) (sym (same_number x.oid q (or_end (nat_eq x.oid q) k))) ∙ n))

  pub olds_differ : (h : ℕ) (s : Shape h) (rungs : List Rung) (c : Change) → OldShape (nodes_in objects) oids kind h s → RungsIn objects value terms bottom h s rungs → IsSet terms bottom rungs c → Differ (map put_oid c.olds)
  olds_differ zero s [] c o r i = subst Differ (sym (leaf_olds bottom.place terms.leaf terms.plain bottom c i)) (refl, tt)
  olds_differ zero s (x ∷ xs) c o r i = absurd r
  olds_differ (suc h) s [] c o r i = absurd r
  olds_differ (suc h) s (x ∷ xs) c o r (b, sb, rise) =
      let t = chosen (λ t. RungsIn objects value terms bottom h t xs) (OldShape (nodes_in objects) oids kind h) kind terms.key s.head s.tail r.4 (old_head (nodes_in objects) oids kind h s o) (old_tail (nodes_in objects) oids kind h s o) in
      one_more_differs x b.olds c.olds (rise_olds terms x b c rise) (ap (stands_in (map put_oid b.olds)) r.0 ∙ not_below h s x xs b o r sb) (olds_differ h t.0 xs b t.2 t.1 sb)

  -- the same of a whole tree
  pub root_on : (h : ℕ) (s : Shape (suc h)) (x : Rung) (xs : List Rung) (c : Change) (q : ℕ) → OldShape (nodes_in objects) oids kind (suc h) s → RungsIn objects value terms bottom (suc h) s (x ∷ xs) → IsRootSet terms bottom (x ∷ xs) c → stands_in (map put_oid c.olds) q ≡ true → On (suc h) q
  root_on h s x xs c q o r (b, sb, rise) e =
      let t = chosen (λ t. RungsIn objects value terms bottom h t xs) (OldShape (nodes_in objects) oids kind h) kind terms.key s.head s.tail r.4 (old_head (nodes_in objects) oids kind h s o) (old_tail (nodes_in objects) oids kind h s o) in
      step_on h s x xs b c q o r (root_olds terms x b c rise) (λ k. olds_on h t.0 xs b q t.2 t.1 sb k) e

  pub root_differ : (h : ℕ) (s : Shape (suc h)) (x : Rung) (xs : List Rung) (c : Change) → OldShape (nodes_in objects) oids kind (suc h) s → RungsIn objects value terms bottom (suc h) s (x ∷ xs) → IsRootSet terms bottom (x ∷ xs) c → Differ (map put_oid c.olds)
  root_differ h s x xs c o r (b, sb, rise) =
      let t = chosen (λ t. RungsIn objects value terms bottom h t xs) (OldShape (nodes_in objects) oids kind h) kind terms.key s.head s.tail r.4 (old_head (nodes_in objects) oids kind h s o) (old_tail (nodes_in objects) oids kind h s o) in
      one_more_differs x b.olds c.olds (root_olds terms x b c rise) (ap (stands_in (map put_oid b.olds)) r.0 ∙ not_below h s x xs b o r sb) (olds_differ h t.0 xs b t.2 t.1 sb)

  -- ---- objects off the way

  -- the subtrees without the leaf stay
  module _ (nodes' : ℕ → Option Node) (to H : ℕ) (olds : List ℕ) (on : (q : ℕ) → stands_in olds q ≡ true → OnWay (nodes_in objects) oids to H q) (others : (p : ℕ) → stands_in oids p ≡ false → stands_in olds p ≡ false → nodes' p ≡ nodes_in objects p) where
    stays : (h : ℕ) (t : Shape h) → Stands (nodes_in objects) h t → stands_in oids (oid_of h t) ≡ false → Avoids to (links_of h t) → nodes' (oid_of h t) ≡ nodes_in objects (oid_of h t)
    stays h t st n a = elim (bool_cases (stands_in olds (oid_of h t))) [
      | inl i ↦
          let w = on (oid_of h t) i in
          let l : links_of w.height w.shape ≡ links_of h t = same_links (nodes_in objects) w.height h w.shape t w.stands st w.is in
          absurd (avoids_in to (links_of h t) a (subst (In to) l w.holds))
      | inr i ↦ others (oid_of h t) n i
    ]

    keep_limbs : (h : ℕ) → ((t : Shape h) → OldShape (nodes_in objects) oids kind h t → Avoids to (links_of h t) → Fine nodes' kind h t) → (c : Shape h) (ls : List (Limb (Shape h))) → OldShape (nodes_in objects) oids kind h c → EachLimb kind (OldShape (nodes_in objects) oids kind h) ls → Avoids to (joined (links_of h) c ls) → Fine nodes' kind h c × EachLimb kind (Fine nodes' kind h) ls
    keep_limbs h each c [] o os a = (each c o a, tt)
    keep_limbs h each c (x ∷ xs) o os a =
        let b = avoids_parts to (links_of h c) (joined (links_of h) x.child xs) a in
        let r = keep_limbs h each x.child xs os.1 os.2 b.1 in
        (each c o b.0, (os.0, r.0, r.1))

    pub keeps : (h : ℕ) (t : Shape h) → OldShape (nodes_in objects) oids kind h t → Avoids to (links_of h t) → Fine nodes' kind h t
    keeps zero t o a = (stays 0 t o.0.0 o.1 a ∙ o.0.0, o.0.1, o.0.2)
    keeps (suc h) t o a =
        let r = keep_limbs h (keeps h) t.head t.tail (old_head (nodes_in objects) oids kind h t o) (old_tail (nodes_in objects) oids kind h t o) a in
        fine_inner nodes' kind h t (stays (suc h) t o.0.0 o.1.0 a ∙ o.0.0.0) o.0.1.0 r.0 r.1
