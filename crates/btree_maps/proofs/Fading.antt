-- What a remove makes of a subtree, from the leaf up.
use Rattle.std.proofs.Common.{◌≡◌, ℕ, Bool, false, List, [], ◌∷◌, ◌++◌, Option, Some, refl, arith, sym, ◌∙◌, ap, subst, zero, suc, inl, inr, ◌⊎◌}
use Rattle.std.specs.Prelude.{map, if◌then◌else◌, ◌==◌}
use Rattle.std.proofs.lemmas.Grind.{common_steps}
use Rattle.pickle_graph.specs.Graph.{Graph}
use Rattle.btree_family.specs.declared.key.Key.{Key}
use Rattle.bucket_state.specs.declared.tree.Inner.{Inner}
use Rattle.btree_shapes.specs.declared.node.Node.{Node}
use Rattle.btree_shapes.specs.Nodes.{place_for}
use Rattle.btree_shapes.specs.Ways.{stands_in}
use Rattle.btree_shapes.specs.Shapes.{LeafShape, Shape, Limb, oid_of, branch_of, joined, IsFrom, IsUpTo, Parted, Bounded, mapping_of, links_of, first_leaf}
use Rattle.btree_putting.specs.declared.puts.Put.{Put}
use Rattle.btree_putting.specs.Puts.{put_oid, inner_node}
use Rattle.btree_removing.specs.Types.{Loss, Rest, Same, First, Gone, Rung}
use Rattle.btree_removing.specs.Items.{cut_branch}
use Rattle.btree_removing.specs.Losses.{put_rung, first_or, lose_child, move_first, lose_by, raise}
use Rattle.btree_maps.proofs.Mappings.{within-mapping, within-joined}
use Rattle.btree_maps.proofs.RemoveItems.{remove_front}
use Rattle.btree_maps.proofs.Wider.{parted_from}
use Rattle.btree_shapes.specs.ChainLaws.{In, Distinct, in_front, avoids_in, distinct_front, distinct_parts}
use Rattle.btree_maps.proofs.Dropping.{cut_front}
use Rattle.btree_maps.proofs.Limbs.{ForKey, sprouts_of, Fine, fine_inner}
use Rattle.btree_maps.proofs.Rungs.{inner_of}
use Rattle.btree_maps.proofs.Putting.{AllPut, all_parts}
use Rattle.btree_maps.proofs.Losing.{HeadKnown, WayIn, fine_head, fine_tail, Adds, lose_adds, Apart, below_off, way_there}
use Rattle.btree_maps.proofs.Shrinking.{place_end, place_more, Shrunk, Emptied, Stayed, Keeps, Each, kept, stay_limbs, out_limbs}

zero_or : (n : ℕ) → (n ≡ 0) ⊎ ((i : ℕ) × (n ≡ suc i))
zero_or zero = inl refl
zero_or (suc n) = inr (n, refl)

not_equal : (a b : ℕ) → (a ≡ b → ⊥) → (a == b) ≡ false
not_equal a b n = grind (arith, common_steps)

-- what became of a subtree
abbrev pub Fate : (ℕ → Option Node) → ℕ → Key → ℕ → Bool → (h : ℕ) → Option Key → Option Key → Shape h → Rest → Type 0
Fate nodes' kind key to e h low high s Same = Shrunk nodes' kind key to e h low high (first_leaf h s) s
Fate nodes' kind key to e h low high s (First x) = Shrunk nodes' kind key to e h low high x s × (first_leaf h s ≡ to) × (x ≡ to → ⊥)
Fate nodes' kind key to e h low high s Gone = Emptied key to e h s

-- ---- an object as the way has it

abbrev rung_with : ℕ → Graph → Inner → Bool → Rung
rung_with oid class inner leaves = record { oid = oid; class = class; inner = inner; leaves = leaves }

abbrev pub rung_at : (h : ℕ) → Shape (suc h) → Rung → Rung
rung_at h s x = rung_with s.oid x.class (inner_of h s) x.leaves

rung_is : (h : ℕ) (s : Shape (suc h)) (x : Rung) → x.oid ≡ s.oid → x.inner ≡ inner_of h s → x ≡ rung_at h s x
rung_is h s x o i = ap (λ z. rung_with z x.class x.inner x.leaves) o ∙ ap (λ z. rung_with s.oid x.class z x.leaves) i

abbrev shape_with : (h : ℕ) → ℕ → Shape h → List (Limb (Shape h)) → ℕ → Shape (suc h)
shape_with h oid head tail first = record { oid = oid; head = head; tail = tail; first = first }

-- the first leaf is one of the leaves
first_in : (h : ℕ) (s : Shape h) → In (first_leaf h s) (links_of h s)
first_in zero s = inl refl
first_in (suc h) s = any s.head s.tail (first_in h s.head) where
  any : (c : Shape h) (ls : List (Limb (Shape h))) → In (first_leaf h c) (links_of h c) → In (first_leaf h c) (joined (links_of h) c ls)
  any c [] i = i
  any c (l ∷ ls) i = in_front (first_leaf h c) (links_of h c) (joined (links_of h) l.child ls) i

first_joined : (h : ℕ) (c : Shape h) (ls : List (Limb (Shape h))) → In (first_leaf h c) (joined (links_of h) c ls)
first_joined h c [] = first_in h c
first_joined h c (l ∷ ls) = in_front (first_leaf h c) (links_of h c) (joined (links_of h) l.child ls) (first_in h c)

put_below : (nodes' : ℕ → Option Node) (puts : List Put) (rung : Rung) (c : Loss) → Adds puts rung c → AllPut nodes' c.puts → AllPut nodes' puts
put_below nodes' puts rung c (inl e) a = subst (AllPut nodes') e a
put_below nodes' puts rung c (inr (n, e)) a = (all_parts nodes' puts (put_rung rung n ∷ []) (subst (AllPut nodes') e a)).0

module _ (nodes nodes' : ℕ → Option Node) (kind : ℕ) (key : Key) (known : Option ℕ) (base : Loss) (leaf : LeafShape) (e : Bool) (one : map put_oid base.puts ≡ leaf.oid ∷ []) (keep : (h : ℕ) → Keeps nodes nodes' kind key leaf.oid e h)
    (bottom : (low high : Option Key) → Fine nodes kind 0 leaf → Bounded 0 low high leaf → AllPut nodes' base.puts → Fate nodes' kind key leaf.oid e 0 low high leaf base.rest) where
  abbrev to : ℕ
  to = leaf.oid

  abbrev Fate' : (h : ℕ) → Option Key → Option Key → Shape h → Rest → Type 0
  Fate' h low high s r = Fate nodes' kind key to e h low high s r

  abbrev Stayed' : (h : ℕ) → Option Key → Option Key → (Shape h → ℕ) → Shape h → List (Limb (Shape h)) → Type 0
  Stayed' h low high F c ls = Stayed nodes' kind key to e h low high F c ls

  abbrev Each' : (h : ℕ) → (Shape h → Type 0) → Rest → Type 0
  Each' h Q r = Each nodes nodes' kind key to e h Q (λ low high t. Fate' h low high t r)

  -- without a change above, all other nodes stay
  abbrev pub Others : Rest → List Put → Type 0
  Others r puts = r ≡ Same → (q : ℕ) → stands_in (map put_oid puts) q ≡ false → nodes' q ≡ nodes q

  -- ---- an object that keeps its children

  stays : (h : ℕ) (low high : Option Key) (s : Shape (suc h)) (F : Shape h → ℕ) (first : ℕ) (r : Stayed' h low high F s.head s.tail) → nodes' s.oid ≡ Some (inner_node (oid_of h s.head) (map (branch_of h) s.tail) first) → first ≡ first_leaf h r.head → Shrunk nodes' kind key to e (suc h) low high first s
  stays h low high s F first r i n =
      let after : Shape (suc h) = shape_with h s.oid r.head r.tail first in
      let is : nodes' s.oid ≡ Some (inner_node (oid_of h r.head) (map (branch_of h) r.tail) first) =
      i ∙ ap (λ bs. Some (inner_node (oid_of h s.head) bs first)) (sym r.branches) ∙ ap (λ o. Some (inner_node o (map (branch_of h) r.tail) first)) (sym r.oid) in
      record { after = after; oid = refl; fine = fine_inner nodes' kind h after is n r.fine_head r.fine_tail; bounded = r.parted; mapping = r.mapping; first_is = sym n; links = r.links }

  same_first : (h : ℕ) (low high : Option Key) (s : Shape (suc h)) (r : Stayed' h low high (first_leaf h) s.head s.tail) → first_leaf h r.head ≡ first_leaf h s.head
  same_first h low high s r = elim (zero_or (place_for (map (branch_of h) s.tail) key)) [ inl z ↦ r.first_here z | inr p ↦ r.first_later p.0 p.1 ]

  named : (h : ℕ) (low high : Option Key) (s : Shape (suc h)) → s.first ≡ first_leaf h s.head → Shrunk nodes' kind key to e (suc h) low high s.first s → Shrunk nodes' kind key to e (suc h) low high (first_leaf (suc h) s) s
  named h low high s n r = subst (λ x. Shrunk nodes' kind key to e (suc h) low high x s) n r

  -- what became of the first child, where the way leads through it
  head_fate : (h : ℕ) (Q : Shape h → Type 0) (r : Rest) → Each' h Q r → (low high : Option Key) (c : Shape h) (ls : List (Limb (Shape h))) → Fine nodes kind h c → Parted (Bounded h) low high c ls → IsFrom low key → IsUpTo high key → Distinct (joined (links_of h) c ls) → ForKey Q key c ls
      → place_for (map (branch_of h) ls) key ≡ 0 → (high' : Option Key) × Fate' h low high' c r
  head_fate h Q r each low high c [] f b l t d fk z = (high, each low high c f b l t d fk)
  head_fate h Q r each low high c (x ∷ xs) f b l t d (inl fk) z = (Some x.key, each low (Some x.key) c f b.2 l fk.0 (distinct_parts (links_of h c) (joined (links_of h) x.child xs) d).0 fk.1)
  head_fate h Q r each low high c (x ∷ xs) f b l t d (inr fk) z = let m = place_more (branch_of h x) (map (branch_of h) xs) key fk.0 in absurd (omega (arith, m, z))

  -- an object whose child has another first leaf
  moves : (h : ℕ) (low high : Option Key) (s : Shape (suc h)) (x : Rung) (puts : List Put) (y n : ℕ) → Fine nodes kind (suc h) s → stands_in (map put_oid puts) s.oid ≡ false → (r : Stayed' h low high (λ t. y) s.head s.tail)
      → (place_for (map (branch_of h) s.tail) key ≡ 0 → (first_leaf h s.head ≡ to) × (y ≡ to → ⊥)) → place_for (map (branch_of h) s.tail) key ≡ n
      → AllPut nodes' (move_first n y (rung_at h s x) puts).puts → Others (move_first n y (rung_at h s x) puts).rest (move_first n y (rung_at h s x) puts).puts → Fate' (suc h) low high s (move_first n y (rung_at h s x) puts).rest
  moves h low high s x puts y zero f off r heads p po ot =
      let facts = heads p in
      let old : s.first ≡ to = f.1.0 ∙ facts.0 in
      let new : Put = put_rung (rung_at h s x) (inner_node (oid_of h s.head) (map (branch_of h) s.tail) y) in
      let test : (s.first == y) ≡ false = not_equal s.first y (λ q. facts.1 (sym q ∙ old)) in
      let po' : AllPut nodes' (puts ++ new ∷ []) = subst (AllPut nodes') (ap (λ t. if t then puts else puts ++ new ∷ []) test) po in
      (stays h low high s (λ t. y) y r (all_parts nodes' puts (new ∷ []) po').1.0 (sym (r.first_here p)), facts.0, facts.1)
  moves h low high s x puts y (suc n) f off r heads p po ot =
      named h low high s f.1.0 (stays h low high s (λ t. y) s.first r (ot refl s.oid off ∙ f.0.0) (f.1.0 ∙ sym (r.first_later n p)))

  -- ---- an object whose child on the way leaves

  gone : (h : ℕ) (low high : Option Key) (x : Rung) (o fi : ℕ) (hd : Shape h) (ls : List (Limb (Shape h))) (puts : List Put) (n : ℕ) (Q : Shape h → Type 0) → ((t : Shape h) → Q t → In to (links_of h t)) → Each' h Q Gone
      → HeadKnown key known (sprouts_of h ls) → Fine nodes kind (suc h) (shape_with h o hd ls fi) → Parted (Bounded h) low high hd ls → IsFrom low key → IsUpTo high key → Distinct (joined (links_of h) hd ls) → ForKey Q key hd ls → place_for (map (branch_of h) ls) key ≡ n
      → AllPut nodes' (lose_child n known (rung_at h (shape_with h o hd ls fi) x) puts).puts → Fate' (suc h) low high (shape_with h o hd ls fi) (lose_child n known (rung_at h (shape_with h o hd ls fi) x) puts).rest
  gone h low high x o fi hd [] puts zero Q there each kn f b l u d fk p po =
      let r = each low high hd (fine_head nodes kind h (shape_with h o hd [] fi) f) b l u d fk in
      record { mapping = r.mapping; links = r.links; first = r.first }
  gone h low high x o fi hd [] puts (suc n) Q there each kn f b l u d fk p po = absurd (omega (arith, p))
  gone h low high x o fi hd (y ∷ ys) puts zero Q there each kn f b l u d (inr fk) p po = let m = place_more (branch_of h y) (map (branch_of h) ys) key fk.0 in absurd (omega (arith, m, p))
  gone h low high x o fi hd (y ∷ ys) puts (suc n) Q there each kn f b l u d (inl fk) p po = let m = place_end (branch_of h y) (map (branch_of h) ys) key fk.0 in absurd (omega (arith, m, p))
  gone h low high x o fi hd (y ∷ ys) puts zero Q there each kn f b l u d (inl fk) p po =
      let s : Shape (suc h) = shape_with h o hd (y ∷ ys) fi in
      let items = joined (mapping_of h) y.child ys in
      let links = joined (links_of h) y.child ys in
      let fh = fine_head nodes kind h s f in
      let ft = fine_tail nodes kind h s f in
      let r = each low (Some y.key) hd fh b.2 l fk.0 (distinct_parts (links_of h hd) links d).0 fk.1 in
      let i = there hd fk.1 in
      let a = distinct_front to (links_of h hd) links d i in
      let k = kept nodes nodes' kind key to e h (keep h) y.child ys ft.1 ft.2 a in
      let first : ℕ = first_or (oid_of h y.child) known in
      let is : first ≡ first_leaf h y.child = kn fk.0 in
      let new : Put = put_rung (rung_at h s x) (inner_node (oid_of h y.child) (map (branch_of h) ys) first) in
      let here : nodes' o ≡ Some (inner_node (oid_of h y.child) (map (branch_of h) ys) first) = (all_parts nodes' puts (new ∷ []) po).1.0 in
      let after : Shape (suc h) = shape_with h o y.child ys first in
      let w = within-joined (Bounded h) (mapping_of h) (within-mapping h) (Some y.key) high y.child ys b.3 in
      let shrunk : Shrunk nodes' kind key to e (suc h) low high first s = record {
        after = after;
        oid = refl;
        fine = fine_inner nodes' kind h after here is k.0 k.1;
        bounded = parted_from h low y.key high y.child ys b.0 b.3;
        mapping = sym (remove_front y.key high (mapping_of h hd) items key w fk.0 ∙ ap (λ zs. zs ++ items) r.mapping);
        first_is = sym is;
        links = sym (cut_front e to (links_of h hd) links i ∙ ap (λ zs. zs ++ links) r.links);
      } in
      (shrunk, r.first, λ z. avoids_in to links a (subst (λ q. In q links) (sym is ∙ z) (first_joined h y.child ys)))
  gone h low high x o fi hd (y ∷ ys) puts (suc n) Q there each kn f b l u d (inr fk) p po =
      let s : Shape (suc h) = shape_with h o hd (y ∷ ys) fi in
      let fh = fine_head nodes kind h s f in
      let ft = fine_tail nodes kind h s f in
      let r = out_limbs nodes nodes' kind key to e h Q there (keep h) each low high hd y ys fh ft b u d fk.0 fk.1 in
      let m = place_more (branch_of h y) (map (branch_of h) ys) key fk.0 in
      let same : place_for (map (branch_of h) ys) key ≡ n = omega (arith, m, p) in
      let new : Put = put_rung (rung_at h s x) (inner_node (oid_of h hd) (cut_branch (map (branch_of h) (y ∷ ys)) n) fi) in
      let br : cut_branch (map (branch_of h) (y ∷ ys)) n ≡ map (branch_of h) r.tail = ap (cut_branch (map (branch_of h) (y ∷ ys))) (sym same) ∙ sym r.branches in
      let here : nodes' o ≡ Some (inner_node (oid_of h hd) (map (branch_of h) r.tail) fi) = (all_parts nodes' puts (new ∷ []) po).1.0 ∙ ap (λ bs. Some (inner_node (oid_of h hd) bs fi)) br in
      let after : Shape (suc h) = shape_with h o hd r.tail fi in
      record { after = after; oid = refl; fine = fine_inner nodes' kind h after here f.1.0 r.fine_head r.fine_tail; bounded = r.parted; mapping = r.mapping; first_is = refl; links = r.links }

  -- ---- one object, and all of a subtree

  node_fate : (h : ℕ) (low high : Option Key) (s : Shape (suc h)) (x : Rung) (puts : List Put) (r : Rest) (Q : Shape h → Type 0) → ((t : Shape h) → Q t → In to (links_of h t)) → (AllPut nodes' puts → Others r puts → Each' h Q r)
      → (r ≡ Gone → HeadKnown key known (sprouts_of h s.tail)) → Fine nodes kind (suc h) s → Parted (Bounded h) low high s.head s.tail → IsFrom low key → IsUpTo high key → Distinct (joined (links_of h) s.head s.tail) → ForKey Q key s.head s.tail → stands_in (map put_oid puts) s.oid ≡ false
      → AllPut nodes' (lose_by (place_for (map (branch_of h) s.tail) key) known (rung_at h s x) r puts).puts
      → Others (lose_by (place_for (map (branch_of h) s.tail) key) known (rung_at h s x) r puts).rest (lose_by (place_for (map (branch_of h) s.tail) key) known (rung_at h s x) r puts).puts
      → Fate' (suc h) low high s (lose_by (place_for (map (branch_of h) s.tail) key) known (rung_at h s x) r puts).rest
  node_fate h low high s x puts Same Q there each kn f b l u d fk off po ot =
      let r = stay_limbs nodes nodes' kind key to e h Q (first_leaf h) there (keep h) (each po ot) low high s.head s.tail (fine_head nodes kind h s f) (fine_tail nodes kind h s f) b l u d fk in
      named h low high s f.1.0 (stays h low high s (first_leaf h) s.first r (ot refl s.oid off ∙ f.0.0) (f.1.0 ∙ sym (same_first h low high s r)))
  node_fate h low high s x puts (First y) Q there each kn f b l u d fk off po ot =
      let place = place_for (map (branch_of h) s.tail) key in
      let pb = put_below nodes' puts (rung_at h s x) (move_first place y (rung_at h s x) puts) (lose_adds place known (rung_at h s x) (First y) puts) po in
      let ea = each pb (λ w. absurd cc) in
      let fh = fine_head nodes kind h s f in
      let r = stay_limbs nodes nodes' kind key to e h Q (λ t. y) there (keep h) (λ low' high' t f' b' l' u' d' q. (ea low' high' t f' b' l' u' d' q).0) low high s.head s.tail fh (fine_tail nodes kind h s f) b l u d fk in
      moves h low high s x puts y place f off r (λ z. let t = head_fate h Q (First y) ea low high s.head s.tail fh b l u d fk z in (t.1.1, t.1.2)) refl po ot
  node_fate h low high s x puts Gone Q there each kn f b l u d fk off po ot =
      let place = place_for (map (branch_of h) s.tail) key in
      let pb = put_below nodes' puts (rung_at h s x) (lose_child place known (rung_at h s x) puts) (lose_adds place known (rung_at h s x) Gone puts) po in
      gone h low high x s.oid s.first s.head s.tail puts place Q there (each pb (λ w. absurd cc)) (kn refl) f b l u d fk refl po

  -- the fate of a subtree is what goes on above it
  pub shrink : (h : ℕ) (low high : Option Key) (s : Shape h) (rungs : List Rung) → Fine nodes kind h s → Bounded h low high s → IsFrom low key → IsUpTo high key → Distinct (links_of h s) → WayIn key known base leaf h s rungs → Apart to rungs
      → AllPut nodes' (raise key known rungs base).puts → Others (raise key known rungs base).rest (raise key known rungs base).puts → Fate' h low high s (raise key known rungs base).rest
  shrink zero low high s [] f b l u d w ap' po ot =
      subst (λ (z : Shape 0). Fine nodes kind 0 z → Bounded 0 low high z → Fate' 0 low high z base.rest) w (λ f' b'. bottom low high f' b' po) f b
  shrink zero low high s (x ∷ xs) f b l u d w ap' po ot = absurd w
  shrink (suc h) low high s [] f b l u d w ap' po ot = absurd w
  shrink (suc h) low high s (x ∷ xs) f b l u d w ap' po ot =
      let c = raise key known xs base in
      let canon : x ≡ rung_at h s x = rung_is h s x w.0 w.1 in
      let off : stands_in (map put_oid c.puts) s.oid ≡ false = ap (stands_in (map put_oid c.puts)) (sym w.0) ∙ below_off key known base to one x xs ap' in
      let Q : Shape h → Type 0 = λ t. WayIn key known base leaf h t xs in
      let there : (t : Shape h) → Q t → In to (links_of h t) = λ t q. way_there nodes kind key known base leaf h t xs q in
      let each : AllPut nodes' c.puts → Others c.rest c.puts → Each' h Q c.rest = λ pb ob low' high' t f' b' l' u' d' q. shrink h low' high' t xs f' b' l' u' d' q ap'.1 pb ob in
      let result = node_fate h low high s x c.puts c.rest Q there each w.2 f b l u d w.3 off in
      subst (λ (z : Rung). AllPut nodes' (lose_by (place_for z.inner.tail key) known z c.rest c.puts).puts → Others (lose_by (place_for z.inner.tail key) known z c.rest c.puts).rest (lose_by (place_for z.inner.tail key) known z c.rest c.puts).puts → Fate' (suc h) low high s (lose_by (place_for z.inner.tail key) known z c.rest c.puts).rest) (sym canon) result po ot
