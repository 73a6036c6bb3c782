-- Children of an object on the way to a leaf that loses an item.
use Rattle.std.proofs.Common.{◌≡◌, ℕ, Bool, List, [], ◌∷◌, ◌++◌, Option, Some, refl, arith, true, false, sym, ◌∙◌, ap, suc, inl, inr, append-nil}
use Rattle.std.specs.Prelude.{map, if◌then◌else◌}
use Rattle.btree_family.specs.declared.key.Key.{Key}
use Rattle.bucket_state.specs.declared.tree.Branch.{Branch}
use Rattle.btree_shapes.specs.declared.node.Node.{Node}
use Rattle.btree_family.specs.Keys.{is_below}
use Rattle.btree_shapes.specs.Nodes.{place_for}
use Rattle.btree_shapes.specs.Shapes.{Shape, Limb, oid_of, branch_of, EachLimb, joined, IsFrom, IsUpTo, Parted, Bounded, mapping_of, links_of, first_leaf}
use Rattle.btree_removing.specs.Items.{remove_item, cut_branch}
use Rattle.btree_family.specs.OrderLaws.{below_from}
use Rattle.btree_shapes.specs.BoundLaws.{from_wider, upto_wider}
use Rattle.btree_maps.proofs.Mappings.{within-mapping, within-joined}
use Rattle.btree_maps.proofs.RemoveItems.{remove_front, remove_back}
use Rattle.btree_maps.proofs.Wider.{bounded_to}
use Rattle.btree_shapes.specs.ChainLaws.{Avoids, In, Distinct, in_front, in_back, avoids_parts, distinct_front, distinct_back, distinct_parts}
use Rattle.btree_maps.proofs.Dropping.{cut_links, cut_front, cut_back}
use Rattle.btree_maps.proofs.Limbs.{ForKey, in_for_key, Fine}

pub place_end : (b : Branch) (bs : List Branch) (key : Key) → is_below key b.key ≡ true → place_for (b ∷ bs) key ≡ 0
place_end b bs key l = ap (λ t. if t then 0 else suc (place_for bs key)) l

pub place_more : (b : Branch) (bs : List Branch) (key : Key) → is_below key b.key ≡ false → place_for (b ∷ bs) key ≡ suc (place_for bs key)
place_more b bs key l = ap (λ t. if t then 0 else suc (place_for bs key)) l

-- a subtree that stays
pub record Shrunk (nodes' : ℕ → Option Node) (kind : ℕ) (key : Key) (to : ℕ) (e : Bool) (h : ℕ) (low high : Option Key) (first : ℕ) (s : Shape h) : Type 0 where
  pub after : Shape h
  pub oid : oid_of h after ≡ oid_of h s
  pub fine : Fine nodes' kind h after
  pub bounded : Bounded h low high after
  pub mapping : mapping_of h after ≡ remove_item (mapping_of h s) key
  pub first_is : first_leaf h after ≡ first
  pub links : links_of h after ≡ cut_links e to (links_of h s)

-- a subtree that leaves the tree
pub record Emptied (key : Key) (to : ℕ) (e : Bool) (h : ℕ) (s : Shape h) : Type 0 where
  pub mapping : remove_item (mapping_of h s) key ≡ []
  pub links : cut_links e to (links_of h s) ≡ []
  pub first : first_leaf h s ≡ to

-- children where the one on the way stays
pub record Stayed (nodes' : ℕ → Option Node) (kind : ℕ) (key : Key) (to : ℕ) (e : Bool) (h : ℕ) (low high : Option Key) (F : Shape h → ℕ) (c : Shape h) (ls : List (Limb (Shape h))) : Type 0 where
  pub head : Shape h
  pub tail : List (Limb (Shape h))
  pub oid : oid_of h head ≡ oid_of h c
  pub branches : map (branch_of h) tail ≡ map (branch_of h) ls
  pub fine_head : Fine nodes' kind h head
  pub fine_tail : EachLimb kind (Fine nodes' kind h) tail
  pub parted : Parted (Bounded h) low high head tail
  pub mapping : joined (mapping_of h) head tail ≡ remove_item (joined (mapping_of h) c ls) key
  pub first_here : place_for (map (branch_of h) ls) key ≡ 0 → first_leaf h head ≡ F c
  pub first_later : (i : ℕ) → place_for (map (branch_of h) ls) key ≡ suc i → first_leaf h head ≡ first_leaf h c
  pub links : joined (links_of h) head tail ≡ cut_links e to (joined (links_of h) c ls)

-- children where the one on the way leaves, and isn't the first
pub record CutOut (nodes' : ℕ → Option Node) (kind : ℕ) (key : Key) (to : ℕ) (e : Bool) (h : ℕ) (low high : Option Key) (i : ℕ) (c : Shape h) (ls : List (Limb (Shape h))) : Type 0 where
  pub tail : List (Limb (Shape h))
  pub branches : map (branch_of h) tail ≡ cut_branch (map (branch_of h) ls) i
  pub fine_head : Fine nodes' kind h c
  pub fine_tail : EachLimb kind (Fine nodes' kind h) tail
  pub parted : Parted (Bounded h) low high c tail
  pub mapping : joined (mapping_of h) c tail ≡ remove_item (joined (mapping_of h) c ls) key
  pub links : joined (links_of h) c tail ≡ cut_links e to (joined (links_of h) c ls)

module _ (nodes nodes' : ℕ → Option Node) (kind : ℕ) (key : Key) (to : ℕ) (e : Bool) where
  abbrev pub Keeps : ℕ → Type 0
  Keeps h = (s : Shape h) → Fine nodes kind h s → Avoids to (links_of h s) → Fine nodes' kind h s

  pub kept : (h : ℕ) → Keeps h → (c : Shape h) (ls : List (Limb (Shape h))) → Fine nodes kind h c → EachLimb kind (Fine nodes kind h) ls → Avoids to (joined (links_of h) c ls) → Fine nodes' kind h c × EachLimb kind (Fine nodes' kind h) ls
  kept h keep c [] p q a = (keep c p a, tt)
  kept h keep c (x ∷ xs) p q a =
      let b = avoids_parts to (links_of h c) (joined (links_of h) x.child xs) a in
      let r = kept h keep x.child xs q.1 q.2 b.1 in
      (keep c p b.0, (q.0, r.0, r.1))

  -- what is needed of the child on the way
  abbrev pub Each : (h : ℕ) → (Shape h → Type 0) → (Option Key → Option Key → Shape h → Type 0) → Type 0
  Each h P R = (low high : Option Key) (s : Shape h) → Fine nodes kind h s → Bounded h low high s → IsFrom low key → IsUpTo high key → Distinct (links_of h s) → P s → R low high s

  -- the child on the way stays
  pub stay_limbs : (h : ℕ) (P : Shape h → Type 0) (F : Shape h → ℕ) → ((s : Shape h) → P s → In to (links_of h s)) → Keeps h → Each h P (λ low high s. Shrunk nodes' kind key to e h low high (F s) s)
      → (low high : Option Key) (c : Shape h) (ls : List (Limb (Shape h))) → Fine nodes kind h c → EachLimb kind (Fine nodes kind h) ls → Parted (Bounded h) low high c ls → IsFrom low key → IsUpTo high key → Distinct (joined (links_of h) c ls) → ForKey P key c ls
      → Stayed nodes' kind key to e h low high F c ls
  stay_limbs h P F there keep each low high c [] p q b l t d fk =
      let r = each low high c p b l t d fk in
      record { head = r.after; tail = []; oid = r.oid; branches = refl; fine_head = r.fine; fine_tail = tt; parted = r.bounded; mapping = r.mapping; first_here = λ z. r.first_is; first_later = λ i z. absurd (omega (arith, z)); links = r.links }
  stay_limbs h P F there keep each low high c (x ∷ xs) p q b l t d (inl fk) =
      let rest = joined (links_of h) x.child xs in
      let items = joined (mapping_of h) x.child xs in
      let ds = distinct_parts (links_of h c) rest d in
      let r = each low (Some x.key) c p b.2 l fk.0 ds.0 fk.1 in
      let a = distinct_front to (links_of h c) rest d (there c fk.1) in
      let k = kept h keep x.child xs q.1 q.2 a in
      let z = place_end (branch_of h x) (map (branch_of h) xs) key fk.0 in
      record {
        head = r.after;
        tail = x ∷ xs;
        oid = r.oid;
        branches = refl;
        fine_head = r.fine;
        fine_tail = (q.0, k.0, k.1);
        parted = (b.0, b.1, r.bounded, b.3);
        mapping = ap (λ ys. ys ++ items) r.mapping ∙ sym (remove_front x.key high (mapping_of h c) items key (within-joined (Bounded h) (mapping_of h) (within-mapping h) (Some x.key) high x.child xs b.3) fk.0);
        first_here = λ y. r.first_is;
        first_later = λ i y. absurd (omega (arith, z, y));
        links = ap (λ ys. ys ++ rest) r.links ∙ sym (cut_front e to (links_of h c) rest (there c fk.1));
      }
  stay_limbs h P F there keep each low high c (x ∷ xs) p q b l t d (inr fk) =
      let rest = joined (links_of h) x.child xs in
      let items = joined (mapping_of h) x.child xs in
      let ds = distinct_parts (links_of h c) rest d in
      let r = stay_limbs h P F there keep each (Some x.key) high x.child xs q.1 q.2 b.3 fk.0 t ds.1 fk.1 in
      let a = distinct_back to (links_of h c) rest d (in_for_key P (links_of h) to key x.child xs there fk.1) in
      let z = place_more (branch_of h x) (map (branch_of h) xs) key fk.0 in
      record {
        head = c;
        tail = record { key = x.key; child = r.head } ∷ r.tail;
        oid = refl;
        branches = ap (λ o. record { key = x.key; child = o } ∷ map (branch_of h) r.tail) r.oid ∙ ap (λ bs. branch_of h x ∷ bs) r.branches;
        fine_head = keep c p a;
        fine_tail = (q.0, r.fine_head, r.fine_tail);
        parted = (b.0, b.1, b.2, r.parted);
        mapping = ap (λ ys. mapping_of h c ++ ys) r.mapping ∙ sym (remove_back low x.key (mapping_of h c) items key (within-mapping h low (Some x.key) c b.2) fk.0);
        first_here = λ y. absurd (omega (arith, z, y));
        first_later = λ i y. refl;
        links = ap (λ ys. links_of h c ++ ys) r.links ∙ sym (cut_back e to (links_of h c) rest a);
      }

  -- the child on the way leaves, and the separator before it
  pub out_limbs : (h : ℕ) (P : Shape h → Type 0) → ((s : Shape h) → P s → In to (links_of h s)) → Keeps h → Each h P (λ low high s. Emptied key to e h s)
      → (low high : Option Key) (c : Shape h) (x : Limb (Shape h)) (xs : List (Limb (Shape h))) → Fine nodes kind h c → EachLimb kind (Fine nodes kind h) (x ∷ xs) → Parted (Bounded h) low high c (x ∷ xs) → IsUpTo high key → Distinct (joined (links_of h) c (x ∷ xs)) → is_below key x.key ≡ false → ForKey P key x.child xs
      → CutOut nodes' kind key to e h low high (place_for (map (branch_of h) xs) key) c (x ∷ xs)
  out_limbs h P there keep each low high c x [] p q b t d g fk =
      let r = each (Some x.key) high x.child q.1 b.3 g t (distinct_parts (links_of h c) (links_of h x.child) d).1 fk in
      let a = distinct_back to (links_of h c) (links_of h x.child) d (there x.child fk) in
      record {
        tail = [];
        branches = refl;
        fine_head = keep c p a;
        fine_tail = tt;
        parted = bounded_to h low (Some x.key) high c (λ k u. upto_wider high x.key k b.1 u) b.2;
        mapping = sym (remove_back low x.key (mapping_of h c) (mapping_of h x.child) key (within-mapping h low (Some x.key) c b.2) g ∙ ap (λ ys. mapping_of h c ++ ys) r.mapping ∙ append-nil (mapping_of h c));
        links = sym (cut_back e to (links_of h c) (links_of h x.child) a ∙ ap (λ ys. links_of h c ++ ys) r.links ∙ append-nil (links_of h c));
      }
  out_limbs h P there keep each low high c x (y ∷ ys) p q b t d g (inl fk) =
      let rest = joined (links_of h) y.child ys in
      let items = joined (mapping_of h) y.child ys in
      let dd = distinct_parts (links_of h c) (links_of h x.child ++ rest) d in
      let r = each (Some x.key) (Some y.key) x.child q.1 b.3.2 g fk.0 (distinct_parts (links_of h x.child) rest dd.1).0 fk.1 in
      let i = there x.child fk.1 in
      let a = distinct_back to (links_of h c) (links_of h x.child ++ rest) d (in_front to (links_of h x.child) rest i) in
      let a' = distinct_front to (links_of h x.child) rest dd.1 i in
      let k = kept h keep y.child ys q.2.1 q.2.2 a' in
      let z = place_end (branch_of h y) (map (branch_of h) ys) key fk.0 in
      let w = within-joined (Bounded h) (mapping_of h) (within-mapping h) (Some y.key) high y.child ys b.3.3 in
      rw z (record {
        tail = y ∷ ys;
        branches = refl;
        fine_head = keep c p a;
        fine_tail = (q.2.0, k.0, k.1);
        parted = (from_wider low x.key y.key b.0 b.3.0, b.3.1, bounded_to h low (Some x.key) (Some y.key) c (λ k u. below_from k x.key y.key u b.3.0) b.2, b.3.3);
        mapping = sym (remove_back low x.key (mapping_of h c) (mapping_of h x.child ++ items) key (within-mapping h low (Some x.key) c b.2) g ∙ ap (λ zs. mapping_of h c ++ zs) (remove_front y.key high (mapping_of h x.child) items key w fk.0 ∙ ap (λ zs. zs ++ items) r.mapping));
        links = sym (cut_back e to (links_of h c) (links_of h x.child ++ rest) a ∙ ap (λ zs. links_of h c ++ zs) (cut_front e to (links_of h x.child) rest i ∙ ap (λ zs. zs ++ rest) r.links));
      })
  out_limbs h P there keep each low high c x (y ∷ ys) p q b t d g (inr fk) =
      let rest = joined (links_of h) x.child (y ∷ ys) in
      let dd = distinct_parts (links_of h c) rest d in
      let r = out_limbs h P there keep each (Some x.key) high x.child y ys q.1 q.2 b.3 t dd.1 fk.0 fk.1 in
      let i = in_back to (links_of h x.child) (joined (links_of h) y.child ys) (in_for_key P (links_of h) to key y.child ys there fk.1) in
      let a = distinct_back to (links_of h c) rest d i in
      let z = place_more (branch_of h y) (map (branch_of h) ys) key fk.0 in
      rw z (record {
        tail = x ∷ r.tail;
        branches = ap (λ bs. branch_of h x ∷ bs) r.branches;
        fine_head = keep c p a;
        fine_tail = (q.0, r.fine_head, r.fine_tail);
        parted = (b.0, b.1, b.2, r.parted);
        mapping = ap (λ zs. mapping_of h c ++ zs) r.mapping ∙ sym (remove_back low x.key (mapping_of h c) (joined (mapping_of h) x.child (y ∷ ys)) key (within-mapping h low (Some x.key) c b.2) g);
        links = ap (λ zs. links_of h c ++ zs) r.links ∙ sym (cut_back e to (links_of h c) rest a);
      })
