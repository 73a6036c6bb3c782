-- A shape one of whose leaves gets another link.
use Rattle.std.proofs.Common.{◌≡◌, ℕ, List, [], ◌∷◌, Option, Some, refl, sym, ◌∙◌, ap, subst, zero, suc, inl, inr}
use Rattle.std.specs.Prelude.{map, if◌then◌else◌, ◌==◌}
use Rattle.std.proofs.lemmas.Bool.{cases_eq}
use Rattle.btree_family.specs.declared.key.Key.{Key}
use Rattle.btree_family.specs.declared.bucket.Item.{Item}
use Rattle.btree_family.specs.Buckets.{BucketContents}
use Rattle.bucket_state.specs.declared.tree.Branch.{Branch}
use Rattle.bucket_state.specs.declared.tree.Inner.{Inner}
use Rattle.btree_shapes.specs.declared.node.Node.{Node}
use Rattle.btree_shapes.specs.declared.node.Node.TheVariants as node
use Rattle.btree_shapes.specs.Shapes.{LeafShape, Shape, Limb, oid_of, branch_of, EachLimb, joined, Parted, Bounded, mapping_of, links_of, first_leaf}
use Rattle.btree_setting.specs.Changes.{branch_up}
use Rattle.btree_putting.specs.Puts.{inner_node}
use Rattle.btree_removing.specs.Types.{Loss, Rung}
use Rattle.btree_maps.proofs.Dropping.{relink_one, map_append, next_other, next_same}
use Rattle.btree_maps.proofs.Limbs.{ForKey, sprouts_of, branches_up, Fine, fine_inner}
use Rattle.btree_maps.proofs.Rungs.{inner_of}
use Rattle.btree_maps.proofs.Losing.{HeadKnown, WayIn, fine_head, fine_tail}

abbrev leaf_with : ℕ → List Item → Option ℕ → LeafShape
leaf_with oid items next = record { oid = oid; items = items; next = next }

abbrev inner_with : ℕ → List Branch → ℕ → Inner
inner_with head tail first = record { head = head; tail = tail; first = first }

module _ (f f1 : ℕ → Option Node) (kind : ℕ) (key : Key) (known : Option ℕ) (base : Loss) (leaf : LeafShape) (p : ℕ) (nx : Option ℕ) (apart : leaf.oid ≡ p → ⊥)
    (inners : (q : ℕ) (i : Inner) → f q ≡ Some (node.Inner i) → f1 q ≡ Some (node.Inner i))
    (others : (q : ℕ) (l : BucketContents) → f q ≡ Some (node.Leaf l) → (q ≡ p → ⊥) → f1 q ≡ Some (node.Leaf l))
    (here : (l : BucketContents) → f p ≡ Some (node.Leaf l) → f1 p ≡ Some (node.Leaf (record { items = l.items; next = nx }))) where
  abbrev Way : (h : ℕ) → Shape h → List Rung → Type 0
  Way h s rungs = WayIn key known base leaf h s rungs

  pub record Relinked (h : ℕ) (s : Shape h) : Type 0 where
    pub after : Shape h
    pub oid : oid_of h after ≡ oid_of h s
    pub fine : Fine f1 kind h after
    pub bounded : (low high : Option Key) → Bounded h low high s → Bounded h low high after
    pub mapping : mapping_of h after ≡ mapping_of h s
    pub first : first_leaf h after ≡ first_leaf h s
    pub links : links_of h after ≡ map (relink_one p nx) (links_of h s)
    pub way : (rungs : List Rung) → Way h s rungs → Way h after rungs

  record RelinkedLimbs (h : ℕ) (c : Shape h) (ls : List (Limb (Shape h))) : Type 0 where
    head : Shape h
    tail : List (Limb (Shape h))
    oid : oid_of h head ≡ oid_of h c
    sprouts : sprouts_of h tail ≡ sprouts_of h ls
    fine_head : Fine f1 kind h head
    fine_tail : EachLimb kind (Fine f1 kind h) tail
    parted : (low high : Option Key) → Parted (Bounded h) low high c ls → Parted (Bounded h) low high head tail
    mapping : joined (mapping_of h) head tail ≡ joined (mapping_of h) c ls
    first : first_leaf h head ≡ first_leaf h c
    links : joined (links_of h) head tail ≡ map (relink_one p nx) (joined (links_of h) c ls)
    way : (rungs : List Rung) → ForKey (λ t. Way h t rungs) key c ls → ForKey (λ t. Way h t rungs) key head tail

  relink_limbs : (h : ℕ) → ((s : Shape h) → Fine f kind h s → Relinked h s) → (c : Shape h) (ls : List (Limb (Shape h))) → Fine f kind h c → EachLimb kind (Fine f kind h) ls → RelinkedLimbs h c ls
  relink_limbs h each c [] fc fs =
      let r = each c fc in
      record { head = r.after; tail = []; oid = r.oid; sprouts = refl; fine_head = r.fine; fine_tail = tt; parted = r.bounded; mapping = r.mapping; first = r.first; links = r.links; way = r.way }
  relink_limbs h each c (x ∷ xs) fc fs =
      let r = each c fc in
      let t = relink_limbs h each x.child xs fs.1 fs.2 in
      record {
        head = r.after;
        tail = record { key = x.key; child = t.head } ∷ t.tail;
        oid = r.oid;
        sprouts = (rw (t.oid, t.first, t.sprouts) refl);
        fine_head = r.fine;
        fine_tail = (fs.0, t.fine_head, t.fine_tail);
        parted = λ low high b. (b.0, b.1, r.bounded low (Some x.key) b.2, t.parted (Some x.key) high b.3);
        mapping = (rw (r.mapping, t.mapping) refl);
        first = r.first;
        links = (rw (r.links, t.links) refl) ∙ sym (map_append (relink_one p nx) (links_of h c) (joined (links_of h) x.child xs));
        way = λ rungs w. elim w [
          | inl a ↦ inl (a.0, r.way rungs a.1)
          | inr a ↦ inr (a.0, t.way rungs a.1)
        ];
      }

  leaf_cases : (s : Shape 0) → f s.oid ≡ Some (node.Leaf (record { items = s.items; next = s.next })) → f1 s.oid ≡ Some (node.Leaf (record { items = s.items; next = if s.oid == p then nx else s.next }))
  leaf_cases s st = elim (cases_eq s.oid p) [
    | inl e ↦
        let i = here (record { items = s.items; next = s.next }) (sym (ap f e) ∙ st) in
        ap f1 e ∙ i ∙ ap (λ z. Some (node.Leaf (record { items = s.items; next = z }))) (sym (next_same p nx s.next s.oid e))
    | inr n ↦
        let i = others s.oid (record { items = s.items; next = s.next }) st n in
        i ∙ ap (λ z. Some (node.Leaf (record { items = s.items; next = z }))) (sym (next_other p nx s.next s.oid n))
  ]

  leaf_way : (s : Shape 0) (rungs : List Rung) → Way 0 s rungs → Way 0 (leaf_with s.oid s.items (if s.oid == p then nx else s.next)) rungs
  leaf_way s [] w =
      let n : s.oid ≡ p → ⊥ = λ e. apart (ap (λ (z : LeafShape). z.oid) w ∙ e) in
      w ∙ ap (leaf_with s.oid s.items) (sym (next_other p nx s.next s.oid n))
  leaf_way s (x ∷ xs) w = absurd w

  pub relinked : (h : ℕ) (s : Shape h) → Fine f kind h s → Relinked h s
  relinked zero s fs = record {
    after = leaf_with s.oid s.items (if s.oid == p then nx else s.next);
    oid = refl;
    fine = (leaf_cases s fs.0, tt, fs.2);
    bounded = λ low high b. b;
    mapping = refl;
    first = refl;
    links = refl;
    way = leaf_way s;
  }
  relinked (suc h) s fs =
      let r = relink_limbs h (relinked h) s.head s.tail (fine_head f kind h s fs) (fine_tail f kind h s fs) in
      let after : Shape (suc h) = record { oid = s.oid; head = r.head; tail = r.tail; first = s.first } in
      let branches : map (branch_of h) s.tail ≡ map (branch_of h) r.tail = branches_up h s.tail ∙ ap (map branch_up) (sym r.sprouts) ∙ sym (branches_up h r.tail) in
      let inner : inner_of h s ≡ inner_of h after = ap (λ o. inner_with o (map (branch_of h) s.tail) s.first) (sym r.oid) ∙ ap (λ bs. inner_with (oid_of h r.head) bs s.first) branches in
      let stands : f1 s.oid ≡ Some (inner_node (oid_of h r.head) (map (branch_of h) r.tail) s.first) = inners s.oid (inner_of h s) fs.0.0 ∙ ap (λ i. Some (node.Inner i)) inner in
      record {
        after = after;
        oid = refl;
        fine = fine_inner f1 kind h after stands (fs.1.0 ∙ sym r.first) r.fine_head r.fine_tail;
        bounded = λ low high b. r.parted low high b;
        mapping = r.mapping;
        first = r.first;
        links = r.links;
        way = λ rungs w. on_way s after inner r.sprouts (λ xs v. r.way xs v) rungs w refl;
      } where
        on_way : (s after : Shape (suc h)) → inner_of h s ≡ inner_of h after → sprouts_of h after.tail ≡ sprouts_of h s.tail → ((xs : List Rung) → ForKey (λ t. Way h t xs) key s.head s.tail → ForKey (λ t. Way h t xs) key after.head after.tail) → (rungs : List Rung) → Way (suc h) s rungs → s.oid ≡ after.oid → Way (suc h) after rungs
        on_way s after i sp each [] w o = absurd w
        on_way s after i sp each (x ∷ xs) w o = (w.0 ∙ o, w.1 ∙ i, λ g. subst (HeadKnown key known) (sym sp) (w.2 g), each xs w.3)
