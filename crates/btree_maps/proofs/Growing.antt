-- A set that may split, for one object after another.
use Rattle.std.proofs.Common.{◌≡◌, ℕ, ◌<◌, true, List, [], ◌∷◌, ◌++◌, Option, Some, None, refl, arith, sym, ◌∙◌, ap, subst, suc, inl, inr}
use Rattle.std.specs.Prelude.{map, length}
use Rattle.btree_family.specs.declared.key.Key.{Key}
use Rattle.btree_family.specs.declared.bucket.Item.{Item}
use Rattle.btree_family.specs.Keys.{rank_of, is_below}
use Rattle.btree_family.specs.Buckets.{keys_of}
use Rattle.btree_family.specs.Rising.{is_key_above, Rises}
use Rattle.btree_shapes.specs.declared.node.Node.{Node}
use Rattle.btree_shapes.specs.Shapes.{Shape, Limb, oid_of, branch_of, EachLimb, joined, IsFrom, IsUpTo, AreWithin, AreOfKind, Parted, Bounded, mapping_of, links_of, first_leaf}
use Rattle.btree_setting.specs.Types.{Sprout}
use Rattle.btree_setting.specs.Inserting.{set_item}
use Rattle.btree_setting.specs.Changes.{branch_up}
use Rattle.btree_putting.specs.Puts.{leaf_node, inner_node}
use Rattle.btree_family.specs.OrderLaws.{from_below}
use Rattle.btree_maps.proofs.Mappings.{within-mapping, within-joined}
use Rattle.btree_maps.proofs.SetItems.{within_set, rises_set, kind_set, set_front, set_back, rises_any, rises_left, rises_right, within_left, within_right, bound_at, kind_left, kind_right}
use Rattle.btree_shapes.specs.ChainLaws.{Avoids, In, Distinct, avoids_parts, distinct_front, distinct_back, distinct_parts}
use Rattle.btree_maps.proofs.Chains.{relink, relink_here, relink_front, relink_back}
use Rattle.btree_maps.proofs.Limbs.{ForKey, in_for_key, sprout_of, sprouts_of, keys_up, insert_up, branches_up, sprouts_append, insert_before, insert_behind, rises_up, rises_parted, rises_cut, limbs_append, limbs_parts, parted_append, parted_at, parted_left, joined_append, Fine, fine_inner}

-- the new child is above a bound
abbrev pub UpAbove : Option Key → Option Sprout → Type 0
UpAbove low u = (up : Sprout) → u ≡ Some up → is_key_above low up.key ≡ true

-- children after the set: those before it, and behind the one for the key a new one where that was split
pub record Grown (nodes' : ℕ → Option Node) (kind : ℕ) (key : Key) (value : Option (List ℕ)) (to h : ℕ) (low high : Option Key) (u : Option Sprout) (c : Shape h) (ls : List (Limb (Shape h))) : Type 0 where
  pub head : Shape h
  pub tail : List (Limb (Shape h))
  pub oid : oid_of h head ≡ oid_of h c
  pub first : first_leaf h head ≡ first_leaf h c
  pub sprouts : sprouts_of h tail ≡ insert_up u key (sprouts_of h ls)
  pub rises : Rises None (keys_up (sprouts_of h tail))
  pub strict : UpAbove low u
  pub fine_head : Fine nodes' kind h head
  pub fine_tail : EachLimb kind (Fine nodes' kind h) tail
  pub parted : Parted (Bounded h) low high head tail
  pub mapping : joined (mapping_of h) head tail ≡ set_item (joined (mapping_of h) c ls) key value
  pub fresh : Option ℕ
  pub links : joined (links_of h) head tail ≡ relink to fresh (joined (links_of h) c ls)

keys_same : (low : Option Key) (xs ys : List Sprout) → xs ≡ ys → Rises low (keys_up ys) → Rises low (keys_up xs)
keys_same low xs ys e r = subst (λ zs. Rises low (keys_up zs)) (sym e) r

up_key : (v up : Sprout) → Some v ≡ Some up → up.key ≡ v.key
up_key v up i = let same : v ≡ up = cc in sym (ap (λ (x : Sprout). x.key) same)

module _ (nodes' : ℕ → Option Node) (kind : ℕ) (key : Key) (value : Option (List ℕ)) (to : ℕ) where
  abbrev pub Grows : (h : ℕ) → Option Key → Option Key → Option Sprout → Shape h → List (Limb (Shape h)) → Type 0
  Grows h low high u c ls = Grown nodes' kind key value to h low high u c ls

  -- the children of one object, from the child for the key
  pub grow_limbs : (h : ℕ) (u : Option Sprout) (O P : Shape h → Type 0) → ((s : Shape h) → P s → In to (links_of h s)) → ((s : Shape h) → O s → Avoids to (links_of h s) → Fine nodes' kind h s)
      → ((low high : Option Key) (s : Shape h) → O s → Bounded h low high s → IsFrom low key → IsUpTo high key → Distinct (links_of h s) → P s → Grows h low high u s [])
      → (low high : Option Key) (c : Shape h) (ls : List (Limb (Shape h))) → O c → EachLimb kind O ls → Parted (Bounded h) low high c ls → Rises None (keys_up (sprouts_of h ls)) → IsFrom low key → IsUpTo high key → Distinct (joined (links_of h) c ls) → ForKey P key c ls → Grows h low high u c ls
  grow_limbs h u O P there keep each low high c [] o os p rs f t d e = each low high c o p f t d e
  grow_limbs h u O P there keep each low high c (x ∷ xs) o os p rs f t d (inl e) =
      let rest = joined (links_of h) x.child xs in
      let ds = distinct_parts (links_of h c) rest d in
      let r = each low (Some x.key) c o p.2 f e.0 ds.0 e.1 in
      let a = distinct_front to (links_of h c) rest d (there c e.1) in
      let k = kept x.child xs os.1 os.2 a in
      record {
        head = r.head;
        tail = r.tail ++ x ∷ xs;
        oid = r.oid;
        first = r.first;
        sprouts = sprouts_append h r.tail (x ∷ xs) ∙ ap (λ ys. ys ++ sprouts_of h (x ∷ xs)) r.sprouts ∙ insert_before u key (sprout_of h x) (sprouts_of h xs) e.0;
        rises = rises_parted h low None r.head r.tail x xs r.parted refl r.rises rs;
        strict = r.strict;
        fine_head = r.fine_head;
        fine_tail = limbs_append kind (Fine nodes' kind h) r.tail (x ∷ xs) r.fine_tail (os.0, k.0, k.1);
        parted = parted_append (Bounded h) low high r.head r.tail x xs p.0 p.1 r.parted p.3;
        mapping = joined_append (mapping_of h) r.head r.tail x xs ∙ ap (λ ys. ys ++ joined (mapping_of h) x.child xs) r.mapping ∙ sym (set_front x.key high (mapping_of h c) (joined (mapping_of h) x.child xs) key value (within-joined (Bounded h) (mapping_of h) (within-mapping h) (Some x.key) high x.child xs p.3) e.0);
        fresh = r.fresh;
        links = joined_append (links_of h) r.head r.tail x xs ∙ ap (λ ys. ys ++ rest) r.links ∙ sym (relink_front to r.fresh (links_of h c) rest (there c e.1) d);
      } where
        kept : (c : Shape h) (ls : List (Limb (Shape h))) → O c → EachLimb kind O ls → Avoids to (joined (links_of h) c ls) → Fine nodes' kind h c × EachLimb kind (Fine nodes' kind h) ls
        kept c [] o os a = (keep c o a, tt)
        kept c (y ∷ ys) o os a =
            let b = avoids_parts to (links_of h c) (joined (links_of h) y.child ys) a in
            let r = kept y.child ys os.1 os.2 b.1 in
            (keep c o b.0, (os.0, r.0, r.1))
  grow_limbs h u O P there keep each low high c (x ∷ xs) o os p rs f t d (inr e) =
      let rest = joined (links_of h) x.child xs in
      let ds = distinct_parts (links_of h c) rest d in
      let r = grow_limbs h u O P there keep each (Some x.key) high x.child xs os.1 os.2 p.3 (rises_any (Some x.key) (keys_up (sprouts_of h xs)) rs.1) e.0 t ds.1 e.1 in
      let a = distinct_back to (links_of h c) rest d (in_for_key P (links_of h) to key x.child xs there e.1) in
      let w = within-mapping h low (Some x.key) c p.2 in
      let above : Rises (Some x.key) (keys_up (insert_up u key (sprouts_of h xs))) = rises_up u x.key key (sprouts_of h xs) r.strict rs.1 (keys_same None (insert_up u key (sprouts_of h xs)) (sprouts_of h r.tail) (sym r.sprouts) r.rises) in
      record {
        head = c;
        tail = record { key = x.key; child = r.head } ∷ r.tail;
        oid = refl;
        first = refl;
        sprouts = (rw (r.oid, r.first, r.sprouts) refl) ∙ insert_behind u key (sprout_of h x) (sprouts_of h xs) e.0;
        rises = (refl, keys_same (Some x.key) (sprouts_of h r.tail) (insert_up u key (sprouts_of h xs)) r.sprouts above);
        strict = λ up i. above_from low x.key up.key p.0 (r.strict up i);
        fine_head = keep c o a;
        fine_tail = (os.0, r.fine_head, r.fine_tail);
        parted = (p.0, p.1, p.2, r.parted);
        mapping = ap (λ ys. mapping_of h c ++ ys) r.mapping ∙ sym (set_back low x.key (mapping_of h c) (joined (mapping_of h) x.child xs) key value w e.0);
        fresh = r.fresh;
        links = ap (λ ys. links_of h c ++ ys) r.links ∙ sym (relink_back to r.fresh (links_of h c) rest a);
      } where
        above_from : (low : Option Key) (mid k : Key) → IsFrom low mid → is_below mid k ≡ true → is_key_above low k ≡ true
        above_from None mid k f b = refl
        above_from (Some low) mid k f b = from_below low mid k f b

  -- an object whose children fit
  pub grow_fits : (h : ℕ) (low high : Option Key) (s : Shape (suc h)) (u : Option Sprout) → Grows h low high u s.head s.tail
      → nodes' s.oid ≡ Some (inner_node (oid_of h s.head) (map branch_up (insert_up u key (sprouts_of h s.tail))) s.first)
      → s.first ≡ first_leaf h s.head → Grows (suc h) low high None s []
  grow_fits h low high s u r e n =
      let here : Shape (suc h) = record { oid = s.oid; head = r.head; tail = r.tail; first = s.first } in
      let tails : map branch_up (insert_up u key (sprouts_of h s.tail)) ≡ map (branch_of h) r.tail = ap (map branch_up) (sym r.sprouts) ∙ sym (branches_up h r.tail) in
      let stands : nodes' s.oid ≡ Some (inner_node (oid_of h r.head) (map (branch_of h) r.tail) s.first) =
      e ∙ ap (λ bs. Some (inner_node (oid_of h s.head) bs s.first)) tails ∙ ap (λ o. Some (inner_node o (map (branch_of h) r.tail) s.first)) (sym r.oid) in
      record {
        head = here;
        tail = [];
        oid = refl;
        first = r.first;
        sprouts = refl;
        rises = tt;
        strict = λ up i. absurd cc;
        fine_head = fine_inner nodes' kind h here stands (n ∙ sym r.first) r.fine_head r.fine_tail;
        fine_tail = tt;
        parted = r.parted;
        mapping = r.mapping;
        fresh = r.fresh;
        links = r.links;
      }

  first_above : (h : ℕ) (low high : Option Key) (c : Shape h) (ls : List (Limb (Shape h))) (m : Limb (Shape h)) (ms : List (Limb (Shape h))) → 0 < length ls → Rises None (keys_up (sprouts_of h (ls ++ m ∷ ms))) → Parted (Bounded h) low high c (ls ++ m ∷ ms) → is_key_above low m.key ≡ true
  first_above h low high c [] m ms l r p = absurd (omega (arith, l))
  first_above h None high c (x ∷ xs) m ms l r p = refl
  first_above h (Some low) high c (x ∷ xs) m ms l r p = from_below low x.key m.key p.0 (rises_cut h None x xs m ms r)

  -- an object whose children are parted between it and a new one
  pub grow_splits : (h : ℕ) (low high : Option Key) (s : Shape (suc h)) (u : Option Sprout) (o first : ℕ) (ls : List (Limb (Shape h))) (m : Limb (Shape h)) (ms : List (Limb (Shape h))) → (r : Grows h low high u s.head s.tail)
      → r.tail ≡ ls ++ m ∷ ms → 0 < length ls → first ≡ first_leaf h m.child
      → nodes' s.oid ≡ Some (inner_node (oid_of h s.head) (map (branch_of h) ls) s.first)
      → nodes' o ≡ Some (inner_node (oid_of h m.child) (map (branch_of h) ms) first)
      → s.first ≡ first_leaf h s.head → Grows (suc h) low high (Some (record { key = m.key; child = o; first = first })) s []
  grow_splits h low high s u o first ls m ms r cut some is e e' n =
      let left : Shape (suc h) = record { oid = s.oid; head = r.head; tail = ls; first = s.first } in
      let right : Shape (suc h) = record { oid = o; head = m.child; tail = ms; first = first } in
      let rs : Rises None (keys_up (sprouts_of h (ls ++ m ∷ ms))) = subst (λ ts. Rises None (keys_up (sprouts_of h ts))) cut r.rises in
      let pt : Parted (Bounded h) low high r.head (ls ++ m ∷ ms) = subst (λ ts. Parted (Bounded h) low high r.head ts) cut r.parted in
      let fs = limbs_parts kind (Fine nodes' kind h) ls m ms (subst (EachLimb kind (Fine nodes' kind h)) cut r.fine_tail) in
      let at = parted_at (Bounded h) low high r.head ls m ms pt in
      let stands : nodes' s.oid ≡ Some (inner_node (oid_of h r.head) (map (branch_of h) ls) s.first) = e ∙ ap (λ o. Some (inner_node o (map (branch_of h) ls) s.first)) (sym r.oid) in
      record {
        head = left;
        tail = record { key = m.key; child = right } ∷ [];
        oid = refl;
        first = r.first;
        sprouts = ap (λ f. record { key = m.key; child = o; first = f } ∷ []) (sym is);
        rises = (refl, tt);
        strict = λ up i. ap (is_key_above low) (up_key (record { key = m.key; child = o; first = first }) up i) ∙ first_above h low high r.head ls m ms some rs pt;
        fine_head = fine_inner nodes' kind h left stands (n ∙ sym r.first) r.fine_head fs.0;
        fine_tail = (fs.1, fine_inner nodes' kind h right e' is fs.2 fs.3, tt);
        parted = (at.0, at.1, parted_left h low high None r.head ls m ms rs pt, at.2);
        mapping = sym (joined_append (mapping_of h) r.head ls m ms) ∙ ap (joined (mapping_of h) r.head) (sym cut) ∙ r.mapping;
        fresh = r.fresh;
        links = sym (joined_append (links_of h) r.head ls m ms) ∙ ap (joined (links_of h) r.head) (sym cut) ∙ r.links;
      }

  -- a leaf that fits
  pub grow_whole : (low high : Option Key) (s : Shape 0) → Bounded 0 low high s → AreOfKind kind s.items → IsFrom low key → IsUpTo high key → rank_of key ≡ kind
      → nodes' s.oid ≡ Some (leaf_node (set_item s.items key value) s.next) → Grows 0 low high None s []
  grow_whole low high s b k f t r e = record {
    head = record { oid = s.oid; items = set_item s.items key value; next = s.next };
    tail = [];
    oid = refl;
    first = refl;
    sprouts = refl;
    rises = tt;
    strict = λ up i. absurd cc;
    fine_head = (e, tt, kind_set kind s.items key value r k);
    fine_tail = tt;
    parted = (rises_set None s.items key value refl b.0, within_set low high s.items key value f t b.1);
    mapping = refl;
    fresh = None;
    links = refl;
  }

  item_above : (low high : Option Key) (xs : List Item) (y : Item) (ys : List Item) → 0 < length xs → AreWithin low (Some y.key) xs → is_key_above low y.key ≡ true
  item_above low high [] y ys l w = absurd (omega (arith, l))
  item_above None high (x ∷ xs) y ys l w = refl
  item_above (Some low) high (x ∷ xs) y ys l w = from_below low x.key y.key w.0 w.1

  -- a leaf whose items are parted between it and a new one
  pub grow_leaf : (low high : Option Key) (s : Shape 0) (o : ℕ) (xs : List Item) (y : Item) (ys : List Item)
      → Bounded 0 low high s → AreOfKind kind s.items → IsFrom low key → IsUpTo high key → rank_of key ≡ kind
      → set_item s.items key value ≡ xs ++ y ∷ ys → 0 < length xs
      → nodes' s.oid ≡ Some (leaf_node xs (Some o)) → nodes' o ≡ Some (leaf_node (y ∷ ys) s.next)
      → s.oid ≡ to → Grows 0 low high (Some (record { key = y.key; child = o; first = o })) s []
  grow_leaf low high s o xs y ys b k f t r cut some e e' here =
      let rs : Rises None (keys_of (xs ++ y ∷ ys)) = subst (λ zs. Rises None (keys_of zs)) cut (rises_set None s.items key value refl b.0) in
      let ws : AreWithin low high (xs ++ y ∷ ys) = subst (AreWithin low high) cut (within_set low high s.items key value f t b.1) in
      let ks : AreOfKind kind (xs ++ y ∷ ys) = subst (AreOfKind kind) cut (kind_set kind s.items key value r k) in
      let at = bound_at low high xs y ys ws in
      let left = within_left low high None xs y ys rs ws in
      let kr = kind_right kind xs y ys ks in
      record {
        head = record { oid = s.oid; items = xs; next = Some o };
        tail = record { key = y.key; child = record { oid = o; items = y ∷ ys; next = s.next } } ∷ [];
        oid = refl;
        first = refl;
        sprouts = refl;
        rises = (refl, tt);
        strict = λ up i. ap (is_key_above low) (up_key (record { key = y.key; child = o; first = o }) up i) ∙ item_above low high xs y ys some left;
        fine_head = (e, tt, kind_left kind xs y ys ks);
        fine_tail = (kr.0, (e', tt, kr), tt);
        parted = (at.0, at.1, (rises_left None xs y ys rs, left), (rises_right None xs y ys rs, within_right low high None xs y ys rs ws));
        mapping = sym cut;
        fresh = Some o;
        links = sym (relink_here to o (record { oid = s.oid; next = s.next }) [] here);
      }
