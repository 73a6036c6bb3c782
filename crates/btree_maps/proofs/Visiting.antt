-- Walks over sound trees.
use Rattle.std.proofs.Common.{◌≡◌, ℕ, ◌+◌, ◌-◌, ◌<◌, ◌^◌, Bool, true, false, List, [], ◌∷◌, ◌++◌, Option, Some, None, Result, Ok, Err, refl, arith, sym, ◌∙◌, ap, subst, zero, suc, inl, inr, append-nil, drop, take}
use Rattle.std.specs.Prelude.{map, if◌then◌else◌, not, ◌&&◌}
use Rattle.pickle_graph.specs.Graph.{Graph}
use Rattle.btree_family.specs.declared.key.Key.{Key}
use Rattle.btree_family.specs.declared.bucket.Item.{Item}
use Rattle.btree_family.specs.Keys.{rank_of, is_below}
use Rattle.bucket_state.specs.declared.tree.Inner.{Inner}
use Rattle.btree_shapes.specs.declared.error.TreeError.{TreeError}
use Rattle.btree_shapes.specs.declared.error.TreeError.TheVariants.{NotATree, BadKey}
use Rattle.btree_shapes.specs.declared.node.Node.{Node}
use Rattle.btree_shapes.specs.declared.node.Node.TheVariants as node
use Rattle.btree_maps.specs.declared.span.Span.{Span}
use Rattle.btree_maps.specs.declared.span.Span.TheVariants.{All, Within}
use Rattle.btree_shapes.specs.Nodes.{Held, Holds, class_held, objects_of}
use Rattle.btree_shapes.specs.Ways.{stands_in, Answers, family_key}
use Rattle.btree_maps.specs.Visits.{ends_suit, takes, items_within, child_of, and_then, in_turn, visit_node, visit_held, visit, visited, items_under, range_under}
use Rattle.btree_shapes.specs.Nodes.{place_for}
use Rattle.btree_shapes.specs.Shapes.{Shape, Limb, oid_of, branch_of, EachChild, EachLimb, joined, AreWithin, Parted, Bounded, OfKind, mapping_of, nodes_in, Stands, IsTree}
use Rattle.btree_family.specs.OrderLaws.{below_or, below_from}
use Rattle.btree_maps.proofs.Mappings.{within-mapping, within-joined}
use Rattle.btree_maps.proofs.Walks.{visit_suc}
use Rattle.btree_maps.proofs.Reaching.{Higher, higher_less, not_twice, held_as, items_kind, limbs_kind}

-- ---- what is taken of lists

and_false : (b : Bool) → (b && false) ≡ false
and_false true = refl
and_false false = refl

taken : (span : Span) (x : Item) (xs : List Item) (b : Bool) → takes span x.key ≡ b → items_within span (x ∷ xs) ≡ (if b then x ∷ items_within span xs else items_within span xs)
taken span x xs b e = ap (λ t. if t then x ∷ items_within span xs else items_within span xs) e

pub all_taken : (xs : List Item) → items_within All xs ≡ xs
all_taken [] = refl
all_taken (x ∷ xs) = ap (λ ys. x ∷ ys) (all_taken xs)

taken_if : (b : Bool) (x : Item) (xs ys : List Item) → (if b then x ∷ (xs ++ ys) else xs ++ ys) ≡ (if b then x ∷ xs else xs) ++ ys
taken_if true x xs ys = refl
taken_if false x xs ys = refl

pub taken-append : (span : Span) (xs ys : List Item) → items_within span (xs ++ ys) ≡ items_within span xs ++ items_within span ys
taken-append span [] ys = refl
taken-append span (x ∷ xs) ys =
    ap (λ zs. if takes span x.key then x ∷ zs else zs) (taken-append span xs ys) ∙ taken_if (takes span x.key) x (items_within span xs) (items_within span ys)

low_out : (lo hi key : Key) → is_below key lo ≡ true → takes (Within lo hi) key ≡ false
low_out lo hi key e = ap (λ b. not b && not (is_below hi key)) e

high_out : (lo hi key : Key) → is_below hi key ≡ true → takes (Within lo hi) key ≡ false
high_out lo hi key e = ap (λ b. not (is_below key lo) && not b) e ∙ and_false (not (is_below key lo))

none_below : (lo hi high : Key) (low : Option Key) (xs : List Item) → AreWithin low (Some high) xs → is_below lo high ≡ false → items_within (Within lo hi) xs ≡ []
none_below lo hi high low [] w l = refl
none_below lo hi high low (x ∷ xs) w l =
    taken (Within lo hi) x xs false (low_out lo hi x.key (below_from x.key high lo w.1 l)) ∙ none_below lo hi high low xs w.2 l

none_above : (lo hi low : Key) (high : Option Key) (xs : List Item) → AreWithin (Some low) high xs → is_below hi low ≡ true → items_within (Within lo hi) xs ≡ []
none_above lo hi low high [] w l = refl
none_above lo hi low high (x ∷ xs) w l =
    taken (Within lo hi) x xs false (high_out lo hi x.key (below_from hi low x.key l w.0)) ∙ none_above lo hi low high xs w.2 l

none_crossed : (lo hi : Key) (xs : List Item) → is_below hi lo ≡ true → items_within (Within lo hi) xs ≡ []
none_crossed lo hi [] l = refl
none_crossed lo hi (x ∷ xs) l = elim (below_or x.key lo) [
  | inl less ↦ taken (Within lo hi) x xs false (low_out lo hi x.key less) ∙ none_crossed lo hi xs l
  | inr from ↦ taken (Within lo hi) x xs false (high_out lo hi x.key (below_from hi lo x.key l from)) ∙ none_crossed lo hi xs l
]

-- ---- places of children

place_at : (key : Key) (h : ℕ) (l : Limb (Shape h)) (ls : List (Limb (Shape h))) (b : Bool) → is_below key l.key ≡ b → place_for (map (branch_of h) (l ∷ ls)) key ≡ (if b then 0 else suc (place_for (map (branch_of h) ls) key))
place_at key h l ls b e = ap (λ t. if t then 0 else suc (place_for (map (branch_of h) ls) key)) e

place_zero : (h : ℕ) (low key : Key) (high : Option Key) (c : Shape h) (ls : List (Limb (Shape h))) → Parted (Bounded h) (Some low) high c ls → is_below key low ≡ true → place_for (map (branch_of h) ls) key ≡ 0
place_zero h low key high c [] p l = refl
place_zero h low key high c (x ∷ xs) p l = place_at key h x xs true (below_from key low x.key l p.0)

drop_none : (n : ℕ) (xs : List ℕ) → xs ≡ [] → drop n xs ≡ []
drop_none zero [] e = refl
drop_none (suc n) [] e = refl
drop_none n (x ∷ xs) e = let bad : ⊥ = cc in absurd bad

-- ---- walks

visit_at : (span : Span) (d : ℕ) (objects : ℕ → Held) (way : List ℕ) (o : ℕ) (class : Graph) (n : Node) → stands_in way o ≡ false → objects o ≡ Holds class n → ends_suit span n ≡ true → visit true span (suc d) objects way o ≡ visit_node span (visit true span d objects (o ∷ way)) n
visit_at span d objects way o class n s h t =
    visit_suc true span d objects way o
    ∙ ap (λ b. if b then Err (NotATree o) else visit_held true span (visit true span d objects (o ∷ way)) o (objects o)) s
    ∙ ap (visit_held true span (visit true span d objects (o ∷ way)) o) h
    ∙ ap (λ b. if b then visit_node span (visit true span d objects (o ∷ way)) n else Err BadKey) t

all_limbs : (h : ℕ) (nodes : ℕ → Option Node) (g : ℕ → Result (List Item) TreeError) → ((s : Shape h) → Stands nodes h s → g (oid_of h s) ≡ Ok (mapping_of h s)) → (c : Shape h) (ls : List (Limb (Shape h))) → Stands nodes h c → EachChild (Stands nodes h) ls → in_turn g (oid_of h c ∷ map child_of (map (branch_of h) ls)) ≡ Ok (joined (mapping_of h) c ls)
all_limbs h nodes g each c [] p q = ap (λ r. and_then r (Ok [])) (each c p) ∙ ap Ok (append-nil (mapping_of h c))
all_limbs h nodes g each c (l ∷ ls) p q = rw (each c p, all_limbs h nodes g each l.child ls q.0 q.1) refl

all_shape : (objects : ℕ → Held) (h d : ℕ) (s : Shape h) (way : List ℕ) → h < d → Stands (nodes_in objects) h s → Higher (nodes_in objects) way h → visit true All d objects way (oid_of h s) ≡ Ok (mapping_of h s)
all_shape objects h zero s way l st a = absurd (omega arith)
all_shape objects zero (suc d) s way l st a =
    let leaf : Node = node.Leaf (record { items = s.items; next = s.next }) in
    let held = held_as (objects s.oid) leaf st in
    visit_at All d objects way s.oid held.0 leaf (not_twice (nodes_in objects) way s.oid 0 s refl st a) held.1 refl ∙ ap Ok (all_taken s.items)
all_shape objects (suc h) (suc d) s way l st a =
    let inner : Inner = record { head = oid_of h s.head; tail = map (branch_of h) s.tail; first = s.first } in
    let held = held_as (objects s.oid) (node.Inner inner) st.0 in
    let a' : Higher (nodes_in objects) (s.oid ∷ way) h = ((suc h, s, refl, st, omega arith), higher_less (nodes_in objects) way (suc h) h (omega arith) a) in
    visit_at All d objects way s.oid held.0 (node.Inner inner) (not_twice (nodes_in objects) way s.oid (suc h) s refl st a) held.1 refl
    ∙ all_limbs h (nodes_in objects) (visit true All d objects (s.oid ∷ way)) (λ t p. all_shape objects h d t (s.oid ∷ way) (omega arith) p a') s.head s.tail st.1 st.2

items_in_tree : (objects : ℕ → Held) (root kind : ℕ) (m : List Item) → IsTree objects root kind m → visited true All objects root ≡ Ok m
items_in_tree objects root kind m (inl i) =
    let lone : Node = node.Lone (record { items = m; next = None }) in
    let held = held_as (objects root) lone i.stands in
    visit_at All (2 ^ 64 - 1) objects [] root held.0 lone refl held.1 refl ∙ ap Ok (all_taken m)
items_in_tree objects root kind m (inr (h, s, i, e)) = ap (visit true All (2 ^ 64) objects []) (sym i.root_is) ∙ all_shape objects h (2 ^ 64) s [] i.height i.stands tt ∙ ap Ok (sym e)

pub items_of_tree : (contents : ℕ → Option (List ℕ)) (root kind : ℕ) (m : List Item) (result : Result (List Item) TreeError) → IsTree (objects_of contents root) root kind m → Answers result (items_under contents root) → Answers result (Ok m)
items_of_tree contents root kind m result t a = subst (Answers result) (items_in_tree (objects_of contents root) root kind m t) a

-- ---- ranges

both : (a b : Bool) → a ≡ true → b ≡ true → (a && b) ≡ true
both a b p q = rw (p, q) refl

module _ (h kind : ℕ) (lo hi : Key) (nodes : ℕ → Option Node) (g : ℕ → Result (List Item) TreeError) (each : (s : Shape h) (low high : Option Key) → Stands nodes h s → Bounded h low high s → OfKind kind h s → g (oid_of h s) ≡ Ok (items_within (Within lo hi) (mapping_of h s))) where
  abbrev between : List Item → List Item
  between xs = items_within (Within lo hi) xs

  abbrev oids : Shape h → List (Limb (Shape h)) → List ℕ
  oids c ls = oid_of h c ∷ map child_of (map (branch_of h) ls)

  range_limbs : (low high : Option Key) (a b : ℕ) (c : Shape h) (ls : List (Limb (Shape h))) → Stands nodes h c → EachChild (Stands nodes h) ls → Parted (Bounded h) low high c ls → OfKind kind h c → EachLimb kind (OfKind kind h) ls → a ≡ place_for (map (branch_of h) ls) lo → b ≡ place_for (map (branch_of h) ls) hi → in_turn g (drop a (take (suc b) (oids c ls))) ≡ Ok (between (joined (mapping_of h) c ls))
  range_limbs low high zero zero c [] st q p k ks x y = ap (λ r. and_then r (Ok [])) (each c low high st p k) ∙ ap Ok (append-nil (between (mapping_of h c)))
  range_limbs low high (suc a) b c [] st q p k ks x y = absurd (omega arith)
  range_limbs low high zero (suc b) c [] st q p k ks x y = absurd (omega arith)
  range_limbs low high a b c (l ∷ ls) st q p k ks x y =
      let rest = joined (mapping_of h) l.child ls in
      let w = within-joined (Bounded h) (mapping_of h) (within-mapping h) (Some l.key) high l.child ls p.3 in
      let parts = taken-append (Within lo hi) (mapping_of h c) rest in
      let here = each c low (Some l.key) st p.2 k in
      elim (below_or lo l.key) [
        | inl lt ↦
            let az : a ≡ 0 = x ∙ place_at lo h l ls true lt in
            elim (below_or hi l.key) [
              | inl ht ↦
                  let bz : b ≡ 0 = y ∙ place_at hi h l ls true ht in
                  rw (az, bz) (ap (λ r. and_then r (Ok [])) here ∙ ap (λ zs. Ok (between (mapping_of h c) ++ zs)) (sym (none_above lo hi l.key high rest w ht)) ∙ ap Ok (sym parts))
              | inr hm ↦
                  let bs : b ≡ suc (place_for (map (branch_of h) ls) hi) = y ∙ place_at hi h l ls false hm in
                  let z = place_zero h l.key lo high l.child ls p.3 lt in
                  let i = range_limbs (Some l.key) high 0 (place_for (map (branch_of h) ls) hi) l.child ls q.0 q.1 p.3 ks.1 ks.2 (sym z) refl in
                  rw (az, bs) (ap (λ r. and_then (g (oid_of h c)) r) i ∙ ap (λ r. and_then r (Ok (between rest))) here ∙ ap Ok (sym parts))
            ]
        | inr ge ↦
            let as' : a ≡ suc (place_for (map (branch_of h) ls) lo) = x ∙ place_at lo h l ls false ge in
            let none = none_below lo hi l.key low (mapping_of h c) (within-mapping h low (Some l.key) c p.2) ge in
            elim (below_or hi l.key) [
              | inl ht ↦
                  let bz : b ≡ 0 = y ∙ place_at hi h l ls true ht in
                  rw (as', bz) (ap (in_turn g) (drop_none (place_for (map (branch_of h) ls) lo) [] refl) ∙ ap Ok (sym (none_crossed lo hi (mapping_of h c ++ rest) (below_from hi l.key lo ht ge))))
              | inr hm ↦
                  let bs : b ≡ suc (place_for (map (branch_of h) ls) hi) = y ∙ place_at hi h l ls false hm in
                  let i = range_limbs (Some l.key) high (place_for (map (branch_of h) ls) lo) (place_for (map (branch_of h) ls) hi) l.child ls q.0 q.1 p.3 ks.1 ks.2 refl refl in
                  rw (as', bs) (i ∙ ap Ok (ap (λ zs. zs ++ between rest) (sym none) ∙ sym parts))
            ]
      ]

pub range_shape : (objects : ℕ → Held) (kind : ℕ) (lo hi : Key) (kl : rank_of lo ≡ kind) (kh : rank_of hi ≡ kind) (h d : ℕ) (low high : Option Key) (s : Shape h) (way : List ℕ) → h < d → Stands (nodes_in objects) h s → Bounded h low high s → OfKind kind h s → Higher (nodes_in objects) way h → visit true (Within lo hi) d objects way (oid_of h s) ≡ Ok (items_within (Within lo hi) (mapping_of h s))
range_shape objects kind lo hi kl kh h zero low high s way l st b k a = absurd (omega arith)
range_shape objects kind lo hi kl kh zero (suc d) low high s way l st b k a =
    let leaf : Node = node.Leaf (record { items = s.items; next = s.next }) in
    let held = held_as (objects s.oid) leaf st in
    visit_at (Within lo hi) d objects way s.oid held.0 leaf (not_twice (nodes_in objects) way s.oid 0 s refl st a) held.1 (both _ _ (items_kind kind lo s.items k kl) (items_kind kind hi s.items k kh))
range_shape objects kind lo hi kl kh (suc h) (suc d) low high s way l st b k a =
    let inner : Inner = record { head = oid_of h s.head; tail = map (branch_of h) s.tail; first = s.first } in
    let held = held_as (objects s.oid) (node.Inner inner) st.0 in
    let a' : Higher (nodes_in objects) (s.oid ∷ way) h = ((suc h, s, refl, st, omega arith), higher_less (nodes_in objects) way (suc h) h (omega arith) a) in
    let one : place_for (map (branch_of h) s.tail) hi + 1 ≡ suc (place_for (map (branch_of h) s.tail) hi) = omega arith in
    visit_at (Within lo hi) d objects way s.oid held.0 (node.Inner inner) (not_twice (nodes_in objects) way s.oid (suc h) s refl st a) held.1 (both _ _ (limbs_kind kind h lo s.tail k.1 kl) (limbs_kind kind h hi s.tail k.1 kh))
    ∙ ap (λ n. in_turn (visit true (Within lo hi) d objects (s.oid ∷ way)) (drop (place_for (map (branch_of h) s.tail) lo) (take n (oid_of h s.head ∷ map child_of (map (branch_of h) s.tail))))) one
    ∙ range_limbs h kind lo hi (nodes_in objects) (visit true (Within lo hi) d objects (s.oid ∷ way)) (λ t low' high' p b' k'. range_shape objects kind lo hi kl kh h d low' high' t (s.oid ∷ way) (omega arith) p b' k' a') low high (place_for (map (branch_of h) s.tail) lo) (place_for (map (branch_of h) s.tail) hi) s.head s.tail st.1 st.2 b k.0 k.1 refl refl

range_in_tree : (objects : ℕ → Held) (root kind : ℕ) (m : List Item) (lo hi : Key) → IsTree objects root kind m → rank_of lo ≡ kind → rank_of hi ≡ kind → visited true (Within lo hi) objects root ≡ Ok (items_within (Within lo hi) m)
range_in_tree objects root kind m lo hi (inl i) kl kh =
    let lone : Node = node.Lone (record { items = m; next = None }) in
    let held = held_as (objects root) lone i.stands in
    visit_at (Within lo hi) (2 ^ 64 - 1) objects [] root held.0 lone refl held.1 (both _ _ (items_kind kind lo m i.of_kind kl) (items_kind kind hi m i.of_kind kh))
range_in_tree objects root kind m lo hi (inr (h, s, i, e)) kl kh =
    ap (visit true (Within lo hi) (2 ^ 64) objects []) (sym i.root_is) ∙ range_shape objects kind lo hi kl kh h (2 ^ 64) None None s [] i.height i.stands i.bounded i.of_kind tt ∙ ap (λ xs. Ok (items_within (Within lo hi) xs)) (sym e)

pub range_of_tree : (contents : ℕ → Option (List ℕ)) (root kind : ℕ) (m : List Item) (lo hi : Key) (result : Result (List Item) TreeError) → IsTree (objects_of contents root) root kind m → rank_of lo ≡ kind → rank_of hi ≡ kind → family_key (class_held (contents root)) lo ≡ true → family_key (class_held (contents root)) hi ≡ true → Answers result (range_under contents root lo hi) → Answers result (Ok (items_within (Within lo hi) m))
range_of_tree contents root kind m lo hi result t kl kh fl fh a =
    let f : (family_key (class_held (contents root)) lo && family_key (class_held (contents root)) hi) ≡ true = both _ _ fl fh in
    subst (Answers result) (ap (λ fits. visited fits (Within lo hi) (objects_of contents root) root) f ∙ range_in_tree (objects_of contents root) root kind m lo hi t kl kh) a
