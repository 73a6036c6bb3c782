-- A sound tree is found sound.
use Rattle.std.proofs.Common.{◌≡◌, ℕ, ◌+◌, ◌<◌, zero, suc, Bool, true, false, List, [], ◌∷◌, ◌++◌, length, Option, Some, None, Result, Ok, ◌⊎◌, inl, inr, refl, arith, sym, ◌∙◌, ap, subst, append_assoc}
use Rattle.std.specs.Prelude.{map}
use Rattle.pickle_graph.specs.Graph.{Graph}
use Rattle.btree_family.specs.declared.key.Key.{Key}
use Rattle.bucket_state.specs.declared.tree.Inner.{Inner}
use Rattle.btree_family.specs.Buckets.{BucketContents}
use Rattle.btree_shapes.specs.declared.node.Node.{Node}
use Rattle.btree_shapes.specs.declared.node.Node.TheVariants as node
use Rattle.btree_shapes.specs.Nodes.{Held, Nothing, Foreign, Holds}
use Rattle.btree_shapes.specs.Shapes.{Shape, Limb, oid_of, branch_of, EachChild, EachLimb, joined, node_held, nodes_in, Stands, Parted, Bounded, OfKind, Link, links_of, mapping_of, first_leaf}
use Rattle.btree_checking.specs.declared.place.Place.{Place}
use Rattle.btree_checking.specs.declared.links.Pointer.{Pointer}
use Rattle.btree_checking.specs.declared.links.Pointer.TheVariants.{First}
use Rattle.btree_checking.specs.Rules.{Tour, was_visited, suits_depth, depth_with, with_visit, places_from}
use Rattle.btree_checking.specs.Walks.{Stop, and_then, in_turn, visit}
use Rattle.btree_shapes.specs.ChainLaws.{In, Distinct, avoids_in, distinct_front, distinct_parts}
use Rattle.btree_checking.proofs.Tests.{Agrees, same_numbers, none_broken, items_of_kind, limbs_of_kind, suit_agreed, agreed_with, items_within, parted_within}
use Rattle.btree_checking.proofs.Shaped.{visits_of, length-append, visited_parts, only_one, Among, among_more, among_back, among_shape, first_among}
use Rattle.btree_checking.proofs.Steps.{visit_right}

-- ---- one object has one height and one first leaf

abbrev head_in : Option Node → ℕ
head_in (Some (node.Inner i)) = i.head
head_in (Some (node.Leaf b)) = 0
head_in (Some (node.Lone b)) = 0
head_in None = 0

pub one_height : (nodes : ℕ → Option Node) (h h' : ℕ) (s : Shape h) (t : Shape h') → Stands nodes h s → Stands nodes h' t → oid_of h s ≡ oid_of h' t → (h ≡ h') × (first_leaf h s ≡ first_leaf h' t)
one_height nodes zero zero s t p q e = (refl, e)
one_height nodes zero (suc h') s t p q e = let bad : ⊥ = cc (p, q.0, e) in absurd bad
one_height nodes (suc h) zero s t p q e = let bad : ⊥ = cc (p.0, q, e) in absurd bad
one_height nodes (suc h) (suc h') s t p q e =
    let heads : oid_of h s.head ≡ oid_of h' t.head = ap head_in (sym p.0 ∙ ap nodes e ∙ q.0) in
    let r = one_height nodes h h' s.head t.head p.1 q.1 heads in
    (ap suc r.0, r.1)

pub held_as : (held : Held) (n : Node) → node_held held ≡ Some n → (class : Graph) × (held ≡ Holds class n)
held_as Nothing n e = absurd cc
held_as Foreign n e = absurd cc
held_as (Holds class m) n e = let same : m ≡ n = cc in (class, ap (Holds class) same)

-- ---- what was visited before stands above, or before

pub record Above (nodes : ℕ → Option Node) (h x : ℕ) : Type 0 where
  pub height : ℕ
  pub shape : Shape height
  pub is : oid_of height shape ≡ x
  pub stands : Stands nodes height shape
  pub higher : h < height

pub record Ready (nodes : ℕ → Option Node) (kind depth h : ℕ) (before : List Link) (tour : Tour) : Type 0 where
  pub kind_met : Agrees tour.kind kind
  pub depth_met : Agrees tour.depth depth
  pub passed : (x : ℕ) → was_visited tour.visits x ≡ true → Above nodes h x ⊎ Among nodes x before

by_test : (b : Bool) → (b ≡ true) ⊎ (b ≡ false)
by_test true = inl refl
by_test false = inr refl

not_visited : (nodes : ℕ → Option Node) (kind depth h : ℕ) (before : List Link) (tour : Tour) (s : Shape h) → Stands nodes h s → Distinct (before ++ links_of h s) → Ready nodes kind depth h before tour → was_visited tour.visits (oid_of h s) ≡ false
not_visited nodes kind depth h before tour s st d r = elim (by_test (was_visited tour.visits (oid_of h s))) [
  | inr no' ↦ no'
  | inl was ↦ elim (r.passed (oid_of h s) was) [
    | inl above ↦
        let e = (one_height nodes above.height h above.shape s above.stands st above.is).0 in
        let l = above.higher in
        absurd (omega (arith, e, l))
    | inr among ↦
        let e = (one_height nodes among.height h among.shape s among.stands st among.is).1 in
        let i : In (first_leaf h s) before = subst (λ o. In o before) e among.leaf in
        absurd (avoids_in (first_leaf h s) (links_of h s) (distinct_front (first_leaf h s) before (links_of h s) d i) (first_among h s))
  ]
]

-- ---- a part of the walk that meets no fault

pub record Toured (tour : Tour) (kind depth : ℕ) (visits : List (ℕ × Pointer)) (items : ℕ) (result : Result Tour Stop) : Type 0 where
  pub after : Tour
  pub is : result ≡ Ok after
  pub visited : after.visits ≡ tour.visits ++ visits
  pub counted : after.items ≡ tour.items + items
  pub kind_met : Agrees after.kind kind
  pub depth_met : Agrees after.depth depth

ready_next : (nodes : ℕ → Option Node) (kind depth h : ℕ) (before : List Link) (tour after : Tour) (s : Shape h) → Stands nodes h s → Ready nodes kind depth h before tour → after.visits ≡ tour.visits ++ visits_of h s → Agrees after.kind kind → Agrees after.depth depth → Ready nodes kind depth h (before ++ links_of h s) after
ready_next nodes kind depth h before tour after s st r v k d = record {
  kind_met = k;
  depth_met = d;
  passed = λ x w. elim (visited_parts tour.visits (visits_of h s) x (subst (λ vs. was_visited vs x ≡ true) v w)) [
    | inl was ↦ elim (r.passed x was) [
      | inl above ↦ inl above
      | inr among ↦ inr (among_more nodes x before (links_of h s) among)
    ]
    | inr is ↦ inr (among_back nodes x before (links_of h s) (among_shape nodes h x s st is))
  ];
}

depth_leaf : (met : Option ℕ) (level depth : ℕ) (b : BucketContents) → Agrees met depth → level ≡ depth → Agrees (depth_with met level (node.Leaf b)) depth
depth_leaf None level depth b a e = e
depth_leaf (Some d) level depth b a e = a

suits_leaf : (met : Option ℕ) (level depth : ℕ) (b : BucketContents) → Agrees met depth → level ≡ depth → suits_depth met level (node.Leaf b) ≡ true
suits_leaf None level depth b a e = refl
suits_leaf (Some d) level depth b a e = same_numbers d level (a ∙ sym e)

pub depth_inner : (met : Option ℕ) (level : ℕ) (i : Inner) → depth_with met level (node.Inner i) ≡ met
depth_inner None level i = refl
depth_inner (Some d) level i = refl

suits_inner : (met : Option ℕ) (level : ℕ) (i : Inner) → suits_depth met level (node.Inner i) ≡ true
suits_inner None level i = refl
suits_inner (Some d) level i = refl

module _ (objects : ℕ → Held) (kind depth : ℕ) where
  abbrev nodes : ℕ → Option Node
  nodes = nodes_in objects

  abbrev Finds : ℕ → ℕ → ℕ → Type 0
  Finds h room level =
      (s : Shape h) (low high : Option Key) (before : List Link) (tour : Tour) → Stands nodes h s → Bounded h low high s → OfKind kind h s → Distinct (before ++ links_of h s) → Ready nodes kind depth h before tour →
      Toured tour kind depth (visits_of h s) (length (mapping_of h s)) (visit objects room (record { oid = oid_of h s; low = low; high = high; level = level }) tour)

  find_limbs : (h room level : ℕ) → Finds h room level → (low high : Option Key) (c : Shape h) (ls : List (Limb (Shape h))) (before : List Link) (tour : Tour) → Stands nodes h c → EachChild (Stands nodes h) ls → Parted (Bounded h) low high c ls → OfKind kind h c → EachLimb kind (OfKind kind h) ls → Distinct (before ++ joined (links_of h) c ls) → Ready nodes kind depth h before tour →
      Toured tour kind depth (joined (visits_of h) c ls) (length (joined (mapping_of h) c ls)) (in_turn (visit objects room) (places_from level low high (oid_of h c) (map (branch_of h) ls)) tour)
  find_limbs h room level each low high c [] before tour st sts p k ks d r =
      let f = each c low high before tour st p k d r in
      record { after = f.after; is = ap (λ x. and_then x (in_turn (visit objects room) [])) f.is; visited = f.visited; counted = f.counted; kind_met = f.kind_met; depth_met = f.depth_met }
  find_limbs h room level each low high c (l ∷ ls) before tour st sts p k ks d r =
      let rest = joined (links_of h) l.child ls in
      let d' : Distinct ((before ++ links_of h c) ++ rest) = subst Distinct (sym (append_assoc before (links_of h c) rest)) d in
      let f = each c low (Some l.key) before tour st p.2 k (distinct_parts (before ++ links_of h c) rest d').0 r in
      let r' = ready_next nodes kind depth h before tour f.after c st r f.visited f.kind_met f.depth_met in
      let g = find_limbs h room level each (Some l.key) high l.child ls (before ++ links_of h c) f.after sts.0 sts.1 p.3 ks.1 ks.2 d' r' in
      let n = length-append (mapping_of h c) (joined (mapping_of h) l.child ls) in
      let x = f.counted in
      let y = g.counted in
      record {
        after = g.after;
        is = ap (λ x. and_then x (in_turn (visit objects room) (places_from level (Some l.key) high (oid_of h l.child) (map (branch_of h) ls)))) f.is ∙ g.is;
        visited = g.visited ∙ ap (λ vs. vs ++ joined (visits_of h) l.child ls) f.visited ∙ append_assoc tour.visits (visits_of h c) (joined (visits_of h) l.child ls);
        counted = omega (arith, n, x, y);
        kind_met = g.kind_met;
        depth_met = g.depth_met;
      }

  pub find_shape : (h room level : ℕ) → h < room → level + h ≡ depth → Finds h room level
  find_shape h zero level l e s low high before tour st b k d r = absurd (omega (arith, l))
  find_shape zero (suc room) level l e s low high before tour st b k d r =
      let leaf : BucketContents = record { items = s.items; next = s.next } in
      let held = held_as (objects s.oid) (node.Leaf leaf) st in
      let place : Place = record { oid = s.oid; low = low; high = high; level = level } in
      let at : level ≡ depth = omega (arith, e) in
      let fresh = not_visited nodes kind depth zero before tour s st d r in
      let whole = none_broken place tour (node.Leaf leaf) refl (suit_agreed tour.kind kind _ r.kind_met (items_of_kind kind s.items k)) (items_within low high s.items b.1) (suits_leaf tour.depth level depth leaf r.depth_met at) in
      record {
        after = with_visit place tour (node.Leaf leaf);
        is = visit_right objects room place tour held.0 (node.Leaf leaf) held.1 fresh whole;
        visited = refl;
        counted = refl;
        kind_met = agreed_with tour.kind kind _ r.kind_met (items_of_kind kind s.items k);
        depth_met = depth_leaf tour.depth level depth leaf r.depth_met at;
      }
  find_shape (suc h) (suc room) level l e s low high before tour st b k d r =
      let inner : Inner = record { head = oid_of h s.head; tail = map (branch_of h) s.tail; first = s.first } in
      let held = held_as (objects s.oid) (node.Inner inner) st.0 in
      let place : Place = record { oid = s.oid; low = low; high = high; level = level } in
      let fresh = not_visited nodes kind depth (suc h) before tour s st d r in
      let kinds = limbs_of_kind kind h (OfKind kind h) s.tail k.1 in
      let whole = none_broken place tour (node.Inner inner) refl (suit_agreed tour.kind kind _ r.kind_met kinds) (parted_within h (Bounded h) low low high s.head s.tail (λ key f. f) b) (suits_inner tour.depth level inner) in
      let tour' = with_visit place tour (node.Inner inner) in
      let r' : Ready nodes kind depth h before tour' = record {
        kind_met = agreed_with tour.kind kind _ r.kind_met kinds;
        depth_met = subst (λ m. Agrees m depth) (sym (depth_inner tour.depth level inner)) r.depth_met;
        passed = λ x w. elim (visited_parts tour.visits ((s.oid, First s.first) ∷ []) x w) [
          | inl was ↦ elim (r.passed x was) [
            | inl above ↦ let higher = above.higher in inl (record { height = above.height; shape = above.shape; is = above.is; stands = above.stands; higher = omega (arith, higher) })
            | inr among ↦ inr among
          ]
          | inr is ↦ inl (record { height = suc h; shape = s; is = only_one x s.oid (First s.first) is; stands = st; higher = omega arith })
        ];
      } in
      let f = find_limbs h room (level + 1) (find_shape h room (level + 1) (omega (arith, l)) (omega (arith, e))) low high s.head s.tail before tour' st.1 st.2 b k.0 k.1 d r' in
      let y = f.counted in
      record {
        after = f.after;
        is = visit_right objects room place tour held.0 (node.Inner inner) held.1 fresh whole ∙ f.is;
        visited = f.visited ∙ append_assoc tour.visits ((s.oid, First s.first) ∷ []) (joined (visits_of h) s.head s.tail);
        counted = omega (arith, y);
        kind_met = f.kind_met;
        depth_met = f.depth_met;
      }
