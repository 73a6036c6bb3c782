-- What is found sound is a shape.
use Rattle.std.proofs.Common.{◌≡◌, ℕ, ◌+◌, ◌<◌, zero, suc, Bool, true, false, List, [], ◌∷◌, ◌++◌, length, Option, Some, None, Result, Ok, Err, refl, arith, sym, ◌∙◌, ap, subst, append_assoc}
use Rattle.std.specs.Prelude.{map, if◌then◌else◌}
use Rattle.pickle_graph.specs.Graph.{Graph}
use Rattle.btree_family.specs.declared.key.Key.{Key}
use Rattle.btree_family.specs.Buckets.{BucketContents, keys_of}
use Rattle.bucket_state.specs.declared.tree.Branch.{Branch}
use Rattle.bucket_state.specs.declared.tree.Inner.{Inner}
use Rattle.bucket_state.specs.States.{stand_in_row}
use Rattle.bucket_state.specs.Trees.{separators_of}
use Rattle.btree_shapes.specs.declared.node.Node.{Node}
use Rattle.btree_shapes.specs.declared.node.Node.TheVariants as node
use Rattle.btree_shapes.specs.Nodes.{Held, Nothing, Foreign, Holds}
use Rattle.btree_shapes.specs.Shapes.{Shape, Limb, oid_of, branch_of, EachChild, joined, node_held, nodes_in, Stands, Parted, Bounded, OfKind, mapping_of, IsFrom, IsUpTo}
use Rattle.btree_checking.specs.declared.place.Place.{Place}
use Rattle.btree_checking.specs.declared.links.Pointer.TheVariants.{First}
use Rattle.btree_checking.specs.declared.verdict.Rule.{Rule}
use Rattle.btree_checking.specs.declared.verdict.Rule.TheVariants.{Shared, NotATree}
use Rattle.btree_checking.specs.Rules.{Tour, keys_in, was_visited, suit_kind, suits_depth, kind_with, depth_with, rule_broken, with_visit, places_from, places_below}
use Rattle.btree_checking.specs.Walks.{Stop, stopped, and_then, in_turn, visit_node, visit_held, visit}
use Rattle.btree_checking.proofs.Tests.{Agrees, numbers_same, rules_hold, kind_of_items, kind_of_limbs, row_rises, kind_back, within_items, Part, parts_within}
use Rattle.btree_checking.proofs.Shaped.{visits_of, length-append}
use Rattle.btree_checking.proofs.Steps.{visit_zero, visit_suc}
use Rattle.btree_checking.proofs.Finding.{depth_inner}

-- keys and separators rise in each node, and are of one kind
abbrev pub InRow : Held → Type 0
InRow Nothing = Unit {0}
InRow Foreign = Unit {0}
InRow (Holds class n) = stand_in_row None (keys_in n) ≡ true

-- the shape that a walk met below an object
pub record Met (nodes : ℕ → Option Node) (room : ℕ) (place : Place) (tour after : Tour) (h : ℕ) : Type 0 where
  pub shape : Shape h
  pub lower : h < room
  pub is : oid_of h shape ≡ place.oid
  pub stands : Stands nodes h shape
  pub bounded : Bounded h place.low place.high shape
  pub kinds : (k : ℕ) → Agrees after.kind k → Agrees tour.kind k × OfKind k h shape
  pub depth_met : Agrees tour.depth (place.level + h)
  pub depth_left : after.depth ≡ Some (place.level + h)
  pub visited : after.visits ≡ tour.visits ++ visits_of h shape
  pub counted : after.items ≡ tour.items + length (mapping_of h shape)

-- the shapes that a walk met below an object's children
record Limbs (nodes : ℕ → Option Node) (room level : ℕ) (low high : Option Key) (child : ℕ) (branches : List Branch) (tour after : Tour) (h : ℕ) : Type 0 where
  pub head : Shape h
  pub tail : List (Limb (Shape h))
  pub lower : h < room
  pub is : oid_of h head ≡ child
  pub are : map (branch_of h) tail ≡ branches
  pub stands : Stands nodes h head
  pub stand : EachChild (Stands nodes h) tail
  pub parted : Parted (Bounded h) low high head tail
  pub kinds : (k : ℕ) → Agrees after.kind k → Agrees tour.kind k × OfKind k h head × EachChild (OfKind k h) tail
  pub depth_met : Agrees tour.depth (level + h)
  pub depth_left : after.depth ≡ Some (level + h)
  pub visited : after.visits ≡ tour.visits ++ joined (visits_of h) head tail
  pub counted : after.items ≡ tour.items + length (joined (mapping_of h) head tail)

abbrev ok_is : Tour → Result Tour Stop
ok_is tour = Ok tour

ok_same : (a b : Tour) → ok_is a ≡ ok_is b → a ≡ b
ok_same a b e = cc

-- a walk that goes on after a part went on through that part
went_on : (r : Result Tour Stop) (next : Tour → Result Tour Stop) (after : Tour) → and_then r next ≡ Ok after → (t : Tour) × (r ≡ Ok t) × (next t ≡ Ok after)
went_on (Ok t) next after e = (t, refl, e)
went_on (Err stop) next after e = absurd cc

agreed : (met : Option ℕ) (a b : ℕ) → met ≡ Some a → Agrees met b → a ≡ b
agreed met a b e g = subst (λ m. Agrees m b) e g

pub new_by : (b : Bool) (place : Place) (tour after : Tour) (rule : Rule) (r : Result Tour Stop) → (if b then stopped place tour rule else r) ≡ Ok after → (b ≡ false) × (r ≡ Ok after)
new_by true place tour after rule r e = absurd cc
new_by false place tour after rule r e = (refl, e)

foreign_not : (b : Bool) (place : Place) (tour after : Tour) (x y : Rule) → (if b then stopped place tour x else stopped place tour y) ≡ Ok after → ⊥
foreign_not true place tour after x y e = cc
foreign_not false place tour after x y e = cc

pub unbroken : (below : Place → Tour → Result Tour Stop) (place : Place) (tour after : Tour) (n : Node) (r : Option Rule) → visit_node below place tour n r ≡ Ok after → (r ≡ None) × (in_turn below (places_below place n) (with_visit place tour n) ≡ Ok after)
unbroken below place tour after n None e = (refl, e)
unbroken below place tour after n (Some rule) e = absurd cc

leaf_depth : (met : Option ℕ) (level : ℕ) (b : BucketContents) → suits_depth met level (node.Leaf b) ≡ true → Agrees met (level + 0) × (depth_with met level (node.Leaf b) ≡ Some (level + 0))
leaf_depth None level b e = let z : level + 0 ≡ level = omega arith in (tt, ap Some (sym z))
leaf_depth (Some d) level b e = let z : level + 0 ≡ level = omega arith in let s = numbers_same d level e in (s ∙ sym z, ap Some (s ∙ sym z))

module _ (objects : ℕ → Held) (rows : (oid : ℕ) → InRow (objects oid)) where
  abbrev nodes : ℕ → Option Node
  nodes = nodes_in objects

  -- the object is no tree without others below it
  abbrev pub Below : Place → Type 0
  Below place = (class : Graph) (b : BucketContents) → objects place.oid ≡ Holds class (node.Lone b) → place.level ≡ 0 → ⊥

  abbrev Builds : ℕ → Type 0
  Builds room = (place : Place) (tour after : Tour) → Below place → visit objects room place tour ≡ Ok after → (h : ℕ) × Met nodes room place tour after h

  join_limbs : (room level h : ℕ) (low high : Option Key) (child : ℕ) (b : Branch) (bs : List Branch) (tour mid after : Tour) → IsFrom low b.key → IsUpTo high b.key → Met nodes room (record { oid = child; low = low; high = Some b.key; level = level }) tour mid h → Limbs nodes room level (Some b.key) high b.child bs mid after h → Limbs nodes room level low high child (b ∷ bs) tour after h
  join_limbs room level h low high child b bs tour mid after f u m l =
      let n = length-append (mapping_of h m.shape) (joined (mapping_of h) l.head l.tail) in
      let x = m.counted in
      let y = l.counted in
      record {
        head = m.shape;
        tail = record { key = b.key; child = l.head } ∷ l.tail;
        lower = m.lower;
        is = m.is;
        are = ap (λ o. record { key = b.key; child = o } ∷ map (branch_of h) l.tail) l.is ∙ ap (λ zs. b ∷ zs) l.are;
        stands = m.stands;
        stand = (l.stands, l.stand);
        parted = (f, u, m.bounded, l.parted);
        kinds = λ k a. let p = l.kinds k a in let q = m.kinds k p.0 in (q.0, q.1, (p.1, p.2));
        depth_met = m.depth_met;
        depth_left = l.depth_left;
        visited = l.visited ∙ ap (λ vs. vs ++ joined (visits_of h) l.head l.tail) m.visited ∙ append_assoc tour.visits (visits_of h m.shape) (joined (visits_of h) l.head l.tail);
        counted = omega (arith, n, x, y);
      }

  below_level : (child level : ℕ) (low high : Option Key) → (level ≡ 0 → ⊥) → Below (record { oid = child; low = low; high = high; level = level })
  below_level child level low high n class b e z = n z

  build_limbs : (room level : ℕ) → Builds room → (level ≡ 0 → ⊥) → (low high : Option Key) (child : ℕ) (branches : List Branch) (tour after : Tour) → Part low high branches → in_turn (visit objects room) (places_from level low high child branches) tour ≡ Ok after → (h : ℕ) × Limbs nodes room level low high child branches tour after h
  build_limbs room level each n low high child [] tour after p e =
      let w = went_on (visit objects room (record { oid = child; low = low; high = high; level = level }) tour) (in_turn (visit objects room) []) after e in
      let same : w.0 ≡ after = ok_same w.0 after w.2 in
      let m = each (record { oid = child; low = low; high = high; level = level }) tour after (below_level child level low high n) (w.1 ∙ ap Ok same) in (
        m.0,
        record {
          head = m.1.shape;
          tail = [];
          lower = m.1.lower;
          is = m.1.is;
          are = refl;
          stands = m.1.stands;
          stand = tt;
          parted = m.1.bounded;
          kinds = λ k a. let q = m.1.kinds k a in (q.0, q.1, tt);
          depth_met = m.1.depth_met;
          depth_left = m.1.depth_left;
          visited = m.1.visited;
          counted = m.1.counted;
        },
      )
  build_limbs room level each n low high child (b ∷ bs) tour after p e =
      let w = went_on (visit objects room (record { oid = child; low = low; high = Some b.key; level = level }) tour) (in_turn (visit objects room) (places_from level (Some b.key) high b.child bs)) after e in
      let m = each (record { oid = child; low = low; high = Some b.key; level = level }) tour w.0 (below_level child level low (Some b.key) n) w.1 in
      let l = build_limbs room level each n (Some b.key) high b.child bs w.0 after p.2 w.2 in
      let d : level + m.0 ≡ level + l.0 = agreed w.0.depth (level + m.0) (level + l.0) m.1.depth_left l.1.depth_met in
      let s : l.0 ≡ m.0 = omega (arith, d) in
      (m.0, join_limbs room level m.0 low high child b bs tour w.0 after p.0 p.1 m.1 (subst (Limbs nodes room level (Some b.key) high b.child bs w.0 after) s l.1))

  met_leaf : (room : ℕ) (place : Place) (tour after : Tour) (class : Graph) (b : BucketContents) → objects place.oid ≡ Holds class (node.Leaf b) → stand_in_row None (keys_of b.items) ≡ true → rule_broken place tour (node.Leaf b) ≡ None → with_visit place tour (node.Leaf b) ≡ after → Met nodes (suc room) place tour after 0
  met_leaf room place tour after class b o row r e =
      let t = rules_hold place tour (node.Leaf b) r in
      let d = leaf_depth tour.depth place.level b t.3 in
      subst (λ a. Met nodes (suc room) place tour a 0) e (record {
        shape = record { oid = place.oid; items = b.items; next = b.next };
        lower = omega arith;
        is = refl;
        stands = ap node_held o;
        bounded = (row_rises None (keys_of b.items) row, within_items place.low place.high b.items t.2);
        kinds = λ k a. let q = kind_back tour.kind k (keys_of b.items) row t.1 a in (q.0, kind_of_items k b.items q.1);
        depth_met = d.0;
        depth_left = d.1;
        visited = refl;
        counted = refl;
      })

  met_inner : (room : ℕ) (place : Place) (tour after : Tour) (class : Graph) (i : Inner) → objects place.oid ≡ Holds class (node.Inner i) → stand_in_row None (separators_of i.tail) ≡ true → rule_broken place tour (node.Inner i) ≡ None → (h : ℕ) → Limbs nodes room (place.level + 1) place.low place.high i.head i.tail (with_visit place tour (node.Inner i)) after h → Met nodes (suc room) place tour after (suc h)
  met_inner room place tour after class i o row r h l =
      let t = rules_hold place tour (node.Inner i) r in
      let lower = l.lower in
      let up : (place.level + 1) + h ≡ place.level + suc h = omega arith in
      let x = l.counted in
      let same : i ≡ record { head = oid_of h l.head; tail = map (branch_of h) l.tail; first = i.first } = sym (ap (λ a. record { head = a; tail = map (branch_of h) l.tail; first = i.first }) l.is ∙ ap (λ bs. record { head = i.head; tail = bs; first = i.first }) l.are) in
      let part = subst (λ bs. (stand_in_row None (separators_of bs) ≡ true) × (suit_kind tour.kind (separators_of bs) ≡ true)) (sym l.are) (row, t.1) in
      let kind_is = ap (λ bs. kind_with tour.kind (separators_of bs)) (sym l.are) in
      record {
        shape = record { oid = place.oid; head = l.head; tail = l.tail; first = i.first };
        lower = omega (arith, lower);
        is = refl;
        stands = (ap node_held o ∙ ap (λ j. Some (node.Inner j)) same, l.stands, l.stand);
        bounded = l.parted;
        kinds = λ k a.
            let p = l.kinds k a in
            let q = kind_back tour.kind k (separators_of (map (branch_of h) l.tail)) part.0 part.1 (subst (λ m. Agrees m k) kind_is p.0) in
            (q.0, (p.1, kind_of_limbs k h (OfKind k h) l.tail q.1 p.2));
        depth_met = subst (λ n. Agrees tour.depth n) up (subst (λ m. Agrees m ((place.level + 1) + h)) (depth_inner tour.depth place.level i) l.depth_met);
        depth_left = l.depth_left ∙ ap Some up;
        visited = l.visited ∙ append_assoc tour.visits ((place.oid, First i.first) ∷ []) (joined (visits_of h) l.head l.tail);
        counted = omega (arith, x);
      }

  build_node : (room : ℕ) → Builds room → (place : Place) (tour after : Tour) (class : Graph) (n : Node) → Below place → objects place.oid ≡ Holds class n → stand_in_row None (keys_in n) ≡ true → rule_broken place tour n ≡ None → in_turn (visit objects room) (places_below place n) (with_visit place tour n) ≡ Ok after → (h : ℕ) × Met nodes (suc room) place tour after h
  build_node room each place tour after class (node.Lone b) below o row r e =
      let t = rules_hold place tour (node.Lone b) r in
      absurd (below class b o (numbers_same place.level 0 t.0))
  build_node room each place tour after class (node.Leaf b) below o row r e =
      (0, met_leaf room place tour after class b o row r (ok_same _ _ e))
  build_node room each place tour after class (node.Inner i) below o row r e =
      let t = rules_hold place tour (node.Inner i) r in
      let l = build_limbs room (place.level + 1) each (λ z. omega (arith, z)) place.low place.high i.head i.tail (with_visit place tour (node.Inner i)) after (parts_within place.low place.high i.tail (row_rises None (separators_of i.tail) row) t.2) e in
      (suc l.0, met_inner room place tour after class i o row r l.0 l.1)

  build_held : (room : ℕ) → Builds room → (place : Place) (tour after : Tour) (held : Held) → Below place → objects place.oid ≡ held → InRow held → visit_held (visit objects room) place tour held ≡ Ok after → (h : ℕ) × Met nodes (suc room) place tour after h
  build_held room each place tour after Nothing below o row e = absurd cc
  build_held room each place tour after Foreign below o row e = absurd (foreign_not (was_visited tour.visits place.oid) place tour after Shared NotATree e)
  build_held room each place tour after (Holds class n) below o row e =
      let new = new_by (was_visited tour.visits place.oid) place tour after Shared (visit_node (visit objects room) place tour n (rule_broken place tour n)) e in
      let r = unbroken (visit objects room) place tour after n (rule_broken place tour n) new.1 in
      build_node room each place tour after class n below o row r.0 r.1

  pub build : (room : ℕ) → Builds room
  build zero place tour after below e = let bad : stopped place tour Shared ≡ Ok after = sym (visit_zero objects place tour) ∙ e in absurd cc
  build (suc room) place tour after below e =
      build_held room (build room) place tour after (objects place.oid) below refl (rows place.oid) (sym (visit_suc objects room place tour) ∙ e)
