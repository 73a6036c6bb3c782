-- Where the way for a key leads in a sound tree.
use Rattle.std.proofs.Common.{◌≡◌, ℕ, ◌≤◌, ◌<◌, true, false, List, [], ◌∷◌, ◌++◌, length, Option, Some, None, Result, Ok, Err, refl, arith, sym, ◌∙◌, ap, zero, suc, inl, inr}
use Rattle.std.specs.Prelude.{if◌then◌else◌, map}
use Rattle.std.proofs.lemmas.Grind.{common_steps}
use Rattle.pickle_graph.specs.Graph.{Graph}
use Rattle.btree_family.specs.declared.key.Key.{Key}
use Rattle.btree_family.specs.declared.bucket.Item.{Item}
use Rattle.btree_family.specs.Keys.{rank_of}
use Rattle.btree_family.specs.Buckets.{keys_of}
use Rattle.bucket_state.specs.declared.tree.Inner.{Inner}
use Rattle.bucket_state.specs.Trees.{separators_of}
use Rattle.btree_shapes.specs.declared.error.TreeError.{TreeError}
use Rattle.btree_shapes.specs.declared.error.TreeError.TheVariants.{NotATree, BadKey}
use Rattle.btree_shapes.specs.declared.node.Node.{Node}
use Rattle.btree_shapes.specs.declared.node.Node.TheVariants as node
use Rattle.btree_shapes.specs.declared.path.Step.{Step}
use Rattle.btree_shapes.specs.declared.way.Found.{Found}
use Rattle.btree_shapes.specs.Keys.{is_kind_of}
use Rattle.btree_shapes.specs.Nodes.{Held, Nothing, Foreign, Holds, node_suits, child_for, items_in, value_in}
use Rattle.btree_shapes.specs.Ways.{stands_in, below_step, down_node, down_held, way_from}
use Rattle.btree_shapes.specs.Shapes.{Shape, Limb, oid_of, branch_of, EachChild, EachLimb, joined, IsFrom, IsUpTo, AreOfKind, Parted, Bounded, OfKind, mapping_of, node_held, nodes_in, Stands}
use Rattle.btree_family.specs.OrderLaws.{below_or}
use Rattle.btree_maps.proofs.Mappings.{within-mapping, within-joined, value_front, value_back}
use Rattle.btree_shapes.specs.Steps.{way_suc}

-- ---- no object of a sound tree stands twice on a way

-- each object of the way stands above this height
abbrev pub Higher : (ℕ → Option Node) → List ℕ → ℕ → Type 0
Higher nodes [] h = Unit {0}
Higher nodes (p ∷ ps) h = ((h' : ℕ) × (s : Shape h') × (oid_of h' s ≡ p) × Stands nodes h' s × (h < h')) × Higher nodes ps h

pub higher_less : (nodes : ℕ → Option Node) (ps : List ℕ) (h h' : ℕ) → h' ≤ h → Higher nodes ps h → Higher nodes ps h'
higher_less nodes [] h h' l a = tt
higher_less nodes (p ∷ ps) h h' l a = ((a.0.0, a.0.1, a.0.2, a.0.3, omega (arith, a.0.4)), higher_less nodes ps h h' l a.1)

abbrev head_in : Option Node → ℕ
head_in (Some (node.Inner i)) = i.head
head_in (Some (node.Leaf b)) = 0
head_in (Some (node.Lone b)) = 0
head_in None = 0

-- one object has one height
pub one_height : (nodes : ℕ → Option Node) (h h' : ℕ) (s : Shape h) (t : Shape h') → Stands nodes h s → Stands nodes h' t → oid_of h s ≡ oid_of h' t → h ≡ h'
one_height nodes zero zero s t p q e = refl
one_height nodes zero (suc h') s t p q e = let bad : ⊥ = cc (p, q.0, ap nodes e) in absurd bad
one_height nodes (suc h) zero s t p q e = let bad : ⊥ = cc (p.0, q, ap nodes e) in absurd bad
one_height nodes (suc h) (suc h') s t p q e =
    let heads : oid_of h s.head ≡ oid_of h' t.head = ap head_in (sym p.0 ∙ ap nodes e ∙ q.0) in
    ap suc (one_height nodes h h' s.head t.head p.1 q.1 heads)

pub not_twice : (nodes : ℕ → Option Node) (way : List ℕ) (to h : ℕ) (s : Shape h) → oid_of h s ≡ to → Stands nodes h s → Higher nodes way h → stands_in way to ≡ false
not_twice nodes [] to h s e st a = refl
not_twice nodes (p ∷ ps) to h s e st a =
    let r = not_twice nodes ps to h s e st a.1 in
    let apart : p ≡ to → ⊥ = λ same. let eq : h ≡ a.0.0 = one_height nodes h a.0.0 s a.0.1 st a.0.3 (e ∙ sym same ∙ sym a.0.2) in omega (arith, a.0.4) in
    grind (arith, common_steps)

pub higher_last : (nodes : ℕ → Option Node) (ps : List ℕ) (h h' p : ℕ) (s : Shape h') → Higher nodes ps h → oid_of h' s ≡ p → Stands nodes h' s → h < h' → Higher nodes (ps ++ p ∷ []) h
higher_last nodes [] h h' p s a e st l = ((h', s, e, st, l), tt)
higher_last nodes (q ∷ qs) h h' p s a e st l = (a.0, higher_last nodes qs h h' p s a.1 e st l)

-- ---- what stands at an object

pub held_as : (held : Held) (n : Node) → node_held held ≡ Some n → (class : Graph) × (held ≡ Holds class n)
held_as Nothing n e = absurd cc
held_as Foreign n e = absurd cc
held_as (Holds class m) n e = let same : m ≡ n = cc in (class, ap (Holds class) same)

pub items_kind : (kind : ℕ) (key : Key) (items : List Item) → AreOfKind kind items → rank_of key ≡ kind → is_kind_of (keys_of items) key ≡ true
items_kind kind key [] k r = refl
items_kind kind key (item ∷ items) k r = let e = k.0 in grind (arith, common_steps)

pub limbs_kind : (kind h : ℕ) (key : Key) (ls : List (Limb (Shape h))) → EachLimb kind (OfKind kind h) ls → rank_of key ≡ kind → is_kind_of (separators_of (map (branch_of h) ls)) key ≡ true
limbs_kind kind h key [] k r = refl
limbs_kind kind h key (l ∷ ls) k r = let e = k.0 in grind (arith, common_steps)

-- ---- the way

-- the child to which the way goes, with what the whole has at the key
pub record Chosen (nodes : ℕ → Option Node) (kind h : ℕ) (key : Key) (whole : List Item) (to : ℕ) : Type 0 where
  pub shape : Shape h
  pub low : Option Key
  pub high : Option Key
  pub is : oid_of h shape ≡ to
  pub stands : Stands nodes h shape
  pub bounded : Bounded h low high shape
  pub of_kind : OfKind kind h shape
  pub from : IsFrom low key
  pub upto : IsUpTo high key
  pub value : value_in (mapping_of h shape) key ≡ value_in whole key

module _ (nodes : ℕ → Option Node) (kind h : ℕ) (key : Key) where
  choose : (low high : Option Key) (c : Shape h) (ls : List (Limb (Shape h))) → Stands nodes h c → EachChild (Stands nodes h) ls → Parted (Bounded h) low high c ls → OfKind kind h c → EachLimb kind (OfKind kind h) ls → IsFrom low key → IsUpTo high key → Chosen nodes kind h key (joined (mapping_of h) c ls) (child_for (oid_of h c) (map (branch_of h) ls) key)
  choose low high c [] st sts p k ks f u = record { shape = c; low = low; high = high; is = refl; stands = st; bounded = p; of_kind = k; from = f; upto = u; value = refl }
  choose low high c (l ∷ ls) st sts p k ks f u = elim (below_or key l.key) [
    | inl less ↦
        let to : child_for (oid_of h c) (map (branch_of h) (l ∷ ls)) key ≡ oid_of h c = ap (λ b. if b then oid_of h c else child_for (oid_of h l.child) (map (branch_of h) ls) key) less in
        let w = within-joined (Bounded h) (mapping_of h) (within-mapping h) (Some l.key) high l.child ls p.3 in
        rw to (record { shape = c; low = low; high = Some l.key; is = refl; stands = st; bounded = p.2; of_kind = k; from = f; upto = less; value = sym (value_front l.key key high (mapping_of h c) (joined (mapping_of h) l.child ls) w less) })
    | inr not ↦
        let to : child_for (oid_of h c) (map (branch_of h) (l ∷ ls)) key ≡ child_for (oid_of h l.child) (map (branch_of h) ls) key = ap (λ b. if b then oid_of h c else child_for (oid_of h l.child) (map (branch_of h) ls) key) not in
        let r = choose (Some l.key) high l.child ls sts.0 sts.1 p.3 ks.1 ks.2 not u in
        let v = value_back low l.key key (mapping_of h c) (joined (mapping_of h) l.child ls) (within-mapping h low (Some l.key) c p.2) not in
        rw to (record { shape = r.shape; low = r.low; high = r.high; is = r.is; stands = r.stands; bounded = r.bounded; of_kind = r.of_kind; from = r.from; upto = r.upto; value = r.value ∙ sym v })
  ]

-- the way goes on, and ends where the whole has what stands under the key
pub record WayTo (key : Key) (h : ℕ) (whole : List Item) (way : Result Found TreeError) : Type 0 where
  pub found : Found
  pub is : way ≡ Ok found
  pub value : value_in (items_in found.node) key ≡ value_in whole key
  pub steps : length found.path ≡ h

module _ (objects : ℕ → Held) (kind : ℕ) (key : Key) (of_kind : rank_of key ≡ kind) where
  abbrev nodes : ℕ → Option Node
  nodes = nodes_in objects

  abbrev going : ℕ → List ℕ → ℕ → Result Found TreeError
  going room above oid = way_from true key objects room above oid

  pub node_way : (room : ℕ) (above : List ℕ) (oid : ℕ) (class : Graph) (n : Node) → stands_in above oid ≡ false → objects oid ≡ Holds class n → node_suits key n ≡ true → going (suc room) above oid ≡ down_node (going room (above ++ oid ∷ [])) key oid class n
  node_way room above oid class n s h t =
      way_suc true key objects room above oid
      ∙ ap (λ b. if b then Err (NotATree oid) else down_held (going room (above ++ oid ∷ [])) true key oid (objects oid)) s
      ∙ ap (down_held (going room (above ++ oid ∷ [])) true key oid) h
      ∙ ap (λ b. if b then down_node (going room (above ++ oid ∷ [])) key oid class n else Err BadKey) t

  pub way_shape : (h room : ℕ) (low high : Option Key) (s : Shape h) (above : List ℕ) → h < room → Stands nodes h s → Bounded h low high s → OfKind kind h s → IsFrom low key → IsUpTo high key → Higher nodes above h → WayTo key h (mapping_of h s) (going room above (oid_of h s))
  way_shape h zero low high s above l st b k f u a = absurd (omega arith)
  way_shape zero (suc room) low high s above l st b k f u a =
      let leaf : Node = node.Leaf (record { items = s.items; next = s.next }) in
      let held = held_as (objects s.oid) leaf st in
      record {
        found = record { path = []; oid = s.oid; class = held.0; node = leaf };
        is = node_way room above s.oid held.0 leaf (not_twice nodes above s.oid 0 s refl st a) held.1 (items_kind kind key s.items k of_kind);
        value = refl;
        steps = refl;
      }
  way_shape (suc h) (suc room) low high s above l st b k f u a =
      let inner : Inner = record { head = oid_of h s.head; tail = map (branch_of h) s.tail; first = s.first } in
      let held = held_as (objects s.oid) (node.Inner inner) st.0 in
      let next = choose nodes kind h key low high s.head s.tail st.1 st.2 b k.0 k.1 f u in
      let here = node_way room above s.oid held.0 (node.Inner inner) (not_twice nodes above s.oid (suc h) s refl st a) held.1 (limbs_kind kind h key s.tail k.1 of_kind) in
      let a' = higher_last nodes above h (suc h) s.oid s (higher_less nodes above (suc h) h (omega arith) a) refl st (omega arith) in
      let below = way_shape h room next.low next.high next.shape (above ++ s.oid ∷ []) (omega arith) next.stands next.bounded next.of_kind next.from next.upto a' in
      let step : Step = record { oid = s.oid; class = held.0; inner = inner } in
      record {
        found = record { path = step ∷ below.found.path; oid = below.found.oid; class = below.found.class; node = below.found.node };
        is = here ∙ ap (λ o. below_step step (going room (above ++ s.oid ∷ []) o)) (sym next.is) ∙ ap (below_step step) below.is;
        value = below.value ∙ next.value;
        steps = ap suc below.steps;
      }
