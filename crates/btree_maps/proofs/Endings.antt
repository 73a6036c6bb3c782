-- The way by last children in a sound tree, and what is read besides the way of a remove.
use Rattle.std.proofs.Common.{◌≡◌, ℕ, ◌-◌, ◌<◌, ◌^◌, Bool, true, false, List, [], ◌∷◌, ◌++◌, length, Option, Some, None, Result, Ok, Err, refl, arith, sym, ◌∙◌, ap, subst, zero, suc, append_assoc}
use Rattle.std.specs.Prelude.{map, if◌then◌else◌, ◌&&◌}
use Rattle.pickle_graph.specs.Graph.{Graph}
use Rattle.btree_family.specs.declared.key.Key.{Key}
use Rattle.btree_family.specs.declared.bucket.Item.{Item}
use Rattle.btree_shapes.specs.declared.error.TreeError.{TreeError}
use Rattle.btree_shapes.specs.declared.error.TreeError.TheVariants.{NotATree, BadKey}
use Rattle.btree_shapes.specs.declared.node.Node.{Node}
use Rattle.btree_shapes.specs.declared.node.Node.TheVariants as node
use Rattle.btree_shapes.specs.Nodes.{Held, Holds, node_suits}
use Rattle.btree_shapes.specs.Ways.{stands_in}
use Rattle.btree_shapes.specs.Shapes.{Shape, Limb, oid_of, branch_of, EachChild, joined, nodes_in, Stands, Link, links_of}
use Rattle.btree_putting.specs.Firsts.{first_of, first_held}
use Rattle.btree_removing.specs.Types.{Last, Start}
use Rattle.btree_removing.specs.Lasts.{last_child, last_node, last_held, last_from, last_below, relink, link_before}
use Rattle.btree_removing.specs.Plans.{known_first, first_head}
use Rattle.btree_maps.proofs.Reaching.{Higher, higher_less, higher_last, not_twice, held_as}
use Rattle.btree_maps.proofs.Refusing.{Safe}
use Rattle.btree_maps.proofs.Dropping.{link}
use Rattle.btree_maps.proofs.Rungs.{inner_of}
use Rattle.btree_maps.proofs.Befores.{Comes, LeftOf, HeadStands}

last_suc : (key : Key) (objects : ℕ → Held) (room : ℕ) (above : List ℕ) (oid : ℕ) → last_from key objects (suc room) above oid ≡ (if stands_in above oid then Err (NotATree oid) else last_held (last_from key objects room (above ++ oid ∷ [])) key above oid (objects oid))
unfolding last_from
last_suc key objects room above oid = refl

-- ---- the last leaf

-- this is the last leaf of the shape
pub record LastIn (objects : ℕ → Held) (h : ℕ) (s : Shape h) (last : Last) : Type 0 where
  pub items : List Item
  pub next : Option ℕ
  pub node_is : last.node ≡ node.Leaf (record { items = items; next = next })
  pub holds : objects last.oid ≡ Holds last.class (node.Leaf (record { items = items; next = next }))
  pub front : List Link
  pub cut : links_of h s ≡ front ++ link last.oid next ∷ []

abbrev pub EndsBy : (ℕ → Held) → (h : ℕ) → Shape h → Result Last TreeError → Type 0
EndsBy objects h s (Ok last) = LastIn objects h s last
EndsBy objects h s (Err e) = Safe e

last_limb : (nodes : ℕ → Option Node) (h : ℕ) (c : Shape h) (ls : List (Limb (Shape h))) → Stands nodes h c → EachChild (Stands nodes h) ls → (t : Shape h) × (oid_of h t ≡ last_child (oid_of h c) (map (branch_of h) ls)) × Stands nodes h t × ((front : List Link) × (joined (links_of h) c ls ≡ front ++ links_of h t))
last_limb nodes h c [] st q = (c, refl, st, ([], refl))
last_limb nodes h c (l ∷ ls) st q =
    let r = last_limb nodes h l.child ls q.0 q.1 in
    (r.0, r.1, r.2, (links_of h c ++ r.3.0, ap (λ ys. links_of h c ++ ys) r.3.1 ∙ sym (append_assoc (links_of h c) r.3.0 (links_of h r.0))))

ends_further : (objects : ℕ → Held) (h : ℕ) (s : Shape (suc h)) (t : Shape h) (front : List Link) (r : Result Last TreeError) → links_of (suc h) s ≡ front ++ links_of h t → EndsBy objects h t r → EndsBy objects (suc h) s r
ends_further objects h s t front (Ok last) e l = record { items = l.items; next = l.next; node_is = l.node_is; holds = l.holds; front = front ++ l.front; cut = e ∙ ap (λ ys. front ++ ys) l.cut ∙ sym (append_assoc front l.front (link last.oid l.next ∷ [])) }
ends_further objects h s t front (Err x) e l = l

ends_suits : (objects : ℕ → Held) (h : ℕ) (s : Shape h) (b : Bool) (r : Result Last TreeError) → EndsBy objects h s r → EndsBy objects h s (if b then r else Err BadKey)
ends_suits objects h s true r l = l
ends_suits objects h s false r l = tt

module _ (key : Key) (objects : ℕ → Held) where
  last_here : (room : ℕ) (above : List ℕ) (oid : ℕ) (class : Graph) (n : Node) → stands_in above oid ≡ false → objects oid ≡ Holds class n → last_from key objects (suc room) above oid ≡ (if node_suits key n then last_node (last_from key objects room (above ++ oid ∷ [])) above oid class n else Err BadKey)
  last_here room above oid class n s h =
      last_suc key objects room above oid
      ∙ ap (λ b. if b then Err (NotATree oid) else last_held (last_from key objects room (above ++ oid ∷ [])) key above oid (objects oid)) s
      ∙ ap (last_held (last_from key objects room (above ++ oid ∷ [])) key above oid) h

  pub last_in : (h room : ℕ) (s : Shape h) (above : List ℕ) → h < room → Stands (nodes_in objects) h s → Higher (nodes_in objects) above h → EndsBy objects h s (last_from key objects room above (oid_of h s))
  last_in h zero s above l st a = absurd (omega (arith, l))
  last_in zero (suc room) s above l st a =
      let leaf : Node = node.Leaf (record { items = s.items; next = s.next }) in
      let held = held_as (objects s.oid) leaf st in
      let e = last_here room above s.oid held.0 leaf (not_twice (nodes_in objects) above s.oid 0 s refl st a) held.1 in
      let is : LastIn objects 0 s (record { above = above; oid = s.oid; class = held.0; node = leaf }) = record { items = s.items; next = s.next; node_is = refl; holds = held.1; front = []; cut = refl } in
      subst (EndsBy objects 0 s) (sym e) (ends_suits objects 0 s (node_suits key leaf) (Ok (record { above = above; oid = s.oid; class = held.0; node = leaf })) is)
  last_in (suc h) (suc room) s above l st a =
      let n : Node = node.Inner (inner_of h s) in
      let held = held_as (objects s.oid) n st.0 in
      let e = last_here room above s.oid held.0 n (not_twice (nodes_in objects) above s.oid (suc h) s refl st a) held.1 in
      let a' = higher_last (nodes_in objects) above h (suc h) s.oid s (higher_less (nodes_in objects) above (suc h) h (omega arith) a) refl st (omega arith) in
      let t = last_limb (nodes_in objects) h s.head s.tail st.1 st.2 in
      let r = last_in h room t.0 (above ++ s.oid ∷ []) (omega (arith, l)) t.2 a' in
      let r' : EndsBy objects h t.0 (last_from key objects room (above ++ s.oid ∷ []) (last_child (oid_of h s.head) (map (branch_of h) s.tail))) = subst (λ o. EndsBy objects h t.0 (last_from key objects room (above ++ s.oid ∷ []) o)) t.1 r in
      subst (EndsBy objects (suc h) s) (sym e) (ends_suits objects (suc h) s (node_suits key n) (last_from key objects room (above ++ s.oid ∷ []) (last_child (oid_of h s.head) (map (branch_of h) s.tail))) (ends_further objects h s t.0 t.3.0 (last_from key objects room (above ++ s.oid ∷ []) (last_child (oid_of h s.head) (map (branch_of h) s.tail))) t.3.1 r'))

  -- below the child to the left of a way
  pub last_left : (start : Start) (front : List Link) (l : LeftOf (nodes_in objects) start front) → EndsBy objects l.height l.shape (last_below key objects start)
  last_left start front l =
      let room : l.height < 2 ^ 64 - length start.above = omega (arith, l.room) in
      subst (λ o. EndsBy objects l.height l.shape (last_from key objects (2 ^ 64 - length start.above) start.above o)) l.is (last_in l.height (2 ^ 64 - length start.above) l.shape start.above room l.stands l.above)

  -- ---- what is refused

  relink_safe : (h : ℕ) (s : Shape h) (next : Option ℕ) (r : Result Last TreeError) (e : TreeError) → EndsBy objects h s r → relink next r ≡ Err e → Safe e
  relink_safe h s next (Ok last) e l q = absurd cc
  relink_safe h s next (Err x) e l q = let same : x ≡ e = cc in subst Safe same l

  pub before_safe : (next : Option ℕ) (o : Option Start) (front : List Link) (e : TreeError) → Comes (nodes_in objects) o front → link_before key objects next o ≡ Err e → Safe e
  before_safe next None front e c q = absurd cc
  before_safe next (Some start) front e c q = relink_safe c.height c.shape next (last_below key objects start) e (last_left start front c) q

  shape_held : (h : ℕ) (t : Shape h) → Stands (nodes_in objects) h t → (n : Node) × (nodes_in objects (oid_of h t) ≡ Some n)
  shape_held zero t st = (node.Leaf (record { items = t.items; next = t.next }), st)
  shape_held (suc h) t st = (node.Inner (inner_of h t), st.0)

  first_safe : (child : ℕ) (class : Graph) (n : Node) (e : TreeError) → objects child ≡ Holds class n → known_first (first_held true key child (objects child)) ≡ Err e → Safe e
  first_safe child class n e h q = by_test (true && node_suits key n) (sym (ap (λ z. known_first (first_held true key child z)) h) ∙ q) where
    by_test : (b : Bool) → known_first (if b then Ok (first_of child n) else Err BadKey) ≡ Err e → Safe e
    by_test true q = absurd cc
    by_test false q = let same : BadKey ≡ e = cc in subst Safe same tt

  pub head_safe : (o : Option Start) (e : TreeError) → HeadStands (nodes_in objects) o → first_head key objects o ≡ Err e → Safe e
  head_safe None e s q = absurd cc
  head_safe (Some start) e s q =
      let once = not_twice (nodes_in objects) start.above start.child s.0 s.1 s.2 s.3 s.4 in
      let n = shape_held s.0 s.1 s.3 in
      let held = held_as (objects start.child) n.0 (ap (nodes_in objects) (sym s.2) ∙ n.1) in
      first_safe start.child held.0 n.0 e held.1 (sym (ap (λ b. if b then Err (NotATree start.child) else known_first (first_held true key start.child (objects start.child))) once) ∙ q)
