-- The way for a key leads through the shape of a sound tree.
use Rattle.std.proofs.Common.{◌≡◌, ℕ, ◌<◌, Bool, true, false, List, [], ◌∷◌, ◌++◌, Result, Ok, Err, refl, arith, ◌∙◌, ap, zero, suc, inl, inr, ◌⊎◌}
use Rattle.std.specs.Prelude.{if◌then◌else◌, map}
use Rattle.pickle_graph.specs.Graph.{Graph}
use Rattle.btree_family.specs.declared.key.Key.{Key}
use Rattle.btree_family.specs.Keys.{rank_of}
use Rattle.bucket_state.specs.declared.tree.Inner.{Inner}
use Rattle.btree_shapes.specs.declared.error.TreeError.{TreeError}
use Rattle.btree_shapes.specs.declared.error.TreeError.TheVariants.{NotATree, BadKey}
use Rattle.btree_shapes.specs.declared.node.Node.{Node}
use Rattle.btree_shapes.specs.declared.node.Node.TheVariants as node
use Rattle.btree_shapes.specs.declared.path.Step.{Step}
use Rattle.btree_shapes.specs.declared.way.Found.{Found}
use Rattle.btree_shapes.specs.Nodes.{Held, Holds, node_suits, child_for}
use Rattle.btree_shapes.specs.Ways.{stands_in, below_step, down_node, down_held, way_from}
use Rattle.btree_shapes.specs.Shapes.{Shape, Limb, oid_of, branch_of, EachChild, EachLimb, OfKind, nodes_in, Stands}
use Rattle.btree_shapes.specs.Steps.{way_suc}
use Rattle.btree_family.specs.OrderLaws.{below_or}
use Rattle.btree_maps.proofs.Reaching.{Higher, higher_less, higher_last, not_twice, held_as, items_kind, limbs_kind, node_way}
use Rattle.btree_maps.proofs.Limbs.{ForKey}
use Rattle.btree_maps.proofs.Rungs.{PathIn, inner_of}

-- the way ends, and leads through the shape
pub record LeadsIn (objects : ℕ → Held) (key : Key) (h : ℕ) (s : Shape h) (way : Result Found TreeError) : Type 0 where
  pub found : Found
  pub is : way ≡ Ok found
  pub path : PathIn objects key h s found.path found.oid found.class found.node

-- it leads through the child for the key
record LeadsBelow (objects : ℕ → Held) (key : Key) (h : ℕ) (c : Shape h) (ls : List (Limb (Shape h))) (way : Result Found TreeError) : Type 0 where
  found : Found
  is : way ≡ Ok found
  path : ForKey (λ t. PathIn objects key h t found.path found.oid found.class found.node) key c ls

choose_path : (objects : ℕ → Held) (kind : ℕ) (key : Key) (h : ℕ) (way : ℕ → Result Found TreeError) → ((t : Shape h) → Stands (nodes_in objects) h t → OfKind kind h t → LeadsIn objects key h t (way (oid_of h t)))
    → (c : Shape h) (ls : List (Limb (Shape h))) → Stands (nodes_in objects) h c → EachChild (Stands (nodes_in objects) h) ls → OfKind kind h c → EachLimb kind (OfKind kind h) ls → LeadsBelow objects key h c ls (way (child_for (oid_of h c) (map (branch_of h) ls) key))
choose_path objects kind key h way each c [] st sts k ks = let r = each c st k in record { found = r.found; is = r.is; path = r.path }
choose_path objects kind key h way each c (l ∷ ls) st sts k ks = elim (below_or key l.key) [
  | inl less ↦
      let to : child_for (oid_of h c) (map (branch_of h) (l ∷ ls)) key ≡ oid_of h c = ap (λ b. if b then oid_of h c else child_for (oid_of h l.child) (map (branch_of h) ls) key) less in
      let r = each c st k in
      record { found = r.found; is = ap way to ∙ r.is; path = inl (less, r.path) }
  | inr not ↦
      let to : child_for (oid_of h c) (map (branch_of h) (l ∷ ls)) key ≡ child_for (oid_of h l.child) (map (branch_of h) ls) key = ap (λ b. if b then oid_of h c else child_for (oid_of h l.child) (map (branch_of h) ls) key) not in
      let r = choose_path objects kind key h way each l.child ls sts.0 sts.1 ks.1 ks.2 in
      record { found = r.found; is = ap way to ∙ r.is; path = inr (not, r.path) }
]

pub way_in : (objects : ℕ → Held) (kind : ℕ) (key : Key) → rank_of key ≡ kind → (h room : ℕ) (s : Shape h) (above : List ℕ) → h < room → Stands (nodes_in objects) h s → OfKind kind h s → Higher (nodes_in objects) above h → LeadsIn objects key h s (way_from true key objects room above (oid_of h s))
way_in objects kind key rank h zero s above l st k a = absurd (omega arith)
way_in objects kind key rank zero (suc room) s above l st k a =
    let leaf : Node = node.Leaf (record { items = s.items; next = s.next }) in
    let held = held_as (objects s.oid) leaf st in
    record {
      found = record { path = []; oid = s.oid; class = held.0; node = leaf };
      is = node_way objects kind key rank room above s.oid held.0 leaf (not_twice (nodes_in objects) above s.oid 0 s refl st a) held.1 (items_kind kind key s.items k rank);
      path = (refl, refl, held.1);
    }
way_in objects kind key rank (suc h) (suc room) s above l st k a =
    let inner : Inner = inner_of h s in
    let held = held_as (objects s.oid) (node.Inner inner) st.0 in
    let here = node_way objects kind key rank room above s.oid held.0 (node.Inner inner) (not_twice (nodes_in objects) above s.oid (suc h) s refl st a) held.1 (limbs_kind kind h key s.tail k.1 rank) in
    let a' = higher_last (nodes_in objects) above h (suc h) s.oid s (higher_less (nodes_in objects) above (suc h) h (omega arith) a) refl st (omega arith) in
    let step : Step = record { oid = s.oid; class = held.0; inner = inner } in
    let r = choose_path objects kind key h (λ o. way_from true key objects room (above ++ s.oid ∷ []) o) (λ t p q. way_in objects kind key rank h room t (above ++ s.oid ∷ []) (omega arith) p q a') s.head s.tail st.1 st.2 k.0 k.1 in
    record {
      found = record { path = step ∷ r.found.path; oid = r.found.oid; class = r.found.class; node = r.found.node };
      is = here ∙ ap (below_step step) r.is;
      path = (refl, refl, held.1, r.path);
    }

-- ---- keys of any kind

-- the way leads through the shape, or the key is refused
abbrev pub LeadsOr : (ℕ → Held) → Key → (h : ℕ) → Shape h → Result Found TreeError → Type 0
LeadsOr objects key h s way = (way ≡ Err BadKey) ⊎ LeadsIn objects key h s way

choose_or : (objects : ℕ → Held) (key : Key) (h : ℕ) (way : ℕ → Result Found TreeError) → ((t : Shape h) → Stands (nodes_in objects) h t → LeadsOr objects key h t (way (oid_of h t)))
    → (c : Shape h) (ls : List (Limb (Shape h))) → Stands (nodes_in objects) h c → EachChild (Stands (nodes_in objects) h) ls → (way (child_for (oid_of h c) (map (branch_of h) ls) key) ≡ Err BadKey) ⊎ LeadsBelow objects key h c ls (way (child_for (oid_of h c) (map (branch_of h) ls) key))
choose_or objects key h way each c [] st sts = elim (each c st) [
  | inl q ↦ inl q
  | inr r ↦ inr (record { found = r.found; is = r.is; path = r.path })
]
choose_or objects key h way each c (l ∷ ls) st sts = elim (below_or key l.key) [
  | inl less ↦
      let to : child_for (oid_of h c) (map (branch_of h) (l ∷ ls)) key ≡ oid_of h c = ap (λ b. if b then oid_of h c else child_for (oid_of h l.child) (map (branch_of h) ls) key) less in
      elim (each c st) [
        | inl q ↦ inl (ap way to ∙ q)
        | inr r ↦ inr (record { found = r.found; is = ap way to ∙ r.is; path = inl (less, r.path) })
      ]
  | inr not ↦
      let to : child_for (oid_of h c) (map (branch_of h) (l ∷ ls)) key ≡ child_for (oid_of h l.child) (map (branch_of h) ls) key = ap (λ b. if b then oid_of h c else child_for (oid_of h l.child) (map (branch_of h) ls) key) not in
      elim (choose_or objects key h way each l.child ls sts.0 sts.1) [
        | inl q ↦ inl (ap way to ∙ q)
        | inr r ↦ inr (record { found = r.found; is = ap way to ∙ r.is; path = inr (not, r.path) })
      ]
]

node_or : (objects : ℕ → Held) (key : Key) (room : ℕ) (above : List ℕ) (oid : ℕ) (class : Graph) (n : Node) → stands_in above oid ≡ false → objects oid ≡ Holds class n → way_from true key objects (suc room) above oid ≡ (if node_suits key n then down_node (way_from true key objects room (above ++ oid ∷ [])) key oid class n else Err BadKey)
node_or objects key room above oid class n s h =
    way_suc true key objects room above oid
    ∙ ap (λ b. if b then Err (NotATree oid) else down_held (way_from true key objects room (above ++ oid ∷ [])) true key oid (objects oid)) s
    ∙ ap (down_held (way_from true key objects room (above ++ oid ∷ [])) true key oid) h

-- further on, where the key is of the kind of an object's keys
step_or : (objects : ℕ → Held) (key : Key) (h : ℕ) (s : Shape h) (b : Bool) (way below : Result Found TreeError) → way ≡ (if b then below else Err BadKey) → LeadsOr objects key h s below → LeadsOr objects key h s way
step_or objects key h s false way below e l = inl e
step_or objects key h s true way below e (inl q) = inl (e ∙ q)
step_or objects key h s true way below e (inr r) = inr (record { found = r.found; is = e ∙ r.is; path = r.path })

pub way_or : (objects : ℕ → Held) (key : Key) (h room : ℕ) (s : Shape h) (above : List ℕ) → h < room → Stands (nodes_in objects) h s → Higher (nodes_in objects) above h → LeadsOr objects key h s (way_from true key objects room above (oid_of h s))
way_or objects key h zero s above l st a = absurd (omega (arith, l))
way_or objects key zero (suc room) s above l st a =
    let leaf : Node = node.Leaf (record { items = s.items; next = s.next }) in
    let held = held_as (objects s.oid) leaf st in
    let e = node_or objects key room above s.oid held.0 leaf (not_twice (nodes_in objects) above s.oid 0 s refl st a) held.1 in
    let found : Found = record { path = []; oid = s.oid; class = held.0; node = leaf } in
    step_or objects key 0 s (node_suits key leaf) (way_from true key objects (suc room) above s.oid) (Ok found) e (inr (record { found = found; is = refl; path = (refl, refl, held.1) }))
way_or objects key (suc h) (suc room) s above l st a =
    let n : Node = node.Inner (inner_of h s) in
    let held = held_as (objects s.oid) n st.0 in
    let e = node_or objects key room above s.oid held.0 n (not_twice (nodes_in objects) above s.oid (suc h) s refl st a) held.1 in
    let a' = higher_last (nodes_in objects) above h (suc h) s.oid s (higher_less (nodes_in objects) above (suc h) h (omega arith) a) refl st (omega arith) in
    let step : Step = record { oid = s.oid; class = held.0; inner = inner_of h s } in
    let further : ℕ → Result Found TreeError = λ o. way_from true key objects room (above ++ s.oid ∷ []) o in
    let child = child_for (oid_of h s.head) (map (branch_of h) s.tail) key in
    step_or objects key (suc h) s (node_suits key n) (way_from true key objects (suc room) above s.oid) (below_step step (further child)) e
    (elim (choose_or objects key h further (λ t p. way_or objects key h room t (above ++ s.oid ∷ []) (omega (arith, l)) p a') s.head s.tail st.1 st.2) [
      | inl q ↦ inl (ap (below_step step) q)
      | inr r ↦ inr (record {
        found = record { path = step ∷ r.found.path; oid = r.found.oid; class = r.found.class; node = r.found.node };
        is = ap (below_step step) r.is;
        path = (refl, refl, held.1, r.path);
      })
    ])
