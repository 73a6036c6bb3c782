-- What the way for a key finds in a sound tree.
use Rattle.std.proofs.Common.{◌≡◌, ℕ, ◌^◌, Bool, true, false, List, [], None, Result, Ok, Err, refl, sym, ◌∙◌, ap, subst, zero, suc, inl, inr, ◌⊎◌}
use Rattle.pickle_graph.specs.Graph.{Graph}
use Rattle.btree_family.specs.declared.key.Key.{Key}
use Rattle.btree_family.specs.declared.bucket.Item.{Item}
use Rattle.btree_family.specs.Keys.{rank_of}
use Rattle.btree_shapes.specs.declared.error.TreeError.{TreeError}
use Rattle.btree_shapes.specs.declared.error.TreeError.TheVariants.{BadKey}
use Rattle.btree_shapes.specs.declared.node.Node.{Node}
use Rattle.btree_shapes.specs.declared.node.Node.TheVariants as node
use Rattle.btree_shapes.specs.declared.way.Found.{Found}
use Rattle.btree_shapes.specs.Nodes.{Held, Holds, node_suits}
use Rattle.btree_shapes.specs.Ways.{way_for}
use Rattle.btree_shapes.specs.Shapes.{Shape, nodes_in, IsSound, IsLone, IsTree}
use Rattle.btree_shapes.specs.Steps.{root_lone, root_bad_key}
use Rattle.btree_maps.proofs.Reaching.{held_as, items_kind}
use Rattle.btree_maps.proofs.Rungs.{inner_of}
use Rattle.btree_maps.proofs.Putting.{bool_cases}
use Rattle.btree_maps.proofs.Paths.{LeadsIn, LeadsOr, way_in, way_or}

pub one_found : (way : Result Found TreeError) (a b : Found) → way ≡ Ok a → way ≡ Ok b → a ≡ b
one_found (Ok f) a b p q = let x : f ≡ a = cc in let y : f ≡ b = cc in sym x ∙ y
one_found (Err e) a b p q = absurd cc

pub err_ok : (r : Result Found TreeError) (x : TreeError) (found : Found) → r ≡ Err x → r ≡ Ok found → ⊥
err_ok r x found p q = cc

pub fits_true : (fits : Bool) (key : Key) (objects : ℕ → Held) (root : ℕ) (class : Graph) (n : Node) (found : Found) → objects root ≡ Holds class n → way_for fits key objects root ≡ Ok found → fits ≡ true
fits_true true key objects root class n found h w = refl
fits_true false key objects root class n found h w = let bad = root_bad_key false key objects root class n h refl in absurd (err_ok (way_for false key objects root) BadKey found bad w)

abbrev pub lone_found : ℕ → Graph → List Item → Found
lone_found root class items = record { path = []; oid = root; class = class; node = node.Lone (record { items = items; next = None }) }

pub lone_way : (objects : ℕ → Held) (root kind : ℕ) (items : List Item) (key : Key) → rank_of key ≡ kind → IsLone (nodes_in objects) root kind items → (class : Graph) × (objects root ≡ Holds class (node.Lone (record { items = items; next = None }))) × (way_for true key objects root ≡ Ok (lone_found root class items))
lone_way objects root kind items key k i =
    let held = held_as (objects root) (node.Lone (record { items = items; next = None })) i.stands in
    (held.0, held.1, root_lone true key objects root held.0 (record { items = items; next = None }) held.1 (items_kind kind key items i.of_kind k))

pub shape_way : (objects : ℕ → Held) (root kind h : ℕ) (s : Shape h) (key : Key) → rank_of key ≡ kind → IsSound (nodes_in objects) root kind h s → LeadsIn objects key h s (way_for true key objects root)
shape_way objects root kind h s key k i = subst (λ o. LeadsIn objects key h s (way_for true key objects o)) i.root_is (way_in objects kind key k h (2 ^ 64) s [] i.height i.stands i.of_kind tt)

-- the same for keys of any kind, which may be refused
pub lone_or : (objects : ℕ → Held) (root kind : ℕ) (items : List Item) (key : Key) → IsLone (nodes_in objects) root kind items → (class : Graph) × (objects root ≡ Holds class (node.Lone (record { items = items; next = None }))) × ((way_for true key objects root ≡ Err BadKey) ⊎ (way_for true key objects root ≡ Ok (lone_found root class items)))
lone_or objects root kind items key i =
    let lone : Node = node.Lone (record { items = items; next = None }) in
    let held = held_as (objects root) lone i.stands in (
      held.0,
      held.1,
      elim (bool_cases (node_suits key lone)) [
        | inl t ↦ inr (root_lone true key objects root held.0 (record { items = items; next = None }) held.1 t)
        | inr f ↦ inl (root_bad_key true key objects root held.0 lone held.1 f)
      ],
    )

pub shape_or : (objects : ℕ → Held) (root kind h : ℕ) (s : Shape h) (key : Key) → IsSound (nodes_in objects) root kind h s → LeadsOr objects key h s (way_for true key objects root)
shape_or objects root kind h s key i = subst (λ o. LeadsOr objects key h s (way_for true key objects o)) i.root_is (way_or objects key h (2 ^ 64) s [] i.height i.stands tt)

-- the object at the root
pub root_held : (objects : ℕ → Held) (root kind : ℕ) (mapping : List Item) → IsTree objects root kind mapping → (class : Graph) × (n : Node) × (objects root ≡ Holds class n)
root_held objects root kind mapping (inl i) = let held = held_as (objects root) (node.Lone (record { items = mapping; next = None })) i.stands in (held.0, node.Lone (record { items = mapping; next = None }), held.1)
root_held objects root kind mapping (inr (zero, s, i, e)) =
    let n : Node = node.Leaf (record { items = s.items; next = s.next }) in
    let held = held_as (objects root) n (ap (nodes_in objects) (sym i.root_is) ∙ i.stands) in
    (held.0, n, held.1)
root_held objects root kind mapping (inr (suc h, s, i, e)) =
    let n : Node = node.Inner (inner_of h s) in
    let held = held_as (objects root) n (ap (nodes_in objects) (sym i.root_is) ∙ i.stands.0) in
    (held.0, n, held.1)
