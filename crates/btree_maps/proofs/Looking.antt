-- Looking up in sound trees.
use Rattle.std.proofs.Common.{◌≡◌, ℕ, ◌^◌, true, List, [], ◌∷◌, ◌++◌, length, Option, None, Result, Ok, Err, refl, sym, ◌∙◌, ap, subst, suc, inl, inr}
use Rattle.std.specs.Prelude.{map, IfOk}
use Rattle.btree_family.specs.declared.key.Key.{Key}
use Rattle.btree_family.specs.declared.bucket.Item.{Item}
use Rattle.btree_family.specs.Keys.{rank_of}
use Rattle.btree_shapes.specs.declared.error.TreeError.{TreeError}
use Rattle.btree_shapes.specs.declared.node.Node.{Node}
use Rattle.btree_shapes.specs.declared.node.Node.TheVariants as node
use Rattle.btree_shapes.specs.declared.path.Step.{Step}
use Rattle.btree_shapes.specs.declared.way.Found.{Found}
use Rattle.btree_shapes.specs.declared.space.Call.{Call}
use Rattle.btree_shapes.specs.Nodes.{Held, value_in, class_held, objects_of}
use Rattle.btree_shapes.specs.Ways.{step_oid, way_for, Answers, family_key, key_way, value_found, value_under, reads_of, TookReads}
use Rattle.btree_shapes.specs.Shapes.{Shape, mapping_of, nodes_in, IsSound, IsLone, IsTree}
use Rattle.btree_shapes.specs.Steps.{root_lone}
use Rattle.btree_maps.proofs.Reaching.{WayTo, way_shape, held_as, items_kind}

way_of_shape : (objects : ℕ → Held) (root kind h : ℕ) (s : Shape h) (key : Key) → rank_of key ≡ kind → IsSound (nodes_in objects) root kind h s → WayTo key h (mapping_of h s) (way_for true key objects root)
way_of_shape objects root kind h s key k i =
    subst (λ oid. WayTo key h (mapping_of h s) (way_for true key objects oid)) i.root_is
    (way_shape objects kind key k h (2 ^ 64) None None s [] i.height i.stands i.bounded i.of_kind tt tt tt)

way_of_lone : (objects : ℕ → Held) (root kind : ℕ) (items : List Item) (key : Key) → rank_of key ≡ kind → IsLone (nodes_in objects) root kind items → WayTo key 0 items (way_for true key objects root)
way_of_lone objects root kind items key k i =
    let lone : Node = node.Lone (record { items = items; next = None }) in
    let held = held_as (objects root) lone i.stands in
    record {
      found = record { path = []; oid = root; class = held.0; node = lone };
      is = root_lone true key objects root held.0 (record { items = items; next = None }) held.1 (items_kind kind key items i.of_kind k);
      value = refl;
      steps = refl;
    }

way_found : (key : Key) (h : ℕ) (m : List Item) (way : Result Found TreeError) → WayTo key h m way → value_found key way ≡ Ok (value_in m key)
way_found key h m way w = ap (value_found key) w.is ∙ ap Ok w.value

call_found : (contents : ℕ → Option (List ℕ)) (root : ℕ) (key : Key) (v : Option (List ℕ)) → family_key (class_held (contents root)) key ≡ true → value_found key (way_for true key (objects_of contents root) root) ≡ Ok v → value_under contents root key ≡ Ok v
call_found contents root key v f e = ap (λ fits. value_found key (way_for fits key (objects_of contents root) root)) f ∙ e

pub value_in_tree : (contents : ℕ → Option (List ℕ)) (root kind : ℕ) (m : List Item) (key : Key) → IsTree (objects_of contents root) root kind m → rank_of key ≡ kind → family_key (class_held (contents root)) key ≡ true → value_under contents root key ≡ Ok (value_in m key)
value_in_tree contents root kind m key (inl i) k f = call_found contents root key (value_in m key) f (way_found key 0 m (way_for true key (objects_of contents root) root) (way_of_lone (objects_of contents root) root kind m key k i))
value_in_tree contents root kind m key (inr (h, s, i, e)) k f =
    let w = way_found key h (mapping_of h s) (way_for true key (objects_of contents root) root) (way_of_shape (objects_of contents root) root kind h s key k i) in
    call_found contents root key (value_in m key) f (w ∙ ap (λ xs. Ok (value_in xs key)) (sym e))

-- what a call answers on a sound tree
pub gets_in_tree : (contents : ℕ → Option (List ℕ)) (root kind : ℕ) (m : List Item) (key : Key) (result : Result (Option (List ℕ)) TreeError) → IsTree (objects_of contents root) root kind m → rank_of key ≡ kind → family_key (class_held (contents root)) key ≡ true → Answers result (value_under contents root key) → Answers result (Ok (value_in m key))
gets_in_tree contents root kind m key result t k f a = subst (Answers result) (value_in_tree contents root kind m key t k f) a

-- ---- what it costs

length_last : (xs : List ℕ) (x : ℕ) → length (xs ++ x ∷ []) ≡ suc (length xs)
length_last [] x = refl
length_last (y ∷ ys) x = ap suc (length_last ys x)

oids_length : (path : List Step) → length (map step_oid path) ≡ length path
oids_length [] = refl
oids_length (s ∷ ss) = ap suc (oids_length ss)

pub reads_in_tree : (contents : ℕ → Option (List ℕ)) (root kind h : ℕ) (s : Shape h) (key : Key) (before after : List Call) → IsSound (nodes_in (objects_of contents root)) root kind h s → rank_of key ≡ kind → family_key (class_held (contents root)) key ≡ true → after ≡ before ++ reads_of (key_way contents root key) → TookReads (suc h) before after
reads_in_tree contents root kind h s key before after i k f e =
    let w = way_of_shape (objects_of contents root) root kind h s key k i in
    let way : key_way contents root key ≡ Ok w.found = ap (λ fits. way_for fits key (objects_of contents root) root) f ∙ w.is in
    record {
      oids = map step_oid w.found.path ++ w.found.oid ∷ [];
      grown = e ∙ ap (λ r. before ++ reads_of r) way;
      count = length_last (map step_oid w.found.path) w.found.oid ∙ ap suc (oids_length w.found.path ∙ w.steps);
    }

pub cost_in_tree : (told : Type 0) (result : Result (Option (List ℕ)) TreeError) (contents : ℕ → Option (List ℕ)) (root : ℕ) (key : Key) (before after : List Call) → IfOk result (λ v. told → after ≡ before ++ reads_of (key_way contents root key)) → (kind h : ℕ) (s : Shape h) → IsSound (nodes_in (objects_of contents root)) root kind h s → rank_of key ≡ kind → family_key (class_held (contents root)) key ≡ true → told → IfOk result (λ v. TookReads (suc h) before after)
cost_in_tree told (Ok v) contents root key before after e kind h s i k f t = reads_in_tree contents root kind h s key before after i k f (e t)
cost_in_tree told (Err x) contents root key before after e kind h s i k f t = tt
