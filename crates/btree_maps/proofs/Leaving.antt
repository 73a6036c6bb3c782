-- What a remove makes of a whole tree.
use Rattle.std.proofs.Common.{◌≡◌, ℕ, ◌<◌, ◌^◌, Bool, true, false, List, [], ◌∷◌, Option, Some, None, refl, sym, ◌∙◌, ap, subst, zero, suc, inl, inr}
use Rattle.std.specs.Prelude.{map, nat_eq, ◌||◌}
use Rattle.btree_family.specs.declared.key.Key.{Key}
use Rattle.btree_family.specs.declared.bucket.Item.{Item}
use Rattle.bucket_state.specs.declared.tree.Branch.{Branch}
use Rattle.btree_shapes.specs.declared.node.Node.{Node}
use Rattle.btree_shapes.specs.Nodes.{Held, place_for}
use Rattle.btree_shapes.specs.Ways.{stands_in}
use Rattle.btree_shapes.specs.Shapes.{LeafShape, Shape, oid_of, Bounded, mapping_of, nodes_in, Stands, links_of, Linked, first_leaf, IsSound, IsLone, IsTree}
use Rattle.btree_putting.specs.declared.puts.Put.{Put}
use Rattle.btree_putting.specs.Puts.{put_oid, lone_node}
use Rattle.btree_removing.specs.Types.{Loss, Rest, Same, First, Gone, Rung}
use Rattle.btree_removing.specs.Items.{remove_item}
use Rattle.btree_removing.specs.Rungs.{rung_oid}
use Rattle.btree_removing.specs.Losses.{put_rung, lose_head, lose_child, lose_by, raise}
use Rattle.btree_shapes.specs.ChainLaws.{Avoids, In, Distinct, avoids_in}
use Rattle.btree_maps.proofs.Dropping.{cut_links}
use Rattle.btree_maps.proofs.Limbs.{chosen, Fine, fine_inner}
use Rattle.btree_maps.proofs.Onways.{same_links}
use Rattle.btree_maps.proofs.Putting.{AllPut, all_parts, or_left, or_right, or_end, or_cases, bool_cases, same_number}
use Rattle.btree_maps.proofs.Losing.{WayIn, fine_head, fine_tail, loss_off, move_gone, way_there, way_apart}
use Rattle.btree_maps.proofs.Shrinking.{Shrunk, kept}
use Rattle.btree_maps.proofs.Fading.{Fate, shrink}

-- ---- the root, where all leaves

head_put : (nodes' : ℕ → Option Node) (known : Option ℕ) (rung : Rung) (bs : List Branch) (puts : List Put) → (lose_head known rung bs puts).rest ≡ Gone → AllPut nodes' (lose_head known rung bs puts).puts → nodes' rung.oid ≡ Some (lone_node [] None)
head_put nodes' known rung [] puts e po = (all_parts nodes' puts (put_rung rung (lone_node [] None) ∷ []) po).1.0
head_put nodes' known rung (b ∷ bs) puts e po = absurd cc

child_put : (nodes' : ℕ → Option Node) (place : ℕ) (known : Option ℕ) (rung : Rung) (puts : List Put) → (lose_child place known rung puts).rest ≡ Gone → AllPut nodes' (lose_child place known rung puts).puts → nodes' rung.oid ≡ Some (lone_node [] None)
child_put nodes' zero known rung puts e po = head_put nodes' known rung rung.inner.tail puts e po
child_put nodes' (suc place) known rung puts e po = absurd cc

-- an object without children is left as one without items
lose_put : (nodes' : ℕ → Option Node) (place : ℕ) (known : Option ℕ) (rung : Rung) (r : Rest) (puts : List Put) → (lose_by place known rung r puts).rest ≡ Gone → AllPut nodes' (lose_by place known rung r puts).puts → nodes' rung.oid ≡ Some (lone_node [] None)
lose_put nodes' place known rung Gone puts e po = child_put nodes' place known rung puts e po
lose_put nodes' place known rung (First first) puts e po = absurd (move_gone place first rung puts e)
lose_put nodes' place known rung Same puts e po = absurd cc

or_second : (a b : Bool) → b ≡ true → (a || b) ≡ true
or_second true b e = refl
or_second false b e = e

or_first : (a b : Bool) → a ≡ true → (a || b) ≡ true
or_first true b e = refl
or_first false b e = absurd cc

-- ---- subtrees that stay

module _ (nodes : ℕ → Option Node) (objects' : ℕ → Held) (root kind : ℕ) (key : Key) (known : Option ℕ) (base : Loss) (leaf : LeafShape) (e : Bool) (one : map put_oid base.puts ≡ leaf.oid ∷ []) where
  abbrev nodes' : ℕ → Option Node
  nodes' = nodes_in objects'

  abbrev Way : (h : ℕ) → Shape h → List Rung → Type 0
  Way h s rungs = WayIn key known base leaf h s rungs

  abbrev lost : List Rung → List Put
  lost rungs = (raise key known rungs base).puts

  -- all other nodes stay
  abbrev Stay : List Rung → Type 0
  Stay rungs = (q : ℕ) → stands_in (map put_oid (lost rungs)) q ≡ false → nodes' q ≡ nodes q

  -- the leaf is below each object of the way
  on_way : (h : ℕ) (s : Shape h) (rungs : List Rung) (q : ℕ) → Fine nodes kind h s → Way h s rungs → stands_in (leaf.oid ∷ map rung_oid rungs) q ≡ true → (h' : ℕ) (t : Shape h') → Stands nodes h' t → oid_of h' t ≡ q → In leaf.oid (links_of h' t)
  on_way zero s [] q f w i h' t st o =
      let same : leaf.oid ≡ q = same_number leaf.oid q (or_end (nat_eq leaf.oid q) i) in
      let at : leaf.oid ≡ s.oid = ap (λ (z : LeafShape). z.oid) w in
      subst (In leaf.oid) (same_links nodes 0 h' s t f.0 st (sym at ∙ same ∙ sym o)) (inl (sym at))
  on_way zero s (x ∷ xs) q f w i h' t st o = absurd w
  on_way (suc h) s [] q f w i h' t st o = absurd w
  on_way (suc h) s (x ∷ xs) q f w i h' t st o =
      let c = chosen (λ c. Way h c xs) (Fine nodes kind h) kind key s.head s.tail w.3 (fine_head nodes kind h s f) (fine_tail nodes kind h s f) in
      elim (or_cases (nat_eq leaf.oid q) (stands_in (map rung_oid (x ∷ xs)) q) i) [
        | inl k ↦ on_way h c.0 xs q c.2 c.1 (or_first (nat_eq leaf.oid q) (stands_in (map rung_oid xs) q) k) h' t st o
        | inr k ↦ elim (or_cases (nat_eq x.oid q) (stands_in (map rung_oid xs) q) k) [
          | inl n ↦
              let same : x.oid ≡ q = same_number x.oid q n in
              subst (In leaf.oid) (same_links nodes (suc h) h' s t f.0 st (sym w.0 ∙ same ∙ sym o)) (way_there nodes kind key known base leaf (suc h) s (x ∷ xs) w)
          | inr n ↦ on_way h c.0 xs q c.2 c.1 (or_second (nat_eq leaf.oid q) (stands_in (map rung_oid xs) q) n) h' t st o
        ]
      ]

  off_way : (H : ℕ) (S : Shape H) (rungs : List Rung) → Fine nodes kind H S → Way H S rungs → (h : ℕ) (t : Shape h) → Fine nodes kind h t → Avoids leaf.oid (links_of h t) → stands_in (map put_oid (lost rungs)) (oid_of h t) ≡ false
  off_way H S rungs f w h t ft a = elim (bool_cases (stands_in (leaf.oid ∷ map rung_oid rungs) (oid_of h t))) [
    | inl i ↦ absurd (avoids_in leaf.oid (links_of h t) a (on_way H S rungs (oid_of h t) f w i h t ft.0 refl))
    | inr n ↦ loss_off key known base leaf.oid one rungs (oid_of h t) (or_left (nat_eq leaf.oid (oid_of h t)) (stands_in (map rung_oid rungs) (oid_of h t)) n) (or_right (nat_eq leaf.oid (oid_of h t)) (stands_in (map rung_oid rungs) (oid_of h t)) n)
  ]

  -- the subtrees without the leaf stay
  keeps : (H : ℕ) (S : Shape H) (rungs : List Rung) → Fine nodes kind H S → Way H S rungs → Stay rungs → (h : ℕ) (t : Shape h) → Fine nodes kind h t → Avoids leaf.oid (links_of h t) → Fine nodes' kind h t
  keeps H S rungs f w stay zero t ft a = (stay t.oid (off_way H S rungs f w 0 t ft a) ∙ ft.0, ft.1, ft.2)
  keeps H S rungs f w stay (suc h) t ft a =
      let r = kept nodes nodes' kind key leaf.oid e h (keeps H S rungs f w stay h) t.head t.tail (fine_head nodes kind h t ft) (fine_tail nodes kind h t ft) a in
      fine_inner nodes' kind h t (stay t.oid (off_way H S rungs f w (suc h) t ft a) ∙ ft.0.0) ft.1.0 r.0 r.1

  -- ---- the whole tree

  shrunk_tree : (h first : ℕ) (s : Shape h) (m : List Item) → h < 2 ^ 64 → oid_of h s ≡ root → m ≡ mapping_of h s → Linked (cut_links e leaf.oid (links_of h s)) → Shrunk nodes' kind key leaf.oid e h None None first s → IsTree objects' root kind (remove_item m key)
  shrunk_tree h first s m lt o i l t =
      let sound : IsSound nodes' root kind h t.after = record { root_is = t.oid ∙ o; height = lt; stands = t.fine.0; bounded = t.bounded; of_kind = t.fine.2; names = t.fine.1; linked = subst Linked (sym t.links) l } in
      inr (h, t.after, sound, ap (λ z. remove_item z key) i ∙ sym t.mapping)

  empty_tree : (m : List Item) → nodes' root ≡ Some (lone_node [] None) → remove_item m key ≡ [] → IsTree objects' root kind (remove_item m key)
  empty_tree m st e =
      let lone : IsLone nodes' root kind [] = record { stands = st; rises = tt; of_kind = tt } in
      inl (subst (IsLone nodes' root kind) (sym e) lone)

  tree_after : (h : ℕ) (s : Shape h) (m : List Item) (r : Rest) → h < 2 ^ 64 → oid_of h s ≡ root → m ≡ mapping_of h s → Linked (cut_links e leaf.oid (links_of h s)) → Fate nodes' kind key leaf.oid e h None None s r → (r ≡ Gone → nodes' root ≡ Some (lone_node [] None)) → IsTree objects' root kind (remove_item m key)
  tree_after h s m Same lt o i l t g = shrunk_tree h (first_leaf h s) s m lt o i l t
  tree_after h s m (First x) lt o i l t g = shrunk_tree h x s m lt o i l t.0
  tree_after h s m Gone lt o i l t g = empty_tree m (g refl) (ap (λ z. remove_item z key) i ∙ t.mapping)

  pub tree_removed : (h : ℕ) (s : Shape (suc h)) (rungs : List Rung) (m : List Item) → suc h < 2 ^ 64 → Fine nodes kind (suc h) s → Bounded (suc h) None None s → Distinct (links_of (suc h) s) → Linked (cut_links e leaf.oid (links_of (suc h) s)) → s.oid ≡ root → m ≡ mapping_of (suc h) s → Way (suc h) s rungs
      → ((low high : Option Key) → Fine nodes kind 0 leaf → Bounded 0 low high leaf → AllPut nodes' base.puts → Fate nodes' kind key leaf.oid e 0 low high leaf base.rest)
      → AllPut nodes' (lost rungs) → Stay rungs → IsTree objects' root kind (remove_item m key)
  tree_removed h s [] m lt f b d l o i w bottom po stay = absurd w
  tree_removed h s (x ∷ xs) m lt f b d l o i w bottom po stay =
      let c = raise key known xs base in
      let fate = shrink nodes nodes' kind key known base leaf e one (keeps (suc h) s (x ∷ xs) f w stay) bottom (suc h) None None s (x ∷ xs) f b tt tt d w (way_apart nodes kind key known base leaf (suc h) s (x ∷ xs) f w) po (λ same. stay) in
      tree_after (suc h) s m (raise key known (x ∷ xs) base).rest lt o i l fate (λ gone. ap nodes' (sym o ∙ sym w.0) ∙ lose_put nodes' (place_for x.inner.tail key) known x c.rest c.puts gone po)
