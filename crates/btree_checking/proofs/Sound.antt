-- The verdict and sound trees.
use Rattle.std.proofs.Common.{◌≡◌, ℕ, ◌+◌, ◌-◌, ◌^◌, true, List, [], ◌∷◌, length, Option, Some, None, Result, Ok, Err, inl, inr, refl, arith, sym, ◌∙◌, ap, subst, append-nil}
use Rattle.std.specs.Prelude.{IfOk}
use Rattle.pickle_graph.specs.Graph.{Graph}
use Rattle.btree_family.specs.declared.bucket.Item.{Item}
use Rattle.btree_family.specs.declared.key.Key.{Key}
use Rattle.btree_family.specs.Buckets.{BucketContents, keys_of}
use Rattle.bucket_state.specs.States.{stand_in_row}
use Rattle.btree_shapes.specs.declared.node.Node.{Node}
use Rattle.btree_shapes.specs.declared.node.Node.TheVariants as node
use Rattle.btree_shapes.specs.Nodes.{Held, Nothing, Foreign, Holds, objects_of}
use Rattle.btree_shapes.specs.Shapes.{Shape, node_held, nodes_in, mapping_of, Linked, IsSound, IsLone, IsTree}
use Rattle.btree_checking.specs.declared.links.Pointer.{Pointer}
use Rattle.btree_checking.specs.declared.links.Pointer.TheVariants.{Next}
use Rattle.btree_checking.specs.declared.verdict.Verdict.{Verdict}
use Rattle.btree_checking.specs.declared.verdict.Verdict.TheVariants.{Sound, Broken}
use Rattle.btree_checking.specs.Rules.{Tour, are_within, rule_broken, with_visit}
use Rattle.btree_checking.specs.Walks.{Stop, visit_held, visit, root_place, fresh_tour, walk_of}
use Rattle.btree_checking.specs.Verdicts.{names_first, names_next, first_wrong, wrong_link, linked_verdict, verdict_after, verdict_of}
use Rattle.btree_checking.specs.Laws.{size_of, IsTreeOf, CheckedIsSound, SoundIsChecked, MeansTree}
use Rattle.btree_shapes.specs.ChainLaws.{distinct_links}
use Rattle.btree_checking.proofs.Tests.{Agrees, none_broken, kind_of_items, row_rises, kind_back}
use Rattle.btree_checking.proofs.Shaped.{visits_of, count_visits, links_visited, linked_right, right_linked, names_right, right_names, no_wrong, none_wrong}
use Rattle.btree_checking.proofs.Steps.{visit_suc, visit_right}
use Rattle.btree_checking.proofs.Finding.{held_as, Ready, find_shape}
use Rattle.btree_checking.proofs.Building.{InRow, unbroken, build}

-- ---- a sound tree is found so

verdict_by : (after : Tour) (visits : List (ℕ × Pointer)) (items : ℕ) → after.visits ≡ visits → after.items ≡ items → wrong_link visits ≡ None → linked_verdict after (wrong_link after.visits) ≡ Sound items (length visits)
verdict_by after visits items v n w =
    ap (linked_verdict after) (ap wrong_link v ∙ w) ∙ ap (λ m. Sound m (length after.visits)) n ∙ ap (λ vs. Sound items (length vs)) v

shape_linked : (nodes : ℕ → Option Node) (root kind h : ℕ) (s : Shape h) → IsSound nodes root kind h s → wrong_link (visits_of h s) ≡ None
shape_linked nodes root kind h s i =
    let names = ap (first_wrong names_first) (sym (append-nil (visits_of h s))) ∙ names_right h s [] i.names in
    let nexts = linked_right (visits_of h s) (subst Linked (sym (links_visited h s)) i.linked) in
    no_wrong (first_wrong names_first (visits_of h s)) (first_wrong names_next (visits_of h s)) names nexts

shape_checked : (objects : ℕ → Held) (root kind h : ℕ) (s : Shape h) → IsSound (nodes_in objects) root kind h s → verdict_of objects root ≡ Sound (length (mapping_of h s)) (size_of h s)
shape_checked objects root kind h s i =
    let ready : Ready (nodes_in objects) kind h h [] fresh_tour = record { kind_met = tt; depth_met = tt; passed = λ x w. absurd cc } in
    let t = find_shape objects kind h h (2 ^ 64) 0 i.height (omega arith) s None None [] fresh_tour i.stands i.bounded i.of_kind (distinct_links (nodes_in objects) h s i.stands i.linked) ready in
    ap (λ r. verdict_of objects r) (sym i.root_is) ∙ ap verdict_after t.is
    ∙ verdict_by t.after (visits_of h s) (length (mapping_of h s)) t.visited (let c = t.counted in omega (arith, c)) (shape_linked (nodes_in objects) root kind h s i)
    ∙ ap (Sound (length (mapping_of h s))) (count_visits h s)

free_within : (keys : List Key) → are_within None None keys ≡ true
free_within [] = refl
free_within (key ∷ keys) = free_within keys

lone_checked : (objects : ℕ → Held) (root kind : ℕ) (items : List Item) → IsLone (nodes_in objects) root kind items → verdict_of objects root ≡ Sound (length items) 1
lone_checked objects root kind items i =
    let bucket : BucketContents = record { items = items; next = None } in
    let held = held_as (objects root) (node.Lone bucket) i.stands in
    let whole = none_broken (root_place root) fresh_tour (node.Lone bucket) refl refl (free_within (keys_of items)) refl in
    let none : 0 + length items ≡ length items = omega arith in
    ap verdict_after (visit_right objects (2 ^ 64 - 1) (root_place root) fresh_tour held.0 (node.Lone bucket) held.1 refl whole) ∙ ap (λ n. Sound n 1) none

pub sound_checked : SoundIsChecked
sound_checked objects root kind nodes mapping (inl (i, n)) = lone_checked objects root kind mapping i ∙ ap (Sound (length mapping)) (sym n)
sound_checked objects root kind nodes mapping (inr (h, s, i, m, n)) =
    shape_checked objects root kind h s i ∙ ap (λ xs. Sound (length xs) (size_of h s)) (sym m) ∙ ap (Sound (length mapping)) (sym n)

-- ---- what is found sound is a sound tree

sound_link : (tour : Tour) (link : Option ℕ) (items nodes : ℕ) → linked_verdict tour link ≡ Sound items nodes → (link ≡ None) × (tour.items ≡ items) × (length tour.visits ≡ nodes)
sound_link tour None items nodes e = (refl, cc, cc)
sound_link tour (Some oid) items nodes e = absurd cc

sound_walk : (r : Result Tour Stop) (items nodes : ℕ) → verdict_after r ≡ Sound items nodes → (tour : Tour) × (r ≡ Ok tour) × (wrong_link tour.visits ≡ None) × (tour.items ≡ items) × (length tour.visits ≡ nodes)
sound_walk (Ok tour) items nodes e = let s = sound_link tour (wrong_link tour.visits) items nodes e in (tour, refl, s.0, s.1, s.2)
sound_walk (Err stop) items nodes e = absurd cc

some_kind : (met : Option ℕ) → (kind : ℕ) × Agrees met kind
some_kind None = (0, tt)
some_kind (Some kind) = (kind, refl)

abbrev pub IsFound : (ℕ → Held) → ℕ → ℕ → ℕ → Type 0
IsFound objects root items nodes = (kind : ℕ) × (mapping : List Item) × IsTreeOf objects root kind mapping nodes × (items ≡ length mapping)

module _ (objects : ℕ → Held) (rows : (oid : ℕ) → InRow (objects oid)) (root items nodes : ℕ) (tour : Tour) (walked : walk_of objects root ≡ Ok tour) (linked : wrong_link tour.visits ≡ None) (counted : tour.items ≡ items) (sized : length tour.visits ≡ nodes) where
  found_shape : ((class : Graph) (b : BucketContents) → objects root ≡ Holds class (node.Lone b) → ⊥) → IsFound objects root items nodes
  found_shape n =
      let m = build objects rows (2 ^ 64) (root_place root) fresh_tour tour (λ class b e z. n class b e) walked in
      let k = some_kind tour.kind in
      let w = none_wrong (first_wrong names_first tour.visits) (first_wrong names_next tour.visits) linked in
      let names = right_names m.0 m.1.shape [] (ap (first_wrong names_first) (append-nil (visits_of m.0 m.1.shape) ∙ sym m.1.visited) ∙ w.0) in
      let nexts = right_linked (visits_of m.0 m.1.shape) (ap (first_wrong names_next) (sym m.1.visited) ∙ w.1) in
      let c = m.1.counted in (
        k.0,
        mapping_of m.0 m.1.shape,
        inr (
          m.0,
          m.1.shape,
          record {
            root_is = m.1.is;
            height = m.1.lower;
            stands = m.1.stands;
            bounded = m.1.bounded;
            of_kind = (m.1.kinds k.0 k.1).1;
            names = names.0;
            linked = subst Linked (links_visited m.0 m.1.shape) nexts;
          },
          refl,
          sym sized ∙ ap length m.1.visited ∙ count_visits m.0 m.1.shape,
        ),
        omega (arith, c, counted),
      )

  found_lone : (class : Graph) (b : BucketContents) → objects root ≡ Holds class (node.Lone b) → IsFound objects root items nodes
  found_lone class b o =
      let below = visit objects (2 ^ 64 - 1) in
      let e = ap (visit_held below (root_place root) fresh_tour) (sym o) ∙ sym (visit_suc objects (2 ^ 64 - 1) (root_place root) fresh_tour) ∙ walked in
      let r = unbroken below (root_place root) fresh_tour tour (node.Lone b) (rule_broken (root_place root) fresh_tour (node.Lone b)) e in
      let same : with_visit (root_place root) fresh_tour (node.Lone b) ≡ tour = cc in
      let w = none_wrong (first_wrong names_first tour.visits) (first_wrong names_next tour.visits) linked in
      let n : b.next ≡ None = right_linked ((root, Next b.next) ∷ []) (ap (λ t. first_wrong names_next t.visits) same ∙ w.1) in
      let row : stand_in_row None (keys_of b.items) ≡ true = subst InRow o (rows root) in
      let none : 0 + length b.items ≡ length b.items = omega arith in
      let k = some_kind tour.kind in
      let kinds = kind_back None k.0 (keys_of b.items) row refl (subst (λ t. Agrees t.kind k.0) (sym same) k.1) in (
        k.0,
        b.items,
        inl (
          record {
            stands = ap node_held o ∙ ap (λ next. Some (node.Lone (record { items = b.items; next = next }))) n;
            rises = row_rises None (keys_of b.items) row;
            of_kind = kind_of_items k.0 b.items kinds.1;
          },
          sym sized ∙ ap (λ t. length t.visits) (sym same),
        ),
        sym counted ∙ ap (λ t. t.items) (sym same) ∙ none,
      )

  found_by : (held : Held) → objects root ≡ held → IsFound objects root items nodes
  found_by Nothing o = found_shape (λ class b e. cc)
  found_by Foreign o = found_shape (λ class b e. cc)
  found_by (Holds class (node.Lone b)) o = found_lone class b o
  found_by (Holds class (node.Leaf b)) o = found_shape (λ class b e. cc)
  found_by (Holds class (node.Inner i)) o = found_shape (λ class b e. cc)

pub checked_sound : (objects : ℕ → Held) → ((oid : ℕ) → InRow (objects oid)) → (root items nodes : ℕ) → verdict_of objects root ≡ Sound items nodes → IsFound objects root items nodes
checked_sound objects rows root items nodes e =
    let s = sound_walk (walk_of objects root) items nodes e in
    found_by objects rows root items nodes s.0 s.1 s.2 s.3 s.4 (objects root) refl

-- a tree that is sound has so many objects
pub tree_of : (objects : ℕ → Held) (root kind : ℕ) (mapping : List Item) → IsTree objects root kind mapping → (nodes : ℕ) × IsTreeOf objects root kind mapping nodes
tree_of objects root kind mapping (inl i) = (1, inl (i, refl))
tree_of objects root kind mapping (inr (h, s, i, m)) = (size_of h s, inr (h, s, i, m, refl))

-- ---- what a verdict means

verdict_means : CheckedIsSound → (contents : ℕ → Option (List ℕ)) (root : ℕ) (verdict : Verdict) → verdict ≡ verdict_of (objects_of contents root) root → MeansTree contents root verdict
verdict_means checked contents root (Sound items nodes) e = checked contents root items nodes (sym e)
verdict_means checked contents root (Broken oid rule) e = λ kind mapping tree.
    let n = tree_of (objects_of contents root) root kind mapping tree in
    let found = sound_checked (objects_of contents root) root kind n.0 mapping n.1 in
    let bad : Broken oid rule ≡ Sound (length mapping) n.0 = e ∙ found in cc

pub means_tree : {E : Type 0} (contents : ℕ → Option (List ℕ)) (root : ℕ) (result : Result Verdict E) → CheckedIsSound → IfOk result (λ verdict. verdict ≡ verdict_of (objects_of contents root) root) → IfOk result (λ verdict. MeansTree contents root verdict)
means_tree contents root (Ok verdict) checked e = verdict_means checked contents root verdict e
means_tree contents root (Err error) checked e = tt
