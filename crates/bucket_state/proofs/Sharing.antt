-- Nodes of a copy are shared as those of the graph.
use Rattle.std.proofs.Common.{◌≡◌, ℕ, zero, suc, ◌+◌, ◌≤◌, Bool, true, false, cond, List, [], ◌∷◌, ◌++◌, length, Option, Some, None, refl, sym, ◌∙◌, ap, arith}
use Rattle.std.specs.Prelude.{slice_get, nat_lt}
use Rattle.pickle_graph.specs.declared.node.Node.{Node}
use Rattle.pickle_writing.specs.declared.depth.TheConstants.{WALK_LIMIT}
use Rattle.pickle_graph.specs.Parts.{is_held, items_of, items_at}
use Rattle.pickle_graph.specs.Same.{HasOrigin, HaveOrigins, AllCopies, StandOnce, is_held_at, holds_items}
use Rattle.pickle_graph.specs.Walks.{leads}
use Rattle.pickle_writing.specs.Shared.{times, ends_from, is_shared}
use Rattle.bucket_state.proofs.Parts.{standing, items_stand, leaf_items}
use Rattle.bucket_state.proofs.Ways.{same_test, leads_alike, reached, has_at}
use Rattle.bucket_state.proofs.Sums.{weigh, total, occur, total_same, weigh_total, occur_zero, occur_once}

times_append : (m : ℕ) (xs ys : List ℕ) → times m (xs ++ ys) ≡ times m xs + times m ys
times_append m [] ys = omega arith
times_append m (x ∷ xs) ys = let rest = times_append m xs ys in omega arith

-- how often an edge leads from a number to another, where it is chosen
abbrev pub weight : (ℕ → Bool) → List Node → ℕ → ℕ → ℕ
weight chosen ns d j = cond (chosen j) (times d (items_at ns j)) 0

times_chosen : (m : ℕ) (t : Bool) (xs : List ℕ) → times m (cond t xs []) ≡ cond t (times m xs) 0
times_chosen m true xs = refl
times_chosen m false xs = refl

-- the ends of edges, counted node by node
ends_total : (chosen : ℕ → Bool) (ns : List Node) (d i : ℕ) (rest : List Node) → ((k : ℕ) → slice_get ns (i + k) ≡ slice_get rest k) → times d (ends_from chosen i rest) ≡ total (weight chosen ns d) i rest
ends_total chosen ns d i [] h = refl
ends_total chosen ns d i (node ∷ rest) h =
    let place : i + 0 ≡ i = omega arith in
    let here : slice_get ns i ≡ Some node = sym (ap (slice_get ns) place) ∙ h 0 in
    let next : (k : ℕ) → slice_get ns (i + 1 + k) ≡ slice_get rest k = λ k. (let e : i + 1 + k ≡ i + suc k = omega arith in ap (slice_get ns) e) ∙ h (suc k) in
    let later = ends_total chosen ns d (i + 1) rest next in
    let one : times d (cond (chosen i) (items_of (Some node)) []) ≡ weight chosen ns d i =
    times_chosen d (chosen i) (items_of (Some node)) ∙ ap (λ (o : Option Node). cond (chosen i) (times d (items_of o)) 0) (sym here) in
    times_append d (cond (chosen i) (items_of (Some node)) []) (ends_from chosen (i + 1) rest) ∙ (λ k. one k + later k)

times_alike : (ns : List Node) (origin : List ℕ) (c d : ℕ) (xs ys : List ℕ) → StandOnce ns origin → HasOrigin origin c d → is_held_at ns d ≡ true → HaveOrigins origin xs ys → times c xs ≡ times d ys
times_alike ns origin c d [] [] once g held h = refl
times_alike ns origin c d (x ∷ xs) (y ∷ ys) once g held h =
    let one = same_test ns origin x y c d once h.0 g held in
    let rest = times_alike ns origin c d xs ys once g held h.1 in
    λ k. cond (one k) 1 0 + rest k
times_alike ns origin c d [] (y ∷ ys) once g held h = absurd h
times_alike ns origin c d (x ∷ xs) [] once g held h = absurd h

cond_none : (t : Bool) → ◌≡◌ {A = ℕ} (cond t 0 0) 0
cond_none true = refl
cond_none false = refl

-- a node without items adds nothing
light : (chosen : ℕ → Bool) (ns : List Node) (d j : ℕ) → is_held_at ns j ≡ false → weight chosen ns d j ≡ 0
light chosen ns d j h = by_node (slice_get ns j) h
  where
    by_node : (o : Option Node) → holds_items o ≡ false → cond (chosen j) (times d (items_of o)) 0 ≡ 0
    by_node None g = cond_none (chosen j)
    by_node (Some node) g = ap (λ (xs : List ℕ). cond (chosen j) (times d xs) 0) (leaf_items node g) ∙ cond_none (chosen j)

module _ (origin : List ℕ) (ns cs : List Node) (all : AllCopies origin ns cs origin) (once : StandOnce ns origin) (n a b : ℕ) (root : HasOrigin origin a b) (c d : ℕ) (g : HasOrigin origin c d) (held : is_held_at ns d ≡ true) where
  -- a node of the copy adds as much as the one that it stands for
  weights_alike : (i m : ℕ) → HasOrigin origin i m → weight (leads n cs a) cs c i ≡ weight (leads n ns b) ns d m
  weights_alike i m h = by_held (is_held_at ns m) refl
    where
      by_held : (t : Bool) → is_held_at ns m ≡ t → weight (leads n cs a) cs c i ≡ weight (leads n ns b) ns d m
      by_held true is =
          let chosen = leads_alike n origin ns cs a b i m all once root h is in
          let ends = times_alike ns origin c d (items_at cs i) (items_at ns m) once g held (items_stand origin ns cs i m all h) in
          λ k. cond (chosen k) (ends k) 0
      by_held false is =
          let s = standing origin ns cs i m all h in
          let there : is_held s.old ≡ false = sym (ap holds_items s.there) ∙ is in
          let here : is_held_at cs i ≡ false = ap holds_items s.here ∙ s.alike.held ∙ there in
          light (leads n cs a) cs c i here ∙ sym (light (leads n ns b) ns d m is)

  copies_weigh : (i : ℕ) (rest : List Node) (ms : List ℕ) → AllCopies origin ns rest ms → ((k : ℕ) → slice_get origin (i + k) ≡ slice_get ms k) → total (weight (leads n cs a) cs c) i rest ≡ weigh (weight (leads n ns b) ns d) ms
  copies_weigh i [] [] h at = refl
  copies_weigh i [] (m ∷ ms) h at = absurd h
  copies_weigh i (copy ∷ rest) [] h at = absurd h
  copies_weigh i (copy ∷ rest) (m ∷ ms) h at =
      let place : i + 0 ≡ i = omega arith in
      let here : slice_get origin i ≡ Some m = sym (ap (slice_get origin) place) ∙ at 0 in
      let next : (k : ℕ) → slice_get origin (i + 1 + k) ≡ slice_get ms k = λ k. (let e : i + 1 + k ≡ i + suc k = omega arith in ap (slice_get origin) e) ∙ at (suc k) in
      let one = weights_alike i m here in
      let later = copies_weigh (i + 1) rest ms h.1 next in
      λ k. one k + later k

  -- what counts has one copy
  counted : (j : ℕ) → occur (weight (leads n ns b) ns d) j origin ≡ weight (leads n ns b) ns d j
  counted j = by_held (is_held_at ns j) refl
    where
      by_led : is_held_at ns j ≡ true → (t : Bool) → leads n ns b j ≡ t → occur (weight (leads n ns b) ns d) j origin ≡ weight (leads n ns b) ns d j
      by_led is true led =
          let copy = reached n origin ns cs a b j all root led in
          occur_once ns (weight (leads n ns b) ns d) j origin once is (has_at origin copy.0 j copy.1)
      by_led is false led =
          let none : weight (leads n ns b) ns d j ≡ 0 = ap (λ (t : Bool). cond t (times d (items_at ns j)) 0) led in
          occur_zero (weight (leads n ns b) ns d) j origin none ∙ sym none

      by_held : (t : Bool) → is_held_at ns j ≡ t → occur (weight (leads n ns b) ns d) j origin ≡ weight (leads n ns b) ns d j
      by_held true is = by_led is (leads n ns b j) refl
      by_held false is =
          let none = light (leads n ns b) ns d j is in
          occur_zero (weight (leads n ns b) ns d) j origin none ∙ sym none

  past : (xs : List Node) (j : ℕ) → length xs ≤ j → slice_get xs j ≡ None
  past [] j l = refl
  past (x ∷ xs) zero l = absurd (omega arith)
  past (x ∷ xs) (suc j) l = past xs j (omega arith)

  beyond : (j : ℕ) → length ns ≤ j → weight (leads n ns b) ns d j ≡ 0
  beyond j l = ap (λ (o : Option Node). cond (leads n ns b j) (times d (items_of o)) 0) (past ns j l) ∙ cond_none (leads n ns b j)

  counts_alike : times c (ends_from (leads n cs a) 0 cs) ≡ times d (ends_from (leads n ns b) 0 ns)
  counts_alike =
      let front : (k : ℕ) → 0 + k ≡ k = λ k. omega arith in
      ends_total (leads n cs a) cs c 0 cs (λ k. ap (slice_get cs) (front k))
      ∙ copies_weigh 0 cs origin all (λ k. ap (slice_get origin) (front k))
      ∙ weigh_total (weight (leads n ns b) ns d) origin ns beyond
      ∙ total_same (λ j. occur (weight (leads n ns b) ns d) j origin) (weight (leads n ns b) ns d) 0 ns counted
      ∙ sym (ends_total (leads n ns b) ns d 0 ns (λ k. ap (slice_get ns) (front k)))

-- more than one edge leads to a node of the copy where more than one leads to the one that it stands for
pub shared_alike : (origin : List ℕ) (ns cs : List Node) (a b c d : ℕ) → AllCopies origin ns cs origin → StandOnce ns origin → HasOrigin origin a b → HasOrigin origin c d → is_held_at ns d ≡ true → is_shared cs a c ≡ is_shared ns b d
shared_alike origin ns cs a b c d all once root g held =
    let one = same_test ns origin a b c d once root g held in
    let rest = counts_alike origin ns cs all once WALK_LIMIT a b root c d g held in
    λ k. nat_lt 1 (cond (one k) 1 0 + rest k)
