-- Counting the edges that lead to a node.
use Rattle.std.proofs.Common.{◌≡◌, ℕ, zero, suc, ◌+◌, Bool, true, false, cond, List, [], ◌∷◌, ◌++◌, Option, Some, None, refl, arith, sym, ◌∙◌, ap, subst, eqb, ltb, inl, inr}
use Rattle.std.proofs.lemmas.Bool.{eqb-true, eq-eqb, lt-ltb}
use Rattle.std.specs.Prelude.{slice_get}
use Rattle.pickle_graph.specs.declared.node.Node.{Node}
use Rattle.pickle_graph.specs.Parts.{items_of, items_at, held_in}
use Rattle.pickle_graph.specs.Walks.{leads}
use Rattle.pickle_writing.specs.Shared.{times, ends_from, ends_of, is_shared}
use Rattle.pickle_writing.specs.Numbers.{number_of, has_number, is_end, AllFresh, IsTally, counted_for, one_edge_more, with_edge, with_edges, known_ends, held_among, above_one, is_many}
use Rattle.pickle_writing.specs.declared.depth.TheConstants.{WALK_LIMIT}
use Rattle.pickle_graph.specs.WalkLaws.{cases_bool, not_true, clash}
use Rattle.pickle_writing.specs.SharedLaws.{times-append, ends-more}

-- ---- the counts

abbrev capped : ℕ → Option ℕ
capped zero = None
capped (suc zero) = Some 1
capped (suc (suc n)) = Some 2

one-here : (k : ℕ) (counts : List (ℕ × ℕ)) (n : ℕ) (found : Option ℕ) → number_of k counts ≡ found → found ≡ capped n → number_of k (one_edge_more k counts found) ≡ capped (suc n)
one-here k counts zero found is e = let t = eq-eqb k k refl in subst (λ (o : Option ℕ). number_of k (one_edge_more k counts o) ≡ Some 1) (sym e) (rw t refl)
one-here k counts (suc zero) found is e = let t = eq-eqb k k refl in subst (λ (o : Option ℕ). number_of k (one_edge_more k counts o) ≡ Some 2) (sym e) (rw t refl)
one-here k counts (suc (suc n)) found is e = subst (λ (o : Option ℕ). number_of k (one_edge_more k counts o) ≡ Some 2) (sym e) (is ∙ e)

one-other : (k m : ℕ) (counts : List (ℕ × ℕ)) (found : Option ℕ) → eqb m k ≡ false → number_of k (one_edge_more m counts found) ≡ number_of k counts
one-other k m counts None e = rw e refl
one-other k m counts (Some n) e = elim (cases_bool (ltb n 2)) [ inl t ↦ rw (t, e) refl | inr t ↦ rw t refl ]

counted-right : (k m n : ℕ) (counts : List (ℕ × ℕ)) → number_of k counts ≡ capped n → number_of k (with_edge m counts) ≡ capped (cond (eqb m k) 1 0 + n)
counted-right k m n counts e = elim (cases_bool (eqb m k)) [
  | inl t ↦
      let same : m ≡ k = eqb-true m k t in
      let one : suc n ≡ 1 + n = omega arith in
      let here : number_of k (with_edge k counts) ≡ capped (1 + n) = one-here k counts n (number_of k counts) refl e ∙ ap capped one in
      rw t (subst (λ (x : ℕ). number_of k (with_edge x counts) ≡ capped (1 + n)) (sym same) here)
  | inr t ↦
      let none : n ≡ 0 + n = omega arith in
      rw t (one-other k m counts (number_of m counts) t ∙ e ∙ ap capped none)
]

all-right : (k : ℕ) (ms : List ℕ) (n : ℕ) (counts : List (ℕ × ℕ)) → number_of k counts ≡ capped n → number_of k (with_edges ms counts) ≡ capped (times k ms + n)
all-right k [] n counts e = e ∙ ap capped (omega arith)
all-right k (m ∷ ms) n counts e =
    all-right k ms (cond (eqb m k) 1 0 + n) (with_edge m counts) (counted-right k m n counts e) ∙ ap capped (omega arith)

above-capped : (n : ℕ) → above_one (capped n) ≡ ltb 1 n
above-capped zero = refl
above-capped (suc zero) = refl
above-capped (suc (suc n)) = sym (lt-ltb 1 (suc (suc n)) (omega arith))

-- ---- the ends

same-either : (b : Bool) (l : List ℕ) → cond b l l ≡ l
same-either true l = refl
same-either false l = refl

pick-alike : (a b : Bool) (items : List ℕ) → (is_end items ≡ false → a ≡ b) → cond a items [] ≡ cond b items []
pick-alike a b [] h = same-either a [] ∙ sym (same-either b [])
pick-alike a b (x ∷ items) h = ap (λ (c : Bool). cond c (x ∷ items) []) (h refl)

-- the same choice of nodes at which edges start
ends-alike : (p q : ℕ → Bool) (i : ℕ) (ns : List Node) → ((j : ℕ) → is_end (items_at ns j) ≡ false → p (i + j) ≡ q (i + j)) → ends_from p i ns ≡ ends_from q i ns
ends-alike p q i [] h = refl
ends-alike p q i (x ∷ rest) h =
    let at : i + zero ≡ i = omega arith in
    let here = pick-alike (p i) (q i) (items_of (Some x)) (λ e. ap p (sym at) ∙ h zero e ∙ ap q at) in
    let later = ends-alike p q (i + 1) rest (λ j e. let on : i + suc j ≡ i + 1 + j = omega arith in ap p (sym on) ∙ h (suc j) e ∙ ap q on) in
    ap (λ (l : List ℕ). l ++ ends_from p (i + 1) rest) here ∙ ap (λ (l : List ℕ). cond (q i) (items_of (Some x)) [] ++ l) later

ends-none : (i : ℕ) (ns : List Node) → ends_from (λ j. false) i ns ≡ []
ends-none i [] = refl
ends-none i (node ∷ rest) = ends-none (i + 1) rest

pub known-ends : (ns : List Node) (hs : List (ℕ × ℕ)) (k : ℕ) → AllFresh hs → times k (known_ends ns hs) ≡ times k (ends_from (has_number hs) 0 ns)
known-ends ns [] k h = ap (times k) (sym (ends-none 0 ns))
known-ends ns (x ∷ hs) k h =
    let ih = known-ends ns hs k h.1 in
    let f = times-append k (items_at ns x.0) (known_ends ns hs) in
    let zero-on : 0 + x.0 ≡ x.0 = omega arith in
    let here : has_number (x ∷ hs) (0 + x.0) ≡ true = let t = eq-eqb x.0 (0 + x.0) (sym zero-on) in rw t refl in
    let new : has_number hs (0 + x.0) ≡ false = ap (has_number hs) zero-on ∙ h.0 in
    let g = ends-more (has_number hs) (has_number (x ∷ hs)) 0 x.0 ns k here new (λ j e. let t : eqb x.0 j ≡ false = not_true _ (λ u. e (sym (eqb-true x.0 j u) ∙ sym zero-on)) in rw t refl) in
    omega (arith, ih, f, g)

-- ---- nodes that stand once

pub times_held : (ns : List Node) (k : ℕ) (ms : List ℕ) → held_in (slice_get ns k) ≡ true → times k (held_among ns ms) ≡ times k ms
times_held ns k [] h = refl
times_held ns k (m ∷ ms) h =
    let e = times_held ns k ms h in
    elim (cases_bool (held_in (slice_get ns m))) [
      | inl t ↦ rw (t, e) refl
      | inr f ↦
          let apart : eqb m k ≡ false = not_true _ (λ u. clash (held_in (slice_get ns m)) (ap (λ (x : ℕ). held_in (slice_get ns x)) (eqb-true m k u) ∙ h) f) in
          rw (f, apart) (omega (arith, e))
    ]

pub held-append : (ns : List Node) (xs ys : List ℕ) → held_among ns (xs ++ ys) ≡ held_among ns xs ++ held_among ns ys
held-append ns [] ys = refl
held-append ns (x ∷ xs) ys =
    let e = held-append ns xs ys in
    elim (cases_bool (held_in (slice_get ns x))) [ inl t ↦ rw (t, e) refl | inr f ↦ rw (f, e) refl ]

pub held_step : (ns : List Node) (m : ℕ) (ms : List ℕ) (counts : List (ℕ × ℕ)) → with_edges (held_among ns ms) (with_edges (held_among ns (m ∷ [])) counts) ≡ with_edges (held_among ns (m ∷ ms)) counts
held_step ns m ms counts = elim (cases_bool (held_in (slice_get ns m))) [ inl t ↦ rw t refl | inr f ↦ rw f refl ]

-- ---- what is counted as nodes are measured

pub counted_none : (ns : List Node) (heights counts : List (ℕ × ℕ)) → heights ≡ [] → counts ≡ [] → counts ≡ counted_for ns heights
counted_none ns heights counts h c = c ∙ ap (counted_for ns) (sym h)

pub counted_more : (ns : List Node) (m h : ℕ) (heights more counts new : List (ℕ × ℕ)) (items : List ℕ) → counts ≡ counted_for ns heights → items ≡ items_at ns m → new ≡ with_edges (held_among ns items) counts →
    more ≡ (m, h) ∷ heights → new ≡ counted_for ns more
counted_more ns m h heights more counts new items before same counted is =
    counted ∙ ap (λ (l : List ℕ). with_edges (held_among ns l) counts) same ∙ ap (with_edges (held_among ns (items_at ns m))) before ∙ ap (counted_for ns) (sym is)

counted-all : (ns : List Node) (heights : List (ℕ × ℕ)) (k : ℕ) → number_of k (counted_for ns heights) ≡ capped (times k (held_among ns (known_ends ns heights)))
counted-all ns [] k = refl
counted-all ns (x ∷ heights) k =
    let a = held-append ns (items_at ns x.0) (known_ends ns heights) in
    let b = times-append k (held_among ns (items_at ns x.0)) (held_among ns (known_ends ns heights)) in
    all-right k (held_among ns (items_at ns x.0)) (times k (held_among ns (known_ends ns heights))) (counted_for ns heights) (counted-all ns heights k)
    ∙ ap capped (sym b) ∙ ap (λ (l : List ℕ). capped (times k l)) (sym a)

-- What is counted decides which of the nodes that stand once are shared.
pub many_shared : (ns : List Node) (root : ℕ) (counts : List (ℕ × ℕ)) → IsTally ns root counts → (m : ℕ) → held_in (slice_get ns m) ≡ true → is_many counts m ≡ is_shared ns root m
many_shared ns root counts h m held =
    let hs : List (ℕ × ℕ) = h.heights in
    let n : ℕ = times m (held_among ns (known_ends ns hs)) in
    let b = known-ends ns hs m h.reach.fresh in
    let c : ends_from (has_number hs) 0 ns ≡ ends_from (leads WALK_LIMIT ns root) 0 ns =
    ends-alike (has_number hs) (leads WALK_LIMIT ns root) 0 ns (λ j e. let at : 0 + j ≡ j = omega arith in ap (has_number hs) at ∙ h.reach.known j e ∙ ap (leads WALK_LIMIT ns root) (sym at)) in
    let d = ap (times m) c in
    let f = times_held ns m (known_ends ns hs) held in
    let all : times m (known_ends ns hs) ≡ times m (ends_from (leads WALK_LIMIT ns root) 0 ns) = b ∙ d in
    let e : cond (eqb root m) 1 0 + n ≡ times m (ends_of ns root) = ap (λ (k : ℕ). cond (eqb root m) 1 0 + k) (f ∙ all) in
    ap (λ (l : List (ℕ × ℕ)). is_many l m) h.counted ∙ ap above_one (counted-right m root n (counted_for ns hs) (counted-all ns hs m)) ∙ above-capped (cond (eqb root m) 1 0 + n) ∙ ap (ltb 1) e
