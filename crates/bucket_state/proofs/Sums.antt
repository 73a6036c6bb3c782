-- Sums over the nodes of a graph, and over the origins of a copy.
use Rattle.std.proofs.Common.{◌≡◌, ℕ, ◌+◌, ◌<◌, ◌≤◌, Bool, true, false, cond, List, [], ◌∷◌, length, refl, sym, ◌∙◌, subst, arith, eqb, eq-eqb, ltb}
use Rattle.std.proofs.lemmas.Bool.{eqb-true, ne_eqb, ltb-true, ltb-false}
use Rattle.pickle_graph.specs.declared.node.Node.{Node}
use Rattle.pickle_graph.specs.Same.{StandOnce, has, is_held_at}

-- the sum over the numbers of a list
abbrev pub weigh : (ℕ → ℕ) → List ℕ → ℕ
weigh w [] = 0
weigh w (m ∷ ms) = w m + weigh w ms

-- the sum over the numbers of these nodes, of which the first is i
abbrev pub total : {X : Type 0} → (ℕ → ℕ) → ℕ → List X → ℕ
total w i [] = 0
total w i (x ∷ xs) = w i + total w (i + 1) xs

-- what a number adds where it stands in a list
abbrev pub occur : (ℕ → ℕ) → ℕ → List ℕ → ℕ
occur w j [] = 0
occur w j (x ∷ xs) = cond (eqb x j) (w j) 0 + occur w j xs

abbrev single : (ℕ → ℕ) → ℕ → ℕ → ℕ
single w x j = cond (eqb x j) (w j) 0

pub total_same : {X : Type 0} (w v : ℕ → ℕ) (i : ℕ) (xs : List X) → ((j : ℕ) → w j ≡ v j) → total w i xs ≡ total v i xs
total_same w v i [] h = refl
total_same w v i (x ∷ xs) h = λ k. h i k + total_same w v (i + 1) xs h k

total_none : {X : Type 0} (i : ℕ) (xs : List X) → total (λ j. 0) i xs ≡ 0
total_none i [] = refl
total_none i (x ∷ xs) = let rest = total_none (i + 1) xs in omega arith

total_sum : {X : Type 0} (w v : ℕ → ℕ) (i : ℕ) (xs : List X) → total (λ j. w j + v j) i xs ≡ total w i xs + total v i xs
total_sum w v i [] = refl
total_sum w v i (x ∷ xs) = let rest = total_sum w v (i + 1) xs in omega arith

other : (w : ℕ → ℕ) (x j : ℕ) → ((x ≡ j) → ⊥) → single w x j ≡ 0
other w x j n = rw (ne_eqb x j n) refl

same : (w : ℕ → ℕ) (x : ℕ) → single w x x ≡ w x
same w x = rw (eq-eqb x x refl) refl

single_before : {X : Type 0} (w : ℕ → ℕ) (x i : ℕ) (xs : List X) → x < i → total (single w x) i xs ≡ 0
single_before w x i [] l = refl
single_before w x i (y ∷ ys) l =
    let here : single w x i ≡ 0 = other w x i (λ e. omega arith) in
    let rest = single_before w x (i + 1) ys (omega arith) in
    omega arith

single_behind : {X : Type 0} (w : ℕ → ℕ) (x i : ℕ) (xs : List X) → i + length xs ≤ x → total (single w x) i xs ≡ 0
single_behind w x i [] l = refl
single_behind w x i (y ∷ ys) l =
    let here : single w x i ≡ 0 = other w x i (λ e. omega arith) in
    let rest = single_behind w x (i + 1) ys (omega arith) in
    omega arith

not_both : (t : Bool) → t ≡ true → t ≡ false → ⊥
not_both t p q = cc

single_within : {X : Type 0} (w : ℕ → ℕ) (x i : ℕ) (xs : List X) → i ≤ x → x < i + length xs → total (single w x) i xs ≡ w x
single_within w x i [] l m = absurd (omega arith)
single_within w x i (y ∷ ys) l m = by_test (eqb x i) refl (λ k. single_within w x (i + 1) ys k (omega arith))
  where
    by_test : (t : Bool) → eqb x i ≡ t → (i + 1 ≤ x → total (single w x) (i + 1) ys ≡ w x) → single w x i + total (single w x) (i + 1) ys ≡ w x
    by_test true e later =
        let is : x ≡ i = eqb-true x i e in
        let here : single w x i ≡ w x = subst (λ (j : ℕ). single w x j ≡ w x) is (same w x) in
        let rest = single_before w x (i + 1) ys (omega arith) in
        omega arith
    by_test false e later =
        let apart : (x ≡ i) → ⊥ = λ q. not_both (eqb x i) (eq-eqb x i q) e in
        let here : single w x i ≡ 0 = other w x i apart in
        let rest = later (omega arith) in
        omega arith

single_all : {X : Type 0} (w : ℕ → ℕ) (m : ℕ) (xs : List X) → ((j : ℕ) → length xs ≤ j → w j ≡ 0) → (t : Bool) → ltb m (length xs) ≡ t → w m ≡ total (single w m) 0 xs
single_all w m xs none true e = let l : m < length xs = ltb-true m (length xs) e in sym (single_within w m 0 xs (omega arith) (omega arith))
single_all w m xs none false e = let l : length xs ≤ m = ltb-false m (length xs) e in none m l ∙ sym (single_behind w m 0 xs (omega arith))

-- the sum over a list is that over all numbers, of what each adds there
pub weigh_total : {X : Type 0} (w : ℕ → ℕ) (ms : List ℕ) (xs : List X) → ((j : ℕ) → length xs ≤ j → w j ≡ 0) → weigh w ms ≡ total (λ j. occur w j ms) 0 xs
weigh_total w [] xs none = sym (total_none 0 xs)
weigh_total w (m ∷ ms) xs none =
    let here = single_all w m xs none (ltb m (length xs)) refl in
    let rest = weigh_total w ms xs none in
    (λ i. here i + rest i) ∙ sym (total_sum (single w m) (λ j. occur w j ms) 0 xs)

pub occur_zero : (w : ℕ → ℕ) (j : ℕ) (ms : List ℕ) → w j ≡ 0 → occur w j ms ≡ 0
occur_zero w j [] z = refl
occur_zero w j (x ∷ ms) z =
    let here : single w x j ≡ 0 = by_test (eqb x j) in
    let rest = occur_zero w j ms z in
    omega arith
  where
    by_test : (t : Bool) → cond t (w j) 0 ≡ 0
    by_test true = z
    by_test false = refl

occur_none : (w : ℕ → ℕ) (j : ℕ) (ms : List ℕ) → has j ms ≡ false → occur w j ms ≡ 0
occur_none w j [] h = refl
occur_none w j (x ∷ ms) h = by_test (eqb x j) (has j ms) (occur_none w j ms) h
  where
    by_test : (t b : Bool) → (b ≡ false → occur w j ms ≡ 0) → cond t true b ≡ false → cond t (w j) 0 + occur w j ms ≡ 0
    by_test true b later g = cc
    by_test false b later g = let rest = later g in omega arith

pub occur_once : (ns : List Node) (w : ℕ → ℕ) (j : ℕ) (ms : List ℕ) → StandOnce ns ms → is_held_at ns j ≡ true → has j ms ≡ true → occur w j ms ≡ w j
occur_once ns w j [] once held h = cc
occur_once ns w j (x ∷ ms) once held h = by_test (eqb x j) refl (occur_once ns w j ms once.1 held) h
  where
    by_test : (t : Bool) → eqb x j ≡ t → (has j ms ≡ true → occur w j ms ≡ w j) → cond t true (has j ms) ≡ true → cond t (w j) 0 + occur w j ms ≡ w j
    by_test true e later g =
        let is : x ≡ j = eqb-true x j e in
        let none : has j ms ≡ false = subst (λ (y : ℕ). is_held_at ns y ≡ true → has y ms ≡ false) is once.0 held in
        let rest = occur_none w j ms none in
        omega arith
    by_test false e later g = let rest = later g in omega arith
