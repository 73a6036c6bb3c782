-- Laws of how often a number stands in a list, and of the ends of edges.
use Rattle.std.proofs.Common.{◌≡◌, ℕ, zero, suc, ◌+◌, ◌≤◌, Bool, true, false, cond, List, [], ◌∷◌, ◌++◌, Some, refl, arith, sym, ◌∙◌, ap}
use Rattle.pickle_graph.specs.declared.node.Node.{Node}
use Rattle.pickle_graph.specs.Parts.{items_of, items_at}
use Rattle.pickle_writing.specs.Shared.{times, ends_from}

pub times-append : (k : ℕ) (xs ys : List ℕ) → times k (xs ++ ys) ≡ times k xs + times k ys
times-append k [] ys = omega arith
times-append k (x ∷ xs) ys = let e = times-append k xs ys in omega (arith, e)

-- the same choice from a number on
pub ends-same : (p q : ℕ → Bool) (i : ℕ) (ns : List Node) → ((j : ℕ) → i ≤ j → p j ≡ q j) → ends_from p i ns ≡ ends_from q i ns
ends-same p q i [] h = refl
ends-same p q i (item ∷ rest) h =
    let here = h i (omega arith) in
    let later = ends-same p q (i + 1) rest (λ j l. h j (omega arith)) in
    rw (here, later) refl

-- one more node is chosen
pub ends-more : (p q : ℕ → Bool) (i d : ℕ) (ns : List Node) (k : ℕ) → q (i + d) ≡ true → p (i + d) ≡ false → ((j : ℕ) → (j ≡ i + d → ⊥) → q j ≡ p j) →
    times k (ends_from q i ns) ≡ times k (items_at ns d) + times k (ends_from p i ns)
ends-more p q i d [] k a b h = omega arith
ends-more p q i zero (item ∷ rest) k a b h =
    let at : i + zero ≡ i = omega arith in
    let a' : q i ≡ true = ap q (sym at) ∙ a in
    let b' : p i ≡ false = ap p (sym at) ∙ b in
    let later : ends_from q (i + 1) rest ≡ ends_from p (i + 1) rest = ends-same q p (i + 1) rest (λ j l. h j (λ e. omega arith)) in
    let f = times-append k (items_of (Some item)) (ends_from p (i + 1) rest) in
    rw (a', b', later) f
ends-more p q i (suc d) (item ∷ rest) k a b h =
    let at : i + suc d ≡ i + 1 + d = omega arith in
    let here : q i ≡ p i = h i (λ e. omega arith) in
    let ih = ends-more p q (i + 1) d rest k (ap q (sym at) ∙ a) (ap p (sym at) ∙ b) (λ j f. h j (λ e. f (e ∙ at))) in
    let x : List ℕ = cond (p i) (items_of (Some item)) [] in
    let f = times-append k x (ends_from q (i + 1) rest) in
    let g = times-append k x (ends_from p (i + 1) rest) in
    let whole : times k (cond (p i) (items_of (Some item)) [] ++ ends_from q (i + 1) rest) ≡ times k (items_at rest d) + times k (cond (p i) (items_of (Some item)) [] ++ ends_from p (i + 1) rest) = omega (arith, ih, f, g) in
    rw here whole
