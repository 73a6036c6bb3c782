-- Tables of numbers, with a place for each node.
use Rattle.std.proofs.Common.{◌≡◌, ℕ, zero, suc, ◌-◌, ◌<◌, ◌≤◌, ◌==◌, eqb, false, inl, inr, List, [], ◌∷◌, ◌++◌, length, get_or, take, Option, Some, None, refl, sym, ◌∙◌, ap, arith, if◌then◌else◌}
use Rattle.std.proofs.lemmas.Bool.{eqb-true, eq-eqb, ne_eqb}
use Rattle.std.specs.Prelude.{slice_set, replicate}
use Rattle.pickle_writing.specs.Numbers.{number_in}
use Rattle.pickle_graph.specs.WalkLaws.{cases_bool, clash}

none_in : (n m : ℕ) → number_in (replicate n None) m ≡ None
none_in zero m = refl
none_in (suc n) zero = refl
none_in (suc n) (suc m) = none_in n m

-- more places, which hold nothing
pub in_resize : (xs : List (Option ℕ)) (n m : ℕ) → length xs < n → number_in (take n xs ++ replicate (n - length xs) None) m ≡ number_in xs m
in_resize [] zero m h = absurd (omega arith)
in_resize [] (suc n) m h = none_in (suc n - 0) m
in_resize (x ∷ xs) zero m h = absurd (omega arith)
in_resize (x ∷ xs) (suc n) zero h = refl
in_resize (x ∷ xs) (suc n) (suc m) h =
    let e : suc n - suc (length xs) ≡ n - length xs = omega arith in
    rw e (in_resize xs n m (omega arith))

suc-eqb : (a b : ℕ) → (suc a == suc b) ≡ (a == b)
suc-eqb a b = elim (cases_bool (eqb a b)) [
  | inl t ↦ eq-eqb (suc a) (suc b) (ap suc (eqb-true a b t)) ∙ sym t
  | inr t ↦ ne_eqb (suc a) (suc b) (λ k. clash (eqb a b) (eq-eqb a b (omega (arith, k))) t) ∙ sym t
]

pub in_set : (xs : List (Option ℕ)) (place n m : ℕ) → place < length xs → number_in (slice_set xs place (Some n)) m ≡ (if place == m then Some n else number_in xs m)
in_set [] place n m h = absurd (omega arith)
in_set (x ∷ xs) zero n zero h = refl
in_set (x ∷ xs) zero n (suc m) h = let e : (0 == suc m) ≡ false = ne_eqb 0 (suc m) (λ k. absurd (omega (arith, k))) in rw e refl
in_set (x ∷ xs) (suc place) n zero h = let e : (suc place == 0) ≡ false = ne_eqb (suc place) 0 (λ k. absurd (omega (arith, k))) in rw e refl
in_set (x ∷ xs) (suc place) n (suc m) h =
    let e : (suc place == suc m) ≡ (place == m) = suc-eqb place m in
    rw e (in_set xs place n m (omega arith))

pub in_some : (xs : List (Option ℕ)) (m : ℕ) (x : Option ℕ) → m < length xs → x ≡ get_or xs m x → x ≡ number_in xs m
in_some [] m x h e = absurd (omega arith)
in_some (y ∷ xs) zero x h e = e
in_some (y ∷ xs) (suc m) x h e = in_some xs m x (omega arith) e

pub in_none : (xs : List (Option ℕ)) (m : ℕ) → length xs ≤ m → None ≡ number_in xs m
in_none [] m h = refl
in_none (y ∷ xs) zero h = absurd (omega arith)
in_none (y ∷ xs) (suc m) h = in_none xs m (omega arith)
