-- Binary search in places that rise.
use Rattle.std.proofs.Common.{◌≡◌, ℕ, zero, suc, ◌-◌, ◌<◌, ◌≤◌, Bool, true, false, cond, eqb, ltb, List, [], ◌∷◌, length, get_or, take, filter, Some, None, refl, inl, inr, sym, ap, ◌∙◌, arith}
use Rattle.std.specs.Prelude.{◌||◌, not, slice_get}
use Rattle.std.specs.List.{list_any, last_or}
use Rattle.std.specs.List.Sorted.{IsPartitionPoint, IsNonDecreasingBy}
use Rattle.std.proofs.lemmas.Bool.{cases_lt, eqb-false, ltb-true, ne_eqb, ltb-false, le-leb, lt-leb}
use Rattle.std.proofs.lemmas.List.{get_or_default}
use Rattle.fs_index.specs.declared.place.Place.{Place}
use Rattle.fs_index.specs.Places.{last_below, is_place_below}
use Rattle.fs_index.specs.Found.{is_place_from, first_from}
use Rattle.zb_base.specs.Lists.{filter_take, last_or_take}

-- those below the front are the first ones
pub filtered : (front : ℕ) (xs : List Place) (n : ℕ) → n ≤ length xs → IsPartitionPoint (λ p. is_place_below front p ≡ true) (λ p. is_place_below front p ≡ false) xs n → take n xs ≡ filter (is_place_below front) xs
filtered front xs n h parts = sym (filter_take (is_place_below front) xs n (λ k d l. parts.0 k d (omega arith) l) (λ k d m l. parts.1 k d m l) h)

pub none_below : (front : ℕ) (xs : List Place) (n : ℕ) → take n xs ≡ filter (is_place_below front) xs → n ≡ 0 → None ≡ last_below front xs
unfolding last_below
none_below front xs n first zero_is = ap (λ k. last_or None (take k xs)) (sym zero_is) ∙ ap (last_or None) first

pub one_below : (front : ℕ) (xs : List Place) (n : ℕ) (d : Place) → n ≤ length xs → take n xs ≡ filter (is_place_below front) xs → 0 < n → Some (get_or xs (n - 1) d) ≡ last_below front xs
unfolding last_below
one_below front xs n d h first some =
    let n_is : n ≡ suc (n - 1) = omega arith in
    sym (last_or_take None xs (n - 1) d (omega arith)) ∙ ap (λ k. last_or None (take k xs)) (sym n_is) ∙ ap (last_or None) first

-- what is left by a filter passes it
first_passes : {X : Type 0} (p : X → Bool) (x : X) (ys xs : List X) → x ∷ ys ≡ filter p xs → p x ≡ true
first_passes p x ys [] e = absurd cc
first_passes p x ys (z ∷ zs) e = by_cases (p z) refl e (first_passes p x ys zs)
  where
    by_cases : (b : Bool) → p z ≡ b → x ∷ ys ≡ cond b (z ∷ filter p zs) (filter p zs) → (x ∷ ys ≡ filter p zs → p x ≡ true) → p x ≡ true
    by_cases true passes is rest = let same : x ≡ z = cc in ap p same ∙ passes
    by_cases false fails is rest = rest is

-- one that isn't below the front isn't below it
from_is : (front : ℕ) (p : Place) (b : Bool) → is_place_below front p ≡ b → is_place_from front p ≡ not b
from_is front p true below = lt-leb front p.serial (ltb-true p.serial front below)
from_is front p false behind = le-leb front p.serial (ltb-false p.serial front behind)

-- the first one behind those
pub first_behind : (front : ℕ) (xs : List Place) (n : ℕ) → take n xs ≡ filter (is_place_below front) xs → slice_get xs n ≡ first_from front xs
first_behind front [] zero first = refl
first_behind front [] (suc n) first = refl
first_behind front (x ∷ xs) zero first = by_cases (is_place_below front x) refl first
  where
    by_cases : (b : Bool) → is_place_below front x ≡ b → [] ≡ cond b (x ∷ filter (is_place_below front) xs) (filter (is_place_below front) xs) → Some x ≡ cond (is_place_from front x) (Some x) (first_from front xs)
    by_cases true below is = absurd cc
    by_cases false behind is = sym (ap (λ b. cond b (Some x) (first_from front xs)) (from_is front x false behind))
first_behind front (x ∷ xs) (suc n) first = by_cases (is_place_below front x) refl first (first_behind front xs n)
  where
    by_cases : (b : Bool) → is_place_below front x ≡ b → x ∷ take n xs ≡ cond b (x ∷ filter (is_place_below front) xs) (filter (is_place_below front) xs) → (take n xs ≡ filter (is_place_below front) xs → slice_get xs n ≡ first_from front xs)
        → slice_get xs n ≡ cond (is_place_from front x) (Some x) (first_from front xs)
    by_cases true below is behind =
        let rest : take n xs ≡ filter (is_place_below front) xs = cc in
        behind rest ∙ sym (ap (λ b. cond b (Some x) (first_from front xs)) (from_is front x true below))
    by_cases false behind is rest =
        let passes : is_place_below front x ≡ true = first_passes (is_place_below front) x (take n xs) xs is in
        absurd cc

-- no place is `at`
none_at : (at : ℕ) (xs : List Place) → ((k : ℕ) (d : Place) → k < length xs → eqb (get_or xs k d).at at ≡ false) → list_any (λ p. eqb p.at at) xs ≡ false
none_at at [] h = refl
none_at at (x ∷ xs) h = rw (h 0 x (omega arith)) (none_at at xs (λ k d l. h (suc k) d (omega arith)))

-- some place is
some_at : (at : ℕ) (xs : List Place) (n : ℕ) (d : Place) → n < length xs → eqb (get_or xs n d).at at ≡ true → list_any (λ p. eqb p.at at) xs ≡ true
some_at at [] n d h e = absurd (omega arith)
some_at at (x ∷ xs) zero d h e = rw e refl
some_at at (x ∷ xs) (suc n) d h e = rw (some_at at xs n d (omega arith) e) (any_true (eqb x.at at))
  where
    any_true : (b : Bool) → (b || true) ≡ true
    any_true true = refl
    any_true false = refl

abbrev PartsAt : ℕ → List Place → ℕ → Type 0
PartsAt at xs n = IsPartitionPoint (λ p. ltb p.at at ≡ true) (λ p. ltb p.at at ≡ false) xs n

pub found_at : (at : ℕ) (xs : List Place) (n : ℕ) (d : Place) → n < length xs → PartsAt at xs n → IsNonDecreasingBy (λ p. p.at) xs → eqb (get_or xs n d).at at ≡ list_any (λ p. eqb p.at at) xs
found_at at xs n d h parts rise = by_cases (eqb (get_or xs n d).at at) refl
  where
    others : eqb (get_or xs n d).at at ≡ false → (k : ℕ) (e : Place) → k < length xs → eqb (get_or xs k e).at at ≡ false
    others apart k e l =
        elim (cases_lt k n) [
          | inl lt ↦ ne_eqb _ _ (λ same. absurd (omega (arith, ltb-true _ _ (parts.0 k e (omega arith) lt), same)))
          | inr le ↦ ne_eqb _ _ (λ same. absurd (omega (arith, ltb-false _ _ (parts.1 n e (omega arith) h), rise n k e le l, eqb-false _ _ apart, same, ap (λ (p : Place). p.at) (get_or_default xs n d e h))))
        ]

    by_cases : (b : Bool) → eqb (get_or xs n d).at at ≡ b → eqb (get_or xs n d).at at ≡ list_any (λ p. eqb p.at at) xs
    by_cases true is = is ∙ sym (some_at at xs n d h is)
    by_cases false is = is ∙ sym (none_at at xs (others is))

pub none_found : (at : ℕ) (xs : List Place) (n : ℕ) → length xs ≤ n → PartsAt at xs n → false ≡ list_any (λ p. eqb p.at at) xs
none_found at xs n h parts = sym (none_at at xs (λ k d l. ne_eqb _ _ (λ e. absurd (omega (arith, ltb-true _ _ (parts.0 k d (omega arith) (omega arith)), e)))))
