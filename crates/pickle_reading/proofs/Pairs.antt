-- Keys and values one after the other.
use Rattle.std.proofs.Common.{◌≡◌, ℕ, zero, suc, ◌+◌, ◌<◌, ◌≤◌, List, [], ◌∷◌, ◌++◌, length, drop, Option, Some, None, refl, sym, ap, arith}
use Rattle.std.specs.Prelude.{slice_index}
use Rattle.pickle_reading.specs.Additions.{with_pair, pairs_of}

-- pairs in front of others
abbrev pub behind_pairs : List (ℕ × ℕ) → Option (List (ℕ × ℕ)) → Option (List (ℕ × ℕ))
behind_pairs front None = None
behind_pairs front (Some pairs) = Some (front ++ pairs)

joins : (front : List (ℕ × ℕ)) (pair : ℕ × ℕ) (rest : Option (List (ℕ × ℕ))) → behind_pairs front (with_pair pair rest) ≡ behind_pairs (front ++ pair ∷ []) rest
joins front pair None = refl
joins front pair (Some pairs) = ap Some (sym (append_assoc_here front pair pairs))
  where
    append_assoc_here : (front : List (ℕ × ℕ)) (pair : ℕ × ℕ) (pairs : List (ℕ × ℕ)) → (front ++ pair ∷ []) ++ pairs ≡ front ++ pair ∷ pairs
    append_assoc_here [] pair pairs = refl
    append_assoc_here (x ∷ front) pair pairs = ap (λ l. x ∷ l) (append_assoc_here front pair pairs)

pub pair_step : (values : List ℕ) (i : ℕ) (front : List (ℕ × ℕ)) → i + 1 < length values →
    behind_pairs front (pairs_of (drop i values)) ≡ behind_pairs (front ++ (slice_index values i, slice_index values (i + 1)) ∷ []) (pairs_of (drop (i + 2) values))
pair_step [] i front h = absurd (omega arith)
pair_step (key ∷ []) i front h = absurd (omega arith)
pair_step (key ∷ value ∷ rest) zero front h = joins front (key, value) (pairs_of rest)
pair_step (key ∷ value ∷ rest) (suc i) front h =
    let one : suc i + 1 ≡ suc (i + 1) = omega arith in
    let two : suc i + 2 ≡ suc (i + 2) = omega arith in
    rw (one, two) (pair_step (value ∷ rest) i front (omega arith))

pub pair_left : (values : List ℕ) (i : ℕ) → length values ≡ i + 1 → pairs_of (drop i values) ≡ None
pair_left [] i h = absurd (omega arith)
pair_left (key ∷ []) zero h = refl
pair_left (key ∷ value ∷ rest) zero h = absurd (omega arith)
pair_left (key ∷ rest) (suc i) h = pair_left rest i (omega arith)

pub pair_end : (values : List ℕ) (i : ℕ) → length values ≤ i → pairs_of (drop i values) ≡ Some []
pair_end [] zero h = refl
pair_end [] (suc i) h = refl
pair_end (key ∷ rest) zero h = absurd (omega arith)
pair_end (key ∷ rest) (suc i) h = pair_end rest i (omega arith)
