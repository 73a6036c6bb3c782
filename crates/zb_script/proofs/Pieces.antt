-- The lines of bytes: what stands before each newline.
use Rattle.std.proofs.Common.{◌≡◌, ℕ, zero, suc, ◌+◌, ◌<◌, ◌≤◌, ◌≢◌, Bool, true, false, cond, List, [], ◌∷◌, ◌++◌, length, get_or, take, drop, Some, None, refl, ap, arith, inl, inr}
use Rattle.std.specs.Prelude.{◌⊎◌, ◌==◌}
use Rattle.std.specs.List.{position, position_or_len, onto_first}
use Rattle.std.proofs.lemmas.Bool.{eqb-true, eqb-false, eq-eqb, ne_eqb, ltb-false}
use Rattle.std.proofs.lemmas.List.Sums.{fails_before_first}
use Rattle.std.proofs.lemmas.List.Quantifiers.{position-Some}
use Rattle.zb_script.specs.Lines.{pieces, Lacks, IsEnd}
use Rattle.zb_script.proofs.Froms.{chosen}

-- ---- the code's step

pieces_at : (bytes : List ℕ) (i : ℕ) → i < length bytes → get_or bytes i 0 ≡ 10 → ((k : ℕ) → k < i → get_or bytes k 0 ≢ 10)
    → pieces bytes ≡ take i bytes ∷ pieces (drop (suc i) bytes)
pieces_at [] i lt here before = absurd (omega arith)
pieces_at (b ∷ bytes) zero lt here before = rw (eq-eqb b 10 here) refl
pieces_at (b ∷ bytes) (suc i) lt here before =
    let rest : pieces bytes ≡ take i bytes ∷ pieces (drop (suc i) bytes) = pieces_at bytes i (omega arith) here (λ k h. before (suc k) (omega arith)) in
    rw (ne_eqb b 10 (before 0 (omega arith)), rest) refl

pieces_all : (bytes : List ℕ) → 0 < length bytes → ((k : ℕ) → k < length bytes → get_or bytes k 0 ≢ 10) → pieces bytes ≡ bytes ∷ []
pieces_all [] lt none = absurd (omega arith)
pieces_all (b ∷ []) lt none = rw (ne_eqb b 10 (none 0 (omega arith))) refl
pieces_all (b ∷ c ∷ bytes) lt none =
    let rest : pieces (c ∷ bytes) ≡ (c ∷ bytes) ∷ [] = pieces_all (c ∷ bytes) (omega arith) (λ k h. none (suc k) (omega arith)) in
    rw (ne_eqb b 10 (none 0 (omega arith))) (ap (onto_first b) rest)

pub pieces_here : (bytes front rest : List ℕ) (i : ℕ) → position (λ b. b == 10) bytes ≡ Some i → front ≡ take i bytes → rest ≡ drop (i + 1) bytes → pieces bytes ≡ front ∷ pieces rest
pieces_here bytes front rest i e f r =
    let p = position-Some (λ b. b == 10) bytes i 0 e in
    let k : i + 1 ≡ suc i = omega arith in
    rw (f, r, k) (pieces_at bytes i p.0 (eqb-true _ _ p.1) (λ k lt. eqb-false _ _ (p.2 k lt)))

no_place : (bytes : List ℕ) → position (λ b. b == 10) bytes ≡ None → length bytes ≤ position_or_len (λ b. b == 10) bytes
no_place bytes e = ltb-false _ _ (not_some _ _ e)
  where
    not_some : (t : Bool) (i : ℕ) → cond t (Some i) None ≡ None → t ≡ false
    not_some true i e = absurd cc
    not_some false i e = refl

pub pieces_end : (bytes front rest : List ℕ) → position (λ b. b == 10) bytes ≡ None → 0 < length bytes → front ≡ bytes → rest ≡ [] → pieces bytes ≡ front ∷ pieces rest
pieces_end bytes front rest e lt f r =
    rw (f, r) (pieces_all bytes lt (λ k h. eqb-false _ _ (fails_before_first (λ b. b == 10) bytes k 0 (omega (arith, no_place bytes e)))))

-- ---- a line before a newline, and a line at the end

pub pieces_line : (line more : List ℕ) → Lacks 10 line → pieces (line ++ 10 ∷ more) ≡ line ∷ pieces more
pieces_line [] more h = refl
pieces_line (b ∷ line) more h = rw (ne_eqb b 10 h.0, pieces_line line more h.1) refl

pub pieces_last : (line : List ℕ) → 0 < length line → Lacks 10 line → pieces line ≡ line ∷ []
pieces_last [] lt h = absurd (omega arith)
pieces_last (b ∷ []) lt h = rw (ne_eqb b 10 h.0) refl
pieces_last (b ∷ c ∷ line) lt h = rw (ne_eqb b 10 h.0) (ap (onto_first b) (pieces_last (c ∷ line) (omega arith) h.1))

-- ---- the first line, from the pieces

pub record Begins (bytes line : List ℕ) (others : List (List ℕ)) : Type 0 where
  pub more : List ℕ
  pub parts : bytes ≡ line ++ more
  pub one_line : Lacks 10 line
  pub ends : IsEnd line more
  pub rest : (more ≡ [] × (others ≡ [])) ⊎ ((after : List ℕ) × (more ≡ 10 ∷ after) × (pieces after ≡ others))

pub pieces_nil : (bytes : List ℕ) → pieces bytes ≡ [] → bytes ≡ []
pieces_nil [] e = refl
pieces_nil (b ∷ bytes) e = absurd (some (b == 10) (pieces bytes) e)
  where
    some : (t : Bool) (ps : List (List ℕ)) → cond t ([] ∷ ps) (onto_first b ps) ≡ [] → ⊥
    some true ps e = cc
    some false [] e = cc
    some false (q ∷ qs) e = cc

ends_longer : (b : ℕ) (line more : List ℕ) → IsEnd line more → IsEnd (b ∷ line) more
ends_longer b line [] h = omega arith
ends_longer b line (c ∷ more) h = h

at_newline : (b : ℕ) (bytes line : List ℕ) (others : List (List ℕ)) → b ≡ 10 → ([] ∷ pieces bytes) ≡ line ∷ others → Begins (b ∷ bytes) line others
at_newline b bytes [] others newline e = record { more = b ∷ bytes; parts = refl; one_line = tt; ends = newline; rest = inr (bytes, cc, cc) }
at_newline b bytes (c ∷ line) others newline e = absurd cc

in_line : (b : ℕ) (bytes line : List ℕ) (others ps : List (List ℕ)) → b ≢ 10 → pieces bytes ≡ ps → onto_first b ps ≡ line ∷ others
    → ((q : List ℕ) (qs : List (List ℕ)) → pieces bytes ≡ q ∷ qs → Begins bytes q qs) → Begins (b ∷ bytes) line others
in_line b bytes line others [] apart is e later =
    let none = pieces_nil bytes is in
    let line-is : b ∷ [] ≡ line = cc in
    rw (none, ← line-is) (record { more = []; parts = refl; one_line = (apart, tt); ends = omega arith; rest = inl (refl, cc) })
in_line b bytes line others (q ∷ qs) apart is e later =
    let line-is : b ∷ q ≡ line = cc in
    let others-is : qs ≡ others = cc in
    let next = later q qs is in
    rw (← line-is, ← others-is) (record { more = next.more; parts = ap (λ (x : List ℕ). b ∷ x) next.parts; one_line = (apart, next.one_line); ends = ends_longer b q next.more next.ends; rest = next.rest })

pub first_piece : (bytes line : List ℕ) (others : List (List ℕ)) → pieces bytes ≡ line ∷ others → Begins bytes line others
first_piece [] line others e = absurd cc
first_piece (b ∷ bytes) line others e =
    elim (chosen (b == 10) ([] ∷ pieces bytes) (onto_first b (pieces bytes)) (line ∷ others) e) [
      | inl newline ↦ at_newline b bytes line others (eqb-true _ _ newline.0) newline.1
      | inr other ↦ in_line b bytes line others (pieces bytes) (eqb-false _ _ other.0) refl other.1 (λ q qs is. first_piece bytes q qs is)
    ]

-- ---- the last newline

one_more : (b : ℕ) (t : Bool) (xs ys : List (List ℕ)) → (xs ≡ ys) ⊎ (xs ≡ ys ++ [] ∷ [])
    → (cond t ([] ∷ xs) (onto_first b xs) ≡ cond t ([] ∷ ys) (onto_first b ys)) ⊎ (cond t ([] ∷ xs) (onto_first b xs) ≡ cond t ([] ∷ ys) (onto_first b ys) ++ [] ∷ [])
one_more b true xs ys (inl e) = inl (ap (λ (z : List (List ℕ)). [] ∷ z) e)
one_more b true xs ys (inr e) = inr (ap (λ (z : List (List ℕ)). [] ∷ z) e)
one_more b false xs ys (inl e) = inl (ap (onto_first b) e)
one_more b false xs [] (inr e) = inl (ap (onto_first b) e)
one_more b false xs (q ∷ qs) (inr e) = inr (ap (onto_first b) e)

pub pieces_newline : (bytes : List ℕ) → (pieces (bytes ++ 10 ∷ []) ≡ pieces bytes) ⊎ (pieces (bytes ++ 10 ∷ []) ≡ pieces bytes ++ [] ∷ [])
pieces_newline [] = inr refl
pieces_newline (b ∷ bytes) = one_more b (b == 10) _ _ (pieces_newline bytes)
