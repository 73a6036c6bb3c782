-- The first newline.
use Rattle.std.proofs.Common.{◌≡◌, ℕ, zero, suc, ◌+◌, ◌<◌, ◌≤◌, Bool, true, false, List, [], ◌∷◌, ◌++◌, length, take, drop, Option, Some, None, refl, sym, ◌∙◌, ap, subst, cond, eqb, arith}
use Rattle.std.specs.Prelude.{position}
use Rattle.std.specs.List.{position_from}
use Rattle.std.specs.Option.{option_map}
use Rattle.std.proofs.lemmas.Bool.{false≢true, eqb-true}
use Rattle.std.proofs.lemmas.Iterator.Adapters.{position_from-zero}
use Rattle.pickle_ops.specs.Arguments.{is_newline}
use Rattle.pickle_ops.specs.Grammar.{is_one_line}

-- the same place, by cases
find_newline : List ℕ → Option ℕ
find_newline [] = None
find_newline (byte ∷ bytes) = cond (eqb byte 10) (Some 0) (option_map (λ i. suc i) (find_newline bytes))

moved : (t : Bool) (k : ℕ) (o : Option ℕ) → cond t (Some k) (option_map (λ i. k + 1 + i) o) ≡ option_map (λ i. k + i) (cond t (Some 0) (option_map (λ i. suc i) o))
moved true k o = ap Some (omega arith)
moved false k None = refl
moved false k (Some i) = ap Some (omega arith)

from : (bytes : List ℕ) (k : ℕ) → position_from is_newline k bytes ≡ option_map (λ i. k + i) (find_newline bytes)
unfolding find_newline
from [] k = refl
from (byte ∷ bytes) k =
    ap (λ o. cond (eqb byte 10) (Some k) o) (from bytes (k + 1)) ∙ moved (eqb byte 10) k (find_newline bytes)

whole : (o : Option ℕ) → option_map (λ i. 0 + i) o ≡ o
whole None = refl
whole (Some i) = ap Some (omega arith)

position-find : (bytes : List ℕ) → position is_newline bytes ≡ find_newline bytes
position-find bytes = position_from-zero is_newline bytes ∙ from bytes 0 ∙ whole (find_newline bytes)

-- a newline at a place, and none before it
pub record EndsAt (bytes : List ℕ) (i : ℕ) : Type 0 where
  pub inside : i < length bytes
  pub parts : bytes ≡ take i bytes ++ 10 ∷ drop (i + 1) bytes
  pub one : is_one_line (take i bytes) ≡ true

below : (o : Option ℕ) (i : ℕ) → option_map (λ n. suc n) o ≡ Some i → (j : ℕ) × (o ≡ Some j) × (i ≡ suc j)
below None i h = cc
below (Some j) i h = (j, refl, cc)

found : (bytes : List ℕ) (i : ℕ) → find_newline bytes ≡ Some i → EndsAt bytes i
unfolding find_newline
found [] i h = cc
found (byte ∷ bytes) i h = first_or (found bytes) (eqb byte 10) refl h
  where
    first_or : ((j : ℕ) → find_newline bytes ≡ Some j → EndsAt bytes j) → (t : Bool) → eqb byte 10 ≡ t → cond t (Some 0) (option_map (λ n. suc n) (find_newline bytes)) ≡ Some i → EndsAt (byte ∷ bytes) i
    first_or later true e h =
        let here : 0 ≡ i = cc in
        let is : byte ≡ 10 = eqb-true byte 10 e in
        subst (EndsAt (byte ∷ bytes)) here (record { inside = omega arith; parts = ap (λ b. b ∷ bytes) is; one = refl })
    first_or later false e h =
        let p = below (find_newline bytes) i h in
        let ih = later p.0 p.1 in
        let next : suc p.0 + 1 ≡ suc (p.0 + 1) = omega arith in
        subst (EndsAt (byte ∷ bytes)) (sym p.2)
        (record { inside = omega arith; parts = rw next (ap (λ bs. byte ∷ bs) ih.parts); one = rw e ih.one })

pub ends_at : (bytes : List ℕ) (i : ℕ) → position is_newline bytes ≡ Some i → EndsAt bytes i
ends_at bytes i h = found bytes i (sym (position-find bytes) ∙ h)

find-line : (line rest : List ℕ) → is_one_line line ≡ true → find_newline (line ++ 10 ∷ rest) ≡ Some (length line)
unfolding find_newline
find-line [] rest h = refl
find-line (byte ∷ line) rest h = first_or (find-line line rest) (eqb byte 10) refl h
  where
    first_or : (is_one_line line ≡ true → find_newline (line ++ 10 ∷ rest) ≡ Some (length line)) → (t : Bool) → eqb byte 10 ≡ t → cond t false (is_one_line line) ≡ true → cond (eqb byte 10) (Some 0) (option_map (λ n. suc n) (find_newline (line ++ 10 ∷ rest))) ≡ Some (suc (length line))
    first_or later true e h = absurd (false≢true h)
    first_or later false e h = let ih = later h in rw (e, ih) refl

pub position-line : (line rest : List ℕ) → is_one_line line ≡ true → position is_newline (line ++ 10 ∷ rest) ≡ Some (length line)
position-line line rest h = position-find (line ++ 10 ∷ rest) ∙ find-line line rest h

find-cut : (line rest : List ℕ) (n : ℕ) → is_one_line line ≡ true → n ≤ length line → find_newline (take n (line ++ rest)) ≡ None
unfolding find_newline
find-cut line rest zero h short = refl
find-cut [] rest (suc n) h short = absurd (omega arith)
find-cut (byte ∷ line) rest (suc n) h short = first_or (find-cut line rest n) (eqb byte 10) refl h
  where
    first_or : (is_one_line line ≡ true → n ≤ length line → find_newline (take n (line ++ rest)) ≡ None) → (t : Bool) → eqb byte 10 ≡ t → cond t false (is_one_line line) ≡ true → cond (eqb byte 10) (Some 0) (option_map (λ i. suc i) (find_newline (take n (line ++ rest)))) ≡ None
    first_or later true e h = absurd (false≢true h)
    first_or later false e h = let ih = later h (omega arith) in rw (e, ih) refl

-- a line that is cut has no newline
pub position-cut : (line rest : List ℕ) (n : ℕ) → is_one_line line ≡ true → n ≤ length line → position is_newline (take n (line ++ rest)) ≡ None
position-cut line rest n h short = position-find (take n (line ++ rest)) ∙ find-cut line rest n h short
