-- Laws of the first line of bytes, and of what stands behind it.
use Rattle.std.proofs.Common.{◌≡◌, ℕ, Bool, true, false, cond, List, [], ◌∷◌, ◌++◌, refl, ap, eqb}
use Rattle.std.proofs.lemmas.Bool.{false≢true}
use Rattle.pickle_ops.specs.Grammar.{is_one_line}
use Rattle.pickle_reading.specs.Leaves.{first_line, behind_line}

-- the bytes before the first newline
pub first-line : (line rest : List ℕ) → is_one_line line ≡ true → first_line (line ++ 10 ∷ rest) ≡ line
first-line [] rest h = refl
first-line (byte ∷ line) rest h = test (first-line line rest) (eqb byte 10) refl h
  where
    test : (is_one_line line ≡ true → first_line (line ++ 10 ∷ rest) ≡ line) → (b : Bool) → eqb byte 10 ≡ b → cond b false (is_one_line line) ≡ true → cond (eqb byte 10) [] (byte ∷ first_line (line ++ 10 ∷ rest)) ≡ byte ∷ line
    test later true e k = absurd (false≢true k)
    test later false e k = rw e (ap (λ l. byte ∷ l) (later k))

-- the bytes behind the first newline
pub behind-line : (line rest : List ℕ) → is_one_line line ≡ true → behind_line (line ++ 10 ∷ rest) ≡ rest
behind-line [] rest h = refl
behind-line (byte ∷ line) rest h = test (behind-line line rest) (eqb byte 10) refl h
  where
    test : (is_one_line line ≡ true → behind_line (line ++ 10 ∷ rest) ≡ rest) → (b : Bool) → eqb byte 10 ≡ b → cond b false (is_one_line line) ≡ true → cond (eqb byte 10) (line ++ 10 ∷ rest) (behind_line (line ++ 10 ∷ rest)) ≡ rest
    test later true e k = absurd (false≢true k)
    test later false e k = rw e (later k)
