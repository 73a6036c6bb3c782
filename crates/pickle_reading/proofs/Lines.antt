-- Where the first line of bytes ends.
use Rattle.std.proofs.Common.{◌≡◌, ℕ, zero, suc, ◌+◌, ◌<◌, ◌≤◌, false, List, [], ◌∷◌, length, take, drop, refl, ap, eqb, arith}
use Rattle.std.specs.Prelude.{slice_index}
use Rattle.pickle_reading.specs.Leaves.{first_line, behind_line}

-- so many bytes at the front are no newlines
abbrev pub NoneBefore : List ℕ → ℕ → Type 0
NoneBefore bytes n = (k : ℕ) → k < n → (slice_index bytes k ≡ 10 → ⊥)

not_equal : (a b : ℕ) → (a ≡ b → ⊥) → eqb a b ≡ false
not_equal a b h = grind (arith, h)

-- the line that ends there
pub record EndsThere (bytes : List ℕ) (n : ℕ) : Type 0 where
  pub first : take n bytes ≡ first_line bytes
  pub behind : drop (n + 1) bytes ≡ behind_line bytes

pub line_at : (bytes : List ℕ) (n : ℕ) → NoneBefore bytes n → n < length bytes → slice_index bytes n ≡ 10 → EndsThere bytes n
line_at [] n none h e = absurd (omega arith)
line_at (byte ∷ bytes) zero none h e = let here : byte ≡ 10 = e in record { first = rw here refl; behind = rw here refl }
line_at (byte ∷ bytes) (suc n) none h e =
    let here : eqb byte 10 ≡ false = not_equal byte 10 (none 0 (omega arith)) in
    let ih : EndsThere bytes n = line_at bytes n (λ k less. none (suc k) (omega arith)) (omega arith) e in
    let one : suc n + 1 ≡ suc (n + 1) = omega arith in
    record { first = rw here (ap (λ l. byte ∷ l) ih.first); behind = rw (one, here) ih.behind }

pub line_none : (bytes : List ℕ) (n : ℕ) → NoneBefore bytes n → length bytes ≤ n → EndsThere bytes n
line_none [] zero none h = record { first = refl; behind = refl }
line_none [] (suc n) none h = let one : suc n + 1 ≡ suc (n + 1) = omega arith in record { first = refl; behind = rw one refl }
line_none (byte ∷ bytes) zero none h = absurd (omega arith)
line_none (byte ∷ bytes) (suc n) none h =
    let here : eqb byte 10 ≡ false = not_equal byte 10 (none 0 (omega arith)) in
    let ih : EndsThere bytes n = line_none bytes n (λ k less. none (suc k) (omega arith)) (omega arith) in
    let one : suc n + 1 ≡ suc (n + 1) = omega arith in
    record { first = rw here (ap (λ l. byte ∷ l) ih.first); behind = rw (one, here) ih.behind }
