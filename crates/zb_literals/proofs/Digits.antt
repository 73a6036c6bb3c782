-- What escapes a character is ASCII.
use Rattle.std.proofs.Common.{◌≡◌, ℕ, ◌+◌, ◌<◌, ◌%◌, ◌/◌, List, [], ◌∷◌, Bool, true, false, cond, nat_lt, ◌++◌, append_assoc, ap, sym, ◌∙◌, subst, arith, Fits, w8}
use Rattle.std.specs.Char.{digit_char}
use Rattle.std.specs.Char.Escape.{escape_unicode, hex_digit_at}

-- each is below 128
pub data AreSmall : List ℕ → Type 0 where
  none_left : AreSmall []
  one_more : (c : ℕ) (cs : List ℕ) → c < 128 → AreSmall cs → AreSmall (c ∷ cs)

digit_small : (n : ℕ) → n < 16 → digit_char n < 128
digit_small n below = by_test (nat_lt n 10)
  where
    by_test : (test : Bool) → cond test (48 + n) (87 + n) < 128
    by_test true = omega (arith, below)
    by_test false = omega (arith, below)

hex_small : (p c : ℕ) → hex_digit_at p c < 128
hex_small p c = digit_small (c / p % 16) (omega arith)

-- the last digits and the closing brace
one_small : (c : ℕ) → AreSmall (hex_digit_at 1 c ∷ 125 ∷ [])
one_small c = one_more _ _ (hex_small 1 c) (one_more _ _ (omega arith) none_left)

more_small : (p c : ℕ) (digits : List ℕ) → AreSmall digits → AreSmall (hex_digit_at p c ∷ digits)
more_small p c digits small = one_more _ _ (hex_small p c) small

-- behind a backslash, `u` and the opening brace
begun_small : (digits : List ℕ) → AreSmall digits → AreSmall (92 ∷ 117 ∷ 123 ∷ digits)
begun_small digits small = one_more _ _ (omega arith) (one_more _ _ (omega arith) (one_more _ _ (omega arith) small))

either : (test : Bool) (xs ys : List ℕ) → AreSmall xs → AreSmall ys → AreSmall (cond test xs ys)
either true xs ys a b = a
either false xs ys a b = b

pub escape_small : (c : ℕ) → AreSmall (escape_unicode c)
escape_small c =
    let two = more_small 0x10 c _ (one_small c) in
    let three = more_small 0x100 c _ two in
    let four = more_small 0x1000 c _ three in
    let five = more_small 0x1_0000 c _ four in
    let six = more_small 0x10_0000 c _ five in
    either (nat_lt c 0x10) _ _ (begun_small _ (one_small c))
    (either (nat_lt c 0x100) _ _ (begun_small _ two)
    (either (nat_lt c 0x1000) _ _ (begun_small _ three)
    (either (nat_lt c 0x1_0000) _ _ (begun_small _ four)
    (either (nat_lt c 0x10_0000) _ _ (begun_small _ five) (begun_small _ six)))))

first_small : (x : ℕ) (rest : List ℕ) → AreSmall (x ∷ rest) → Fits w8 x
first_small x rest (one_more y ys small others) = omega (arith, small)

others_small : (x : ℕ) (rest : List ℕ) → AreSmall (x ∷ rest) → AreSmall rest
others_small x rest (one_more y ys small others) = others

pub next_small : (x : ℕ) (rest all : List ℕ) → all ≡ x ∷ rest → AreSmall all → Fits w8 x
next_small x rest all is small = first_small x rest (subst AreSmall is small)

pub rest_small : (x : ℕ) (rest all : List ℕ) → all ≡ x ∷ rest → AreSmall all → AreSmall rest
rest_small x rest all is small = others_small x rest (subst AreSmall is small)

-- one more of what escapes a character was put at the end
pub put_one : (old out : List ℕ) (x : ℕ) (rest all text : List ℕ) → out ++ all ≡ old ++ text → all ≡ x ∷ rest → (out ++ x ∷ []) ++ rest ≡ old ++ text
put_one old out x rest all text so_far is = append_assoc out (x ∷ []) rest ∙ ap (λ (xs : List ℕ). out ++ xs) (sym is) ∙ so_far
