-- The laws of characters: what is read is spelled so, and what is spelled so is read.
use Rattle.std.proofs.Common.{◌≡◌, ℕ, ◌+◌, ◌*◌, ◌/◌, ◌%◌, ◌<◌, ◌≤◌, ◌≢◌, Bool, true, false, cond, not, ◌&&◌, ◌||◌, eqb, ltb, List, [], ◌∷◌, ◌++◌, length, Option, Some, None, refl, sym, ap, subst, ◌∙◌, arith}
use Rattle.std.specs.Prelude.{codes}
use Rattle.std.specs.Char.Escape.{escape_unicode, hex_digit_at}
use Rattle.std.proofs.Math.Utf8.{scalar}
use Rattle.std.proofs.lemmas.Bool.{eqb-false, ne_eqb, and_parts, ltb-true}
use Rattle.std.proofs.lemmas.Bool.Decides.{nat_tests}
use Rattle.std.proofs.lemmas.Option.{same_Some, cond_some}
use Rattle.std.proofs.lemmas.List.{length-append}
use Rattle.zb_ids.specs.Hex.{◌>>=◌, digit_of, digit_value, pair_value, pair_of, bytes_at}
use Rattle.zb_ids.specs.HexLaws.{from_bind, bytes_take, bytes_again}
use Rattle.zb_literals.specs.Texts.{is_plain, is_quoted, character_text, is_name_byte, name_byte_text}
use Rattle.literal_reading.specs.Reading.{rest_behind, one_at, code_at, escape_at, quoted_at, plain_at, character_at, byte_pair_at, name_byte_plain, name_byte_at}
use Rattle.literal_reading.proofs.Steps.{from_if, cond_true, cond_false, behind_takes, behind_again, one_takes}

-- ---- one character

-- a code that is spelled, by its text
pub record TakesOne (spelled : ℕ → List ℕ) (Is : ℕ → Type 0) (bytes : List ℕ) (read : ℕ × List ℕ) : Type 0 where
  pub text : bytes ≡ spelled read.0 ++ read.1
  pub is : Is read.0

abbrev pub IsScalarCode : ℕ → Type 0
IsScalarCode c = scalar c ≡ true

not_true : (b : Bool) → not b ≡ true → b ≡ false
not_true true e = absurd cc
not_true false e = refl

plain_scalar : (c : ℕ) → is_plain c ≡ true → scalar c ≡ true
plain_scalar c e = grind (arith, nat_tests)

quoted_plain : (c : ℕ) → is_quoted c ≡ true → is_plain c ≡ true
quoted_plain c e = grind (arith, nat_tests)

plain_text : (c : ℕ) → is_plain c ≡ true → is_quoted c ≡ false → character_text c ≡ c ∷ []
plain_text c p q = rw (q, p) refl

quoted_text : (c : ℕ) → is_quoted c ≡ true → character_text c ≡ 92 ∷ c ∷ []
quoted_text c q = rw q refl

escaped_text : (c : ℕ) → is_plain c ≡ false → character_text c ≡ escape_unicode c
escaped_text c p = by_test (is_quoted c) refl
  where
    by_test : (t : Bool) → is_quoted c ≡ t → cond t (92 ∷ c ∷ []) (cond (is_plain c) (c ∷ []) (escape_unicode c)) ≡ escape_unicode c
    by_test true e = let w = quoted_plain c e in absurd cc
    by_test false e = rw p refl

escape_takes : (bytes digits : List ℕ) (read : ℕ × List ℕ) → escape_at bytes digits ≡ Some read → TakesOne character_text IsScalarCode bytes read
unfolding escape_at
escape_takes bytes digits read e =
    from_bind (code_at 0 digits) _ read e (λ code at e1.
    let p = cond_true (scalar code && not (is_plain code)) _ read e1 in
    let tests = and_parts (scalar code) (not (is_plain code)) p.0 in
    from_bind (rest_behind (escape_unicode code) bytes) (λ rest. Some (code, rest)) read p.1 (λ rest at_rest is.
    subst (TakesOne character_text IsScalarCode bytes) (same_Some (code, rest) read is)
    (record { text = behind_takes (escape_unicode code) bytes rest at_rest ∙ ap (λ (t : List ℕ). t ++ rest) (sym (escaped_text code (not_true _ tests.1))); is = tests.0 })))

quoted_takes : (bytes : List ℕ) (read : ℕ × List ℕ) → quoted_at bytes ≡ Some read → TakesOne character_text IsScalarCode (92 ∷ bytes) read
unfolding quoted_at
quoted_takes bytes read e =
    from_bind (one_at bytes) _ read e (λ one at e1.
    let p = cond_some (is_quoted one.0) one read e1 in
    subst (TakesOne character_text IsScalarCode (92 ∷ bytes)) p.1
    (record { text = ap (λ (t : List ℕ). 92 ∷ t) (one_takes bytes one.0 one.1 at) ∙ ap (λ (t : List ℕ). t ++ one.1) (sym (quoted_text one.0 p.0)); is = plain_scalar one.0 (quoted_plain one.0 p.0) }))

plain_takes : (bytes : List ℕ) (read : ℕ × List ℕ) → plain_at bytes ≡ Some read → TakesOne character_text IsScalarCode bytes read
unfolding plain_at
plain_takes bytes read e =
    from_bind (one_at bytes) _ read e (λ one at e1.
    let p = cond_some (is_plain one.0 && not (is_quoted one.0)) one read e1 in
    let tests = and_parts (is_plain one.0) (not (is_quoted one.0)) p.0 in
    subst (TakesOne character_text IsScalarCode bytes) p.1
    (record { text = one_takes bytes one.0 one.1 at ∙ ap (λ (t : List ℕ). t ++ one.1) (sym (plain_text one.0 tests.0 (not_true _ tests.1))); is = plain_scalar one.0 tests.0 }))

pub character_takes : (bytes : List ℕ) (read : ℕ × List ℕ) → character_at bytes ≡ Some read → TakesOne character_text IsScalarCode bytes read
unfolding character_at
character_takes bytes read e =
    from_if (rest_behind (codes "\\u{") bytes) (escape_at bytes) _ read e (λ digits at e1. escape_takes bytes digits read e1) (λ e1.
    from_if (rest_behind (codes "\\") bytes) quoted_at (plain_at bytes) read e1
    (λ rest at e2. rw (behind_takes (codes "\\") bytes rest at) (quoted_takes rest read e2)) (λ e2. plain_takes bytes read e2))

-- ---- and again

digit_16 : (n : ℕ) → n < 16 → digit_value (cond (ltb n 10) (48 + n) (87 + n)) ≡ Some n
digit_16 n h = grind (arith, nat_tests)

-- one more digit of a code
code_more : (code d : ℕ) (rest : List ℕ) → code ≤ 0x10ffff → d < 16 → code_at code (cond (ltb d 10) (48 + d) (87 + d) ∷ rest) ≡ code_at (16 * code + d) rest
code_more code d rest h k =
    let apart : eqb (cond (ltb d 10) (48 + d) (87 + d)) 125 ≡ false = grind (arith, nat_tests) in
    let small : ltb 0x10ffff code ≡ false = grind (arith, nat_tests) in
    rw (apart, small, digit_16 d k) refl

code_end : (code : ℕ) (rest : List ℕ) → code_at code (125 ∷ rest) ≡ Some code
code_end code rest = refl

-- the digits of a code up to the closing brace, and what follows, by how many there are
abbrev digits_one : ℕ → List ℕ → List ℕ
digits_one c rest = hex_digit_at 1 c ∷ 125 ∷ rest

abbrev digits_two : ℕ → List ℕ → List ℕ
digits_two c rest = hex_digit_at 0x10 c ∷ hex_digit_at 1 c ∷ 125 ∷ rest

abbrev digits_three : ℕ → List ℕ → List ℕ
digits_three c rest = hex_digit_at 0x100 c ∷ hex_digit_at 0x10 c ∷ hex_digit_at 1 c ∷ 125 ∷ rest

abbrev digits_four : ℕ → List ℕ → List ℕ
digits_four c rest = hex_digit_at 0x1000 c ∷ hex_digit_at 0x100 c ∷ hex_digit_at 0x10 c ∷ hex_digit_at 1 c ∷ 125 ∷ rest

abbrev digits_five : ℕ → List ℕ → List ℕ
digits_five c rest = hex_digit_at 0x1_0000 c ∷ hex_digit_at 0x1000 c ∷ hex_digit_at 0x100 c ∷ hex_digit_at 0x10 c ∷ hex_digit_at 1 c ∷ 125 ∷ rest

abbrev digits_six : ℕ → List ℕ → List ℕ
digits_six c rest = hex_digit_at 0x10_0000 c ∷ hex_digit_at 0x1_0000 c ∷ hex_digit_at 0x1000 c ∷ hex_digit_at 0x100 c ∷ hex_digit_at 0x10 c ∷ hex_digit_at 1 c ∷ 125 ∷ rest

read_one : (c code : ℕ) (rest : List ℕ) → c < 0x110000 → code ≤ 0x10ffff → 16 * code + c / 1 % 16 ≡ c / 1 → code_at code (digits_one c rest) ≡ Some c
read_one c code rest h k e = code_more code (c / 1 % 16) (125 ∷ rest) k (omega arith) ∙ ap (λ (x : ℕ). Some x) (omega (arith, e))

read_two : (c code : ℕ) (rest : List ℕ) → c < 0x110000 → code ≤ 0x10ffff → 16 * code + c / 0x10 % 16 ≡ c / 0x10 → code_at code (digits_two c rest) ≡ Some c
read_two c code rest h k e =
    code_more code (c / 0x10 % 16) (digits_one c rest) k (omega arith) ∙ read_one c (16 * code + c / 0x10 % 16) rest h (omega (arith, h, e)) (omega (arith, e))

read_three : (c code : ℕ) (rest : List ℕ) → c < 0x110000 → code ≤ 0x10ffff → 16 * code + c / 0x100 % 16 ≡ c / 0x100 → code_at code (digits_three c rest) ≡ Some c
read_three c code rest h k e =
    code_more code (c / 0x100 % 16) (digits_two c rest) k (omega arith) ∙ read_two c (16 * code + c / 0x100 % 16) rest h (omega (arith, h, e)) (omega (arith, e))

read_four : (c code : ℕ) (rest : List ℕ) → c < 0x110000 → code ≤ 0x10ffff → 16 * code + c / 0x1000 % 16 ≡ c / 0x1000 → code_at code (digits_four c rest) ≡ Some c
read_four c code rest h k e =
    code_more code (c / 0x1000 % 16) (digits_three c rest) k (omega arith) ∙ read_three c (16 * code + c / 0x1000 % 16) rest h (omega (arith, h, e)) (omega (arith, e))

read_five : (c code : ℕ) (rest : List ℕ) → c < 0x110000 → code ≤ 0x10ffff → 16 * code + c / 0x1_0000 % 16 ≡ c / 0x1_0000 → code_at code (digits_five c rest) ≡ Some c
read_five c code rest h k e =
    code_more code (c / 0x1_0000 % 16) (digits_four c rest) k (omega arith) ∙ read_four c (16 * code + c / 0x1_0000 % 16) rest h (omega (arith, h, e)) (omega (arith, e))

read_six : (c code : ℕ) (rest : List ℕ) → c < 0x110000 → code ≤ 0x10ffff → 16 * code + c / 0x10_0000 % 16 ≡ c / 0x10_0000 → code_at code (digits_six c rest) ≡ Some c
read_six c code rest h k e =
    code_more code (c / 0x10_0000 % 16) (digits_five c rest) k (omega arith) ∙ read_five c (16 * code + c / 0x10_0000 % 16) rest h (omega (arith, h, e)) (omega (arith, e))

-- what escapes a code, and what follows
pub record Escapes (c : ℕ) (rest : List ℕ) (text : List ℕ) : Type 0 where
  pub digits : List ℕ
  pub whole : text ++ rest ≡ 92 ∷ 117 ∷ 123 ∷ digits
  pub read : code_at 0 digits ≡ Some c

either : (c : ℕ) (rest : List ℕ) (t : Bool) (xs ys : List ℕ) → (t ≡ true → Escapes c rest xs) → (t ≡ false → Escapes c rest ys) → Escapes c rest (cond t xs ys)
either c rest true xs ys yes_way no_way = yes_way refl
either c rest false xs ys yes_way no_way = no_way refl

pub escape_code : (c : ℕ) (rest : List ℕ) → c < 0x110000 → Escapes c rest (escape_unicode c)
escape_code c rest h =
    either c rest (ltb c 0x10) _ _ (λ e. record { digits = digits_one c rest; whole = refl; read = read_one c 0 rest h (omega arith) (omega (arith, ltb-true c 0x10 e)) }) (λ e0.
    either c rest (ltb c 0x100) _ _ (λ e. record { digits = digits_two c rest; whole = refl; read = read_two c 0 rest h (omega arith) (omega (arith, ltb-true c 0x100 e)) }) (λ e1.
    either c rest (ltb c 0x1000) _ _ (λ e. record { digits = digits_three c rest; whole = refl; read = read_three c 0 rest h (omega arith) (omega (arith, ltb-true c 0x1000 e)) }) (λ e2.
    either c rest (ltb c 0x1_0000) _ _ (λ e. record { digits = digits_four c rest; whole = refl; read = read_four c 0 rest h (omega arith) (omega (arith, ltb-true c 0x1_0000 e)) }) (λ e3.
    either c rest (ltb c 0x10_0000) _ _ (λ e. record { digits = digits_five c rest; whole = refl; read = read_five c 0 rest h (omega arith) (omega (arith, ltb-true c 0x10_0000 e)) }) (λ e4.
    record { digits = digits_six c rest; whole = refl; read = read_six c 0 rest h (omega arith) (omega (arith, h)) })))))

pub scalar_below : (c : ℕ) → scalar c ≡ true → c < 0x110000
scalar_below c e = grind (arith, nat_tests)

pub escape_again : (c : ℕ) (rest : List ℕ) → scalar c ≡ true → is_plain c ≡ false → character_at (escape_unicode c ++ rest) ≡ Some (c, rest)
unfolding character_at escape_at
escape_again c rest s p =
    let e = escape_code c rest (scalar_below c s) in
    let front : rest_behind (codes "\\u{") (escape_unicode c ++ rest) ≡ Some e.digits = rw (e.whole) (behind_again (codes "\\u{") e.digits) in
    rw (front, e.read, s, p, behind_again (escape_unicode c) rest) refl

pub character_again : (c : ℕ) (rest : List ℕ) → scalar c ≡ true → character_at (character_text c ++ rest) ≡ Some (c, rest)
unfolding character_at rest_behind quoted_at plain_at
character_again c rest s = by_quoted (is_quoted c) refl
  where
    unplain : is_quoted c ≡ false → (t : Bool) → is_plain c ≡ t → character_at (cond t (c ∷ []) (escape_unicode c) ++ rest) ≡ Some (c, rest)
    unplain q true p =
        let apart : eqb c 92 ≡ false = grind (arith, nat_tests) in
        let other : eqb c 34 ≡ false = grind (arith, nat_tests) in
        rw (apart, p, other) refl
    unplain q false p = escape_again c rest s p

    by_quoted : (t : Bool) → is_quoted c ≡ t → character_at (cond t (92 ∷ c ∷ []) (cond (is_plain c) (c ∷ []) (escape_unicode c)) ++ rest) ≡ Some (c, rest)
    by_quoted true q =
        let apart : eqb c 117 ≡ false = grind (arith, nat_tests) in
        rw (apart, q) refl
    by_quoted false q = unplain q (is_plain c) refl

-- ---- bytes of names

abbrev pub IsNameCode : ℕ → Type 0
IsNameCode b = (b < 256) × (b ≢ 10)

name_small : (b : ℕ) → is_name_byte b ≡ true → IsNameCode b
name_small b e = (grind (arith, nat_tests), λ is. absurd (grind (arith, nat_tests)))

name_plain_takes : (bytes : List ℕ) (read : ℕ × List ℕ) → name_byte_plain bytes ≡ Some read → TakesOne name_byte_text IsNameCode bytes read
unfolding name_byte_plain
name_plain_takes bytes read e =
    from_bind (one_at bytes) _ read e (λ one at e1.
    let p = cond_some (is_name_byte one.0) one read e1 in
    subst (TakesOne name_byte_text IsNameCode bytes) p.1
    (record { text = one_takes bytes one.0 one.1 at ∙ rw (p.0) refl; is = name_small one.0 p.0 }))

or_parts : (a b : Bool) → (a || b) ≡ false → (a ≡ false) × (b ≡ false)
or_parts true b e = absurd cc
or_parts false b e = (refl, e)

pair_bytes : (high low byte : ℕ) → pair_value high low ≡ Some byte → bytes_at (high ∷ low ∷ []) ≡ Some (byte ∷ [])
unfolding bytes_at
pair_bytes high low byte e = rw e refl

pair_small : (high low byte : ℕ) → pair_value high low ≡ Some byte → (byte < 256) × (high ∷ low ∷ [] ≡ pair_of byte)
pair_small high low byte e =
    let t = bytes_take (high ∷ low ∷ []) (byte ∷ []) (pair_bytes high low byte e) in
    (t.1.0, t.0)

some_byte : (byte : ℕ) (o : Option ℕ) → (o >>= λ b. Some [] >>= λ (bs : List ℕ). Some (b ∷ bs)) ≡ Some (byte ∷ []) → o ≡ Some byte
some_byte byte None e = absurd cc
some_byte byte (Some b) e = cc

pair_again : (byte : ℕ) → byte < 256 → pair_value (digit_of (byte / 16)) (digit_of (byte % 16)) ≡ Some byte
unfolding bytes_at
pair_again byte h = some_byte byte (pair_value (digit_of (byte / 16)) (digit_of (byte % 16))) (bytes_again (byte ∷ []) (h, tt))

byte_pair_takes : (bytes : List ℕ) (read : ℕ × List ℕ) → byte_pair_at bytes ≡ Some read → TakesOne name_byte_text IsNameCode (92 ∷ 120 ∷ bytes) read
unfolding byte_pair_at
byte_pair_takes bytes read e =
    from_bind (one_at bytes) _ read e (λ high at_high e1.
    from_bind (one_at high.1) _ read e1 (λ low at_low e2.
    from_bind (pair_value high.0 low.0) _ read e2 (λ byte at_byte e3.
    let g = cond_false (is_name_byte byte || eqb byte 10) (Some (byte, low.1)) read e3 in
    let tests = or_parts (is_name_byte byte) (eqb byte 10) g.0 in
    let small = pair_small high.0 low.0 byte at_byte in
    let whole : bytes ≡ pair_of byte ++ low.1 = one_takes bytes high.0 high.1 at_high ∙ ap (λ (x : List ℕ). high.0 ∷ x) (one_takes high.1 low.0 low.1 at_low) ∙ ap (λ (x : List ℕ). x ++ low.1) small.1 in
    subst (TakesOne name_byte_text IsNameCode (92 ∷ 120 ∷ bytes)) (same_Some (byte, low.1) read g.1)
    (record { text = ap (λ (x : List ℕ). 92 ∷ 120 ∷ x) whole ∙ ap (λ (x : List ℕ). x ++ low.1) (sym (spelled byte tests.0)); is = (small.0, eqb-false _ _ tests.1) }))))
  where
    spelled : (byte : ℕ) → is_name_byte byte ≡ false → name_byte_text byte ≡ 92 ∷ 120 ∷ pair_of byte
    spelled byte e = rw e refl

pub name_byte_takes : (bytes : List ℕ) (read : ℕ × List ℕ) → name_byte_at bytes ≡ Some read → TakesOne name_byte_text IsNameCode bytes read
unfolding name_byte_at
name_byte_takes bytes read e =
    from_if (rest_behind (codes "\\x") bytes) byte_pair_at (name_byte_plain bytes) read e
    (λ rest at e1. rw (behind_takes (codes "\\x") bytes rest at) (byte_pair_takes rest read e1)) (λ e1. name_plain_takes bytes read e1)

pub name_byte_again : (b : ℕ) (rest : List ℕ) → IsNameCode b → name_byte_at (name_byte_text b ++ rest) ≡ Some (b, rest)
unfolding name_byte_at rest_behind byte_pair_at name_byte_plain
name_byte_again b rest h = by_test (is_name_byte b) refl
  where
    by_test : (t : Bool) → is_name_byte b ≡ t → name_byte_at (cond t (b ∷ []) (92 ∷ 120 ∷ pair_of b) ++ rest) ≡ Some (b, rest)
    by_test true e =
        let apart : eqb b 92 ≡ false = grind (arith, nat_tests) in
        rw (apart, e) refl
    by_test false e =
        let other : eqb b 10 ≡ false = ne_eqb b 10 h.1 in
        rw (pair_again b h.0, e, other) refl

-- ---- where they stop

pub character_stops : (c : ℕ) (rest : List ℕ) → scalar c ≡ true → rest_behind (34 ∷ []) (character_text c ++ rest) ≡ None
unfolding rest_behind
character_stops c rest s = by_quoted (is_quoted c) refl
  where
    unplain : is_quoted c ≡ false → (t : Bool) → is_plain c ≡ t → rest_behind (34 ∷ []) (cond t (c ∷ []) (escape_unicode c) ++ rest) ≡ None
    unplain q true p =
        let apart : eqb c 34 ≡ false = grind (arith, nat_tests) in
        rw apart refl
    unplain q false p = rw ((escape_code c rest (scalar_below c s)).whole) refl

    by_quoted : (t : Bool) → is_quoted c ≡ t → rest_behind (34 ∷ []) (cond t (92 ∷ c ∷ []) (cond (is_plain c) (c ∷ []) (escape_unicode c)) ++ rest) ≡ None
    by_quoted true q = refl
    by_quoted false q = unplain q (is_plain c) refl

nothing_at : (c : ℕ) → character_at ([] ++ []) ≡ Some (c, []) → ⊥
unfolding character_at rest_behind plain_at
nothing_at c e = cc

pub character_some : (c : ℕ) → scalar c ≡ true → 0 < length (character_text c)
character_some c s = by_length (character_text c) refl
  where
    by_length : (text : List ℕ) → character_text c ≡ text → 0 < length text
    by_length [] e = absurd (nothing_at c (ap (λ (t : List ℕ). character_at (t ++ [])) (sym e) ∙ character_again c [] s))
    by_length (x ∷ text) e = omega arith

pub name_stops : (stop b : ℕ) (rest : List ℕ) → is_name_byte stop ≡ false → stop ≢ 92 → rest_behind (stop ∷ []) (name_byte_text b ++ rest) ≡ None
unfolding rest_behind
name_stops stop b rest h k = by_test (is_name_byte b) refl
  where
    by_test : (t : Bool) → is_name_byte b ≡ t → rest_behind (stop ∷ []) (cond t (b ∷ []) (92 ∷ 120 ∷ pair_of b) ++ rest) ≡ None
    by_test true e =
        let apart : eqb b stop ≡ false = ne_eqb b stop (λ is. let same : is_name_byte stop ≡ true = rw (← is) e in absurd cc) in
        rw apart refl
    by_test false e =
        let apart : eqb 92 stop ≡ false = ne_eqb 92 stop (λ is. absurd (k (sym is))) in
        rw apart refl

pub name_some : (b : ℕ) → 0 < length (name_byte_text b)
name_some b = by_test (is_name_byte b)
  where
    by_test : (t : Bool) → 0 < length (cond t (b ∷ []) (92 ∷ 120 ∷ pair_of b))
    by_test true = omega arith
    by_test false = omega arith

pub character_shrinks : (bytes : List ℕ) (read : ℕ × List ℕ) → character_at bytes ≡ Some read → length read.1 < length bytes
character_shrinks bytes read e =
    let t = character_takes bytes read e in
    omega (arith, ap length t.text, length-append (character_text read.0) read.1, character_some read.0 t.is)

pub name_shrinks : (bytes : List ℕ) (read : ℕ × List ℕ) → name_byte_at bytes ≡ Some read → length read.1 < length bytes
name_shrinks bytes read e =
    let t = name_byte_takes bytes read e in
    omega (arith, ap length t.text, length-append (name_byte_text read.0) read.1, name_some read.0)
