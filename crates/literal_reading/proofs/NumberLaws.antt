-- The laws of numbers and of words of digits.
use Rattle.std.proofs.Common.{◌≡◌, ℕ, zero, suc, ◌/◌, ◌%◌, ◌^◌, ◌<◌, ◌≤◌, Bool, true, false, cond, ◌&&◌, ◌||◌, eqb, ltb, List, [], ◌∷◌, ◌++◌, length, get_or, Option, Some, None, refl, sym, ap, subst, ◌∙◌, arith}
use Rattle.std.specs.Prelude.{ℤ, pos, negsuc, neg_ℤ}
use Rattle.std.specs.List.{AllByRecursion}
use Rattle.std.specs.Fmt.{signed_decimal, decimal}
use Rattle.std.specs.Str.{bytes_eq, IsUtf8}
use mir.Val.{SFits}
use mir.Syntax.{w128}
use Rattle.std.specs.Str.Parse.{IsNumeral, AllDigits, digits_value, signed_digits_value, without_leading_sign}
use Rattle.std.specs.Char.{digit_value}
use Rattle.std.proofs.lemmas.Fmt.{decimal_is_IsNumeral_wide, IsAscii-decimal_wide}
use Rattle.std.proofs.lemmas.Str.{IsUtf8-from_ascii}
use Rattle.std.proofs.lemmas.Bool.{ne_eqb, and_parts, ltb-true, ltb-false, lt-ltb}
use Rattle.std.proofs.lemmas.Bool.Decides.{nat_tests}
use Rattle.std.proofs.lemmas.Option.{same_Some, cond_some}
use Rattle.std.proofs.lemmas.Slice.Eq.{bytes_eq-Decides}
use Rattle.zb_ids.specs.Hex.{hex_text, bytes_at, digit_of}
use Rattle.zb_ids.specs.HexLaws.{from_bind, bytes_take, bytes_again}
use Rattle.pickle_graph.specs.declared.node.Node.{Node}
use Rattle.pickle_graph.specs.declared.node.Node.TheVariants as kinds
use Rattle.pickle_graph.specs.Graph.{IsSigned128}
use Rattle.pickle_writing.specs.Spelling.{magnitude_of}
use Rattle.zb_literals.specs.Values.{AreAllSmall}
use Rattle.literal_reading.specs.Reading.{is_word_byte, word_of, rest_of_word, number_of_word, number_leaf_at, counted_at, begins_number}

-- ---- words

-- each byte is one of a word
abbrev pub IsWord : List ℕ → Type 0
IsWord bytes = AllByRecursion (λ b. is_word_byte b ≡ true) bytes

-- what follows a value: nothing, or a byte that closes it
abbrev pub is_closing : ℕ → Bool
is_closing b = eqb b 44 || eqb b 58 || eqb b 41 || eqb b 93 || eqb b 125

abbrev pub Closed : List ℕ → Type 0
Closed [] = Unit {0}
Closed (b ∷ bytes) = is_closing b ≡ true

closing_ends : (b : ℕ) → is_closing b ≡ true → is_word_byte b ≡ false
closing_ends b e = grind (arith, nat_tests)

pub word_parts : (bytes : List ℕ) → bytes ≡ word_of bytes ++ rest_of_word bytes
word_parts [] = refl
word_parts (b ∷ bytes) = by_test (is_word_byte b) (word_parts bytes)
  where
    by_test : (t : Bool) → bytes ≡ word_of bytes ++ rest_of_word bytes → b ∷ bytes ≡ cond t (b ∷ word_of bytes) [] ++ cond t (rest_of_word bytes) (b ∷ bytes)
    by_test true e = ap (λ (x : List ℕ). b ∷ x) e
    by_test false e = refl

pub word_again : (word rest : List ℕ) → IsWord word → Closed rest → (word_of (word ++ rest) ≡ word) × (rest_of_word (word ++ rest) ≡ rest)
word_again [] [] h c = (refl, refl)
word_again [] (b ∷ rest) h c = let ends = closing_ends b c in rw ends (refl, refl)
word_again (b ∷ word) rest h c =
    let later = word_again word rest h.1 c in
    let is : is_word_byte b ≡ true = h.0 in
    rw is (ap (λ (x : List ℕ). b ∷ x) later.0, later.1)

-- the same where an opening bracket follows
pub word_before : (word rest : List ℕ) → IsWord word → (word_of (word ++ 60 ∷ rest) ≡ word) × (rest_of_word (word ++ 60 ∷ rest) ≡ 60 ∷ rest)
word_before [] rest h = (refl, refl)
word_before (b ∷ word) rest h =
    let later = word_before word rest h.1 in
    let is : is_word_byte b ≡ true = h.0 in
    rw is (ap (λ (x : List ℕ). b ∷ x) later.0, later.1)

pub hex_word : (bytes : List ℕ) → AreAllSmall bytes → IsWord (hex_text bytes)
hex_word [] h = tt
hex_word (b ∷ bytes) h = (one (b / 16) (omega (arith, h.0)), (one (b % 16) (omega arith), hex_word bytes h.1))
  where
    one : (n : ℕ) → n < 16 → is_word_byte (digit_of n) ≡ true
    one n k = grind (arith, nat_tests)

-- ---- bytes

pub record TakesBytes (fits : ℕ → Bool) (bytes : List ℕ) (read : List ℕ × List ℕ) : Type 0 where
  pub text : bytes ≡ hex_text read.0 ++ read.1
  pub are : AreAllSmall read.0
  pub size : fits (length read.0) ≡ true

pub counted_takes : (fits : ℕ → Bool) (bytes : List ℕ) (read : List ℕ × List ℕ) → counted_at fits bytes ≡ Some read → TakesBytes fits bytes read
unfolding counted_at
counted_takes fits bytes read e =
    from_bind (bytes_at (word_of bytes)) _ read e (λ held at e1.
    let p = cond_some (fits (length held)) (held, rest_of_word bytes) read e1 in
    let t = bytes_take (word_of bytes) held at in
    subst (TakesBytes fits bytes) p.1
    (record { text = word_parts bytes ∙ ap (λ (w : List ℕ). w ++ rest_of_word bytes) t.0; are = t.1; size = p.0 }))

pub counted_again : (fits : ℕ → Bool) (held rest : List ℕ) → AreAllSmall held → fits (length held) ≡ true → Closed rest → counted_at fits (hex_text held ++ rest) ≡ Some (held, rest)
unfolding counted_at
counted_again fits held rest are size closed =
    let word = word_again (hex_text held) rest (hex_word held are) closed in
    rw (word.0, word.1, bytes_again held are, size) refl

pub counted_before : (fits : ℕ → Bool) (held rest : List ℕ) → AreAllSmall held → fits (length held) ≡ true → counted_at fits (hex_text held ++ 60 ∷ rest) ≡ Some (held, 60 ∷ rest)
unfolding counted_at
counted_before fits held rest are size =
    let word = word_before (hex_text held) rest (hex_word held are) in
    rw (word.0, word.1, bytes_again held are, size) refl

-- ---- numbers

signed_small : (z : ℤ) → magnitude_of z < 2 ^ 127 → IsSigned128 z
signed_small (pos n) h = record { low = search (arith); high = search (arith, h) }
signed_small (negsuc n) h = record { low = search (arith, h); high = search arith }

small_signed : (z : ℤ) → IsSigned128 z → magnitude_of z < 2 ^ 127
small_signed (pos n) h = grind (arith, h.high)
small_signed (negsuc n) h = grind (arith, h.low)

-- ---- digits in decimal

digit_range : (c : ℕ) → digit_value c < 10 → (48 ≤ c) × (c ≤ 57)
digit_range c h = by_test (ltb c 48) (ltb c 58) refl refl
  where
    by_test : (s t : Bool) → ltb c 48 ≡ s → ltb c 58 ≡ t → (48 ≤ c) × (c ≤ 57)
    by_test true t e f = absurd (grind (arith, nat_tests))
    by_test false true e f = (ltb-false _ _ e, omega (arith, ltb-true _ _ f))
    by_test false false e f = absurd (grind (arith, nat_tests))

digits_word : (ds : List ℕ) → AllDigits 10 ds → IsWord ds
digits_word [] h = tt
digits_word (c ∷ ds) h =
    let r = digit_range c h.0 in
    let is : is_word_byte c ≡ true = grind (arith, nat_tests) in
    (is, digits_word ds h.1)

digits_positive : (ds : List ℕ) (n : ℕ) → IsNumeral 10 ds → digits_value 10 ds ≡ n → signed_digits_value 10 ds ≡ pos n
digits_positive [] n h e = absurd (omega (arith, h.0))
digits_positive (c ∷ ds) n h e =
    let r = digit_range c h.1.0 in
    let no_minus : eqb c 45 ≡ false = ne_eqb c 45 (λ is. absurd (omega (arith, r.0, is))) in
    let no_plus : eqb c 43 ≡ false = ne_eqb c 43 (λ is. absurd (omega (arith, r.0, is))) in
    rw (no_minus, no_plus) (ap pos e)

-- what a number's literal has
pub record HasDigits (z : ℤ) : Type 0 where
  pub word : IsWord (signed_decimal z)
  pub value : signed_digits_value 10 (signed_decimal z) ≡ z
  pub numeral : IsNumeral 10 (without_leading_sign (signed_decimal z))
  pub begins : (rest : List ℕ) → begins_number (signed_decimal z ++ rest) ≡ true

digits_begin : (ds rest : List ℕ) → IsNumeral 10 ds → begins_number (ds ++ rest) ≡ true
digits_begin [] rest h = absurd (omega (arith, h.0))
digits_begin (c ∷ ds) rest h =
    let r = digit_range c h.1.0 in
    grind (arith, nat_tests)

digits_unsigned : (ds : List ℕ) → IsNumeral 10 ds → without_leading_sign ds ≡ ds
digits_unsigned [] h = absurd (omega (arith, h.0))
digits_unsigned (c ∷ ds) h =
    let r = digit_range c h.1.0 in
    let no_minus : eqb c 45 ≡ false = ne_eqb c 45 (λ is. absurd (omega (arith, r.0, is))) in
    let no_plus : eqb c 43 ≡ false = ne_eqb c 43 (λ is. absurd (omega (arith, r.0, is))) in
    rw (no_minus, no_plus) refl

pub number_digits : (z : ℤ) → magnitude_of z < 2 ^ 127 → HasDigits z
number_digits (pos n) h =
    let d = decimal_is_IsNumeral_wide n (omega (arith, h)) in
    record { word = digits_word (decimal n) d.0.1; value = digits_positive (decimal n) n d.0 d.1; numeral = rw (digits_unsigned (decimal n) d.0) d.0; begins = λ rest. digits_begin (decimal n) rest d.0 }
number_digits (negsuc n) h =
    let d = decimal_is_IsNumeral_wide (suc n) (omega (arith, h)) in
    record { word = (refl, digits_word (decimal (suc n)) d.0.1); value = ap (λ (x : ℕ). neg_ℤ (pos x)) d.1; numeral = d.0; begins = λ rest. refl }

pub some_number : (word : List ℕ) (z : ℤ) → magnitude_of z < 2 ^ 127 → word ≡ signed_decimal z → number_of_word word ≡ Some z
unfolding number_of_word
some_number word z h e =
    let d = number_digits z h in
    let same : bytes_eq (signed_decimal z) (signed_decimal z) ≡ true = (bytes_eq-Decides (signed_decimal z) (signed_decimal z)).1 refl in
    rw (e, d.value, lt-ltb (magnitude_of z) (2 ^ 127) h, same) refl

pub number_is : (word : List ℕ) (z : ℤ) → number_of_word word ≡ Some z → (magnitude_of z < 2 ^ 127) × (word ≡ signed_decimal z)
unfolding number_of_word
number_is word z e =
    let p = cond_some (ltb (magnitude_of (signed_digits_value 10 word)) (2 ^ 127) && bytes_eq word (signed_decimal (signed_digits_value 10 word))) (signed_digits_value 10 word) z e in
    let tests = and_parts (ltb (magnitude_of (signed_digits_value 10 word)) (2 ^ 127)) (bytes_eq word (signed_decimal (signed_digits_value 10 word))) p.0 in
    subst (λ (x : ℤ). (magnitude_of x < 2 ^ 127) × (word ≡ signed_decimal x)) p.1 (ltb-true _ _ tests.0, (bytes_eq-Decides _ _).0 tests.1)

pub no_number : (word : List ℕ) → ((z : ℤ) → magnitude_of z < 2 ^ 127 → word ≡ signed_decimal z → ⊥) → number_of_word word ≡ None
no_number word never = by_cases (number_of_word word) refl
  where
    by_cases : (o : Option ℤ) → number_of_word word ≡ o → o ≡ None
    by_cases None e = refl
    by_cases (Some z) e = let is = number_is word z e in absurd (never z is.0 is.1)

pub record TakesNumber (bytes : List ℕ) (read : Node × List ℕ) : Type 0 where
  pub number : ℤ
  pub node : read.0 ≡ kinds.Number number
  pub is : IsSigned128 number
  pub text : bytes ≡ signed_decimal number ++ read.1

pub number_takes : (bytes : List ℕ) (read : Node × List ℕ) → number_leaf_at bytes ≡ Some read → TakesNumber bytes read
unfolding number_leaf_at
number_takes bytes read e =
    from_bind (number_of_word (word_of bytes)) _ read e (λ number at is.
    let t = number_is (word_of bytes) number at in
    subst (TakesNumber bytes) (same_Some (kinds.Number number, rest_of_word bytes) read is)
    (record { number = number; node = refl; is = signed_small number t.0; text = word_parts bytes ∙ ap (λ (w : List ℕ). w ++ rest_of_word bytes) t.1 }))

pub number_again : (z : ℤ) (rest : List ℕ) → IsSigned128 z → Closed rest → number_leaf_at (signed_decimal z ++ rest) ≡ Some (kinds.Number z, rest)
unfolding number_leaf_at
number_again z rest h closed =
    let small = small_signed z h in
    let d = number_digits z small in
    let word = word_again (signed_decimal z) rest d.word closed in
    rw (word.0, word.1, some_number (signed_decimal z) z small refl) refl

pub number_begins : (z : ℤ) (rest : List ℕ) → IsSigned128 z → begins_number (signed_decimal z ++ rest) ≡ true
number_begins z rest h = (number_digits z (small_signed z h)).begins rest

pub number_utf8 : (z : ℤ) → magnitude_of z < 2 ^ 127 → IsUtf8 (signed_decimal z)
number_utf8 (pos n) h = IsUtf8-from_ascii (decimal n) (IsAscii-decimal_wide n (omega (arith, h)))
number_utf8 (negsuc n) h = IsUtf8-from_ascii (45 ∷ decimal (suc n)) (λ i. small i)
  where
    small : (i : ℕ) → get_or (45 ∷ decimal (suc n)) i 0 < 128
    small zero = omega arith
    small (suc i) = IsAscii-decimal_wide (suc n) (omega (arith, h)) i

fits_signed : (z : ℤ) → magnitude_of z < 2 ^ 127 → SFits w128 z
fits_signed (pos n) h = record { sfits = h }
fits_signed (negsuc n) h = record { sfits = h }

pub signed_fits : (z : ℤ) → SFits w128 z → magnitude_of z < 2 ^ 127
signed_fits (pos n) h = h.sfits
signed_fits (negsuc n) h = h.sfits

pub none_utf8 : (word : List ℕ) → (IsUtf8 word → ⊥) → number_of_word word ≡ None
none_utf8 word never = no_number word (λ z h e. never (subst IsUtf8 (sym e) (number_utf8 z h)))

-- what is refused as a number of 128 bits is no literal
pub none_parsed : (word text : List ℕ) → text ≡ word → (IsNumeral 10 (without_leading_sign text) × SFits w128 (signed_digits_value 10 text) → ⊥) → number_of_word word ≡ None
none_parsed word text is never = no_number word (λ z h e.
    let d = number_digits z h in
    let same : text ≡ signed_decimal z = is ∙ e in
    never (
      subst (λ (t : List ℕ). IsNumeral 10 (without_leading_sign t)) (sym same) d.numeral,
      subst (SFits w128) (sym (ap (signed_digits_value 10) same ∙ d.value)) (fits_signed z h),
    ))

-- what is read and written otherwise is no literal
pub none_other : (word text : List ℕ) (number : ℤ) → text ≡ word → number ≡ signed_digits_value 10 text → bytes_eq word (signed_decimal number) ≡ false → number_of_word word ≡ None
none_other word text number is read other = no_number word (λ z h e.
    let d = number_digits z h in
    let same : number ≡ z = read ∙ ap (signed_digits_value 10) (is ∙ e) ∙ d.value in
    let equal : bytes_eq word (signed_decimal number) ≡ true = (bytes_eq-Decides _ _).1 (e ∙ ap signed_decimal (sym same)) in
    differ (sym other ∙ equal))
  where
    differ : false ≡ true → ⊥
    differ e = cc

pub some_parsed : (word text : List ℕ) (number : ℤ) → text ≡ word → number ≡ signed_digits_value 10 text → SFits w128 (signed_digits_value 10 text) → bytes_eq word (signed_decimal number) ≡ true → number_of_word word ≡ Some number
some_parsed word text number is read fits equal =
    some_number word number (signed_fits number (subst (SFits w128) (sym read) fits)) ((bytes_eq-Decides _ _).0 equal)
