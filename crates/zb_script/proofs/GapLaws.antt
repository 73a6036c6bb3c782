-- A literal has no blank outside quotes, and no newline.
use Rattle.std.proofs.Common.{◌≡◌, ℕ, zero, suc, ◌+◌, ◌/◌, ◌%◌, ◌^◌, ◌<◌, ◌≤◌, ◌≢◌, Bool, true, false, cond, eqb, ltb, List, [], ◌∷◌, ◌++◌, Option, Some, None, refl, sym, ap, subst, ◌∙◌, append_assoc, append-nil, arith, inl, inr}
use Rattle.std.proofs.lemmas.Option.{same_Some}
use Rattle.std.specs.Prelude.{ℤ, pos, negsuc, codes, nat_lt}
use Rattle.std.specs.List.{AllByRecursion, flat_map}
use Rattle.std.specs.Char.{digit_char, digit_value}
use Rattle.std.specs.Char.Escape.{escape_unicode, hex_digit_at}
use Rattle.std.specs.Fmt.{signed_decimal, decimal}
use Rattle.std.specs.Str.{chars}
use Rattle.std.specs.Str.Parse.{AllDigits}
use Rattle.std.proofs.lemmas.Fmt.{decimal_is_IsNumeral_wide}
use Rattle.std.proofs.lemmas.Bool.{eqb-true, ne_eqb, ltb-false}
use Rattle.std.proofs.lemmas.Bool.Decides.{nat_tests}
use Rattle.zb_ids.specs.Hex.{hex_text, pair_of}
use Rattle.pickle_graph.specs.declared.node.Node.{Node}
use Rattle.pickle_graph.specs.declared.node.Node.TheVariants as kinds
use Rattle.pickle_graph.specs.Graph.{IsSigned128}
use Rattle.pickle_writing.specs.Spelling.{magnitude_of}
use Rattle.zb_literals.specs.Texts.{character_text, quoted_text, is_quoted, is_plain, is_name_byte, name_byte_text, global_text, leaf_literal}
use Rattle.zb_literals.specs.Values.{Value, leaf, tuple, list, dict, reference, Values, no_values, value, Pairs, no_pairs, pair, leaf_oid, leaf_global, oid_of_value, global_of_value, with_global, digits_of, values_short, short_of, reference_text, literal_text, more_text, more_pairs, IsLeaf, IsValue, AreValues, ArePairs}
use Rattle.zb_script.specs.declared.words.Place.{Place}
use Rattle.zb_script.specs.declared.words.Place.TheVariants as places
use Rattle.zb_script.specs.Reading.{step, is_gap, gap_from, literal_cut}
use Rattle.zb_script.proofs.Froms.{From, From-append, From-weaker, from_test, hex_from, chosen}

-- the search for a gap passes the text, from one place to another
abbrev pub Passes : Place → List ℕ → Place → Type 0
Passes p text q = (front more : List ℕ) → gap_from p front (text ++ more) ≡ gap_from q (front ++ text) more

passes_both : (p q r : Place) (a b : List ℕ) → Passes p a q → Passes q b r → Passes p (a ++ b) r
passes_both p q r a b one two front more =
    ap (gap_from p front) (append_assoc a b more) ∙ one front (b ++ more) ∙ two (front ++ a) more ∙ ap (λ (x : List ℕ). gap_from r x more) (append_assoc front a b)

-- no byte below the blank, and no gap
pub record IsWord (text : List ℕ) : Type 0 where
  pub high : From 32 text
  pub passes : Passes places.Outside text places.Outside

-- the same within quotes
record IsInside (text : List ℕ) : Type 0 where
  high : From 32 text
  passes : Passes places.Quoted text places.Quoted

high_passes : (text : List ℕ) → From 35 text → Passes places.Outside text places.Outside
high_passes [] h front more = ap (λ (x : List ℕ). gap_from places.Outside x more) (sym (append-nil front))
high_passes (b ∷ text) h front more =
    let no_blank : eqb b 32 ≡ false = ne_eqb b 32 (λ e. absurd (omega (arith, e, h.0))) in
    let no_quote : eqb b 34 ≡ false = ne_eqb b 34 (λ e. absurd (omega (arith, e, h.0))) in
    rw (no_blank, no_quote) (high_passes text h.1 (front ++ b ∷ []) more ∙ ap (λ (x : List ℕ). gap_from places.Outside x more) (append_assoc front (b ∷ []) text))

word_high : (text : List ℕ) → From 35 text → IsWord text
word_high text h = record { high = From-weaker 35 32 text (omega arith) h; passes = high_passes text h }

word_both : (a b : List ℕ) → IsWord a → IsWord b → IsWord (a ++ b)
word_both a b p q = record { high = From-append 32 a b p.high q.high; passes = passes_both places.Outside places.Outside places.Outside a b p.passes q.passes }

word_behind : (b : ℕ) (text : List ℕ) → 35 ≤ b → IsWord text → IsWord (b ∷ text)
word_behind b text h w = word_both (b ∷ []) text (word_high (b ∷ []) (h, tt)) w

word_byte : (b : ℕ) → 35 ≤ b → IsWord (b ∷ [])
word_byte b h = word_high (b ∷ []) (h, tt)

-- ---- quotes

inside_both : (a b : List ℕ) → IsInside a → IsInside b → IsInside (a ++ b)
inside_both a b p q = record { high = From-append 32 a b p.high q.high; passes = passes_both places.Quoted places.Quoted places.Quoted a b p.passes q.passes }

-- neither a quote nor a backslash
abbrev Calm : List ℕ → Type 0
Calm text = AllByRecursion (λ b. (35 ≤ b) × (b ≢ 92)) text

calm_passes : (text : List ℕ) → Calm text → Passes places.Quoted text places.Quoted
calm_passes [] h front more = ap (λ (x : List ℕ). gap_from places.Quoted x more) (sym (append-nil front))
calm_passes (b ∷ text) h front more =
    let no_quote : eqb b 34 ≡ false = ne_eqb b 34 (λ e. absurd (omega (arith, e, h.0.0))) in
    let no_backslash : eqb b 92 ≡ false = ne_eqb b 92 h.0.1 in
    rw (no_quote, no_backslash) (calm_passes text h.1 (front ++ b ∷ []) more ∙ ap (λ (x : List ℕ). gap_from places.Quoted x more) (append_assoc front (b ∷ []) text))

calm_high : (text : List ℕ) → Calm text → From 32 text
calm_high [] h = tt
calm_high (b ∷ text) h = (omega (arith, h.0.0), calm_high text h.1)

digit_calm : (n : ℕ) → n < 16 → (35 ≤ digit_char n) × (digit_char n ≢ 92)
digit_calm n below = by_test (nat_lt n 10) refl
  where
    by_test : (test : Bool) → nat_lt n 10 ≡ test → (35 ≤ cond test (48 + n) (87 + n)) × (cond test (48 + n) (87 + n) ≢ 92)
    by_test true is = (omega arith, λ e. absurd (omega (arith, e, below)))
    by_test false is = (omega arith, λ e. absurd (omega (arith, e, ltb-false n 10 is)))

hex_calm : (p c : ℕ) → (35 ≤ hex_digit_at p c) × (hex_digit_at p c ≢ 92)
hex_calm p c = digit_calm (c / p % 16) (omega arith)

-- the last digits and the closing brace
one_calm : (c : ℕ) → Calm (hex_digit_at 1 c ∷ 125 ∷ [])
one_calm c = (hex_calm 1 c, ((omega arith, λ e. absurd (omega (arith, e))), tt))

more_calm : (p c : ℕ) (digits : List ℕ) → Calm digits → Calm (hex_digit_at p c ∷ digits)
more_calm p c digits calm = (hex_calm p c, calm)

-- behind a backslash, `u` and the opening brace
begun_inside : (digits : List ℕ) → Calm digits → IsInside (92 ∷ 117 ∷ 123 ∷ digits)
begun_inside digits calm =
    let all : Calm (123 ∷ digits) = ((omega arith, λ e. absurd (omega (arith, e))), calm) in
    record {
      high = (omega arith, (omega arith, calm_high (123 ∷ digits) all));
      passes = λ front more. calm_passes (123 ∷ digits) all ((front ++ 92 ∷ []) ++ 117 ∷ []) more
          ∙ ap (λ (x : List ℕ). gap_from places.Quoted x more) (append_assoc (front ++ 92 ∷ []) (117 ∷ []) (123 ∷ digits) ∙ append_assoc front (92 ∷ []) (117 ∷ 123 ∷ digits));
    }

either : (test : Bool) (xs ys : List ℕ) → IsInside xs → IsInside ys → IsInside (cond test xs ys)
either true xs ys a b = a
either false xs ys a b = b

abbrev digits_one : ℕ → List ℕ
digits_one c = hex_digit_at 1 c ∷ 125 ∷ []

abbrev digits_two : ℕ → List ℕ
digits_two c = hex_digit_at 0x10 c ∷ digits_one c

abbrev digits_three : ℕ → List ℕ
digits_three c = hex_digit_at 0x100 c ∷ digits_two c

abbrev digits_four : ℕ → List ℕ
digits_four c = hex_digit_at 0x1000 c ∷ digits_three c

abbrev digits_five : ℕ → List ℕ
digits_five c = hex_digit_at 0x1_0000 c ∷ digits_four c

abbrev digits_six : ℕ → List ℕ
digits_six c = hex_digit_at 0x10_0000 c ∷ digits_five c

escape_inside : (c : ℕ) → IsInside (escape_unicode c)
escape_inside c =
    let two = more_calm 0x10 c (digits_one c) (one_calm c) in
    let three = more_calm 0x100 c (digits_two c) two in
    let four = more_calm 0x1000 c (digits_three c) three in
    let five = more_calm 0x1_0000 c (digits_four c) four in
    let six = more_calm 0x10_0000 c (digits_five c) five in
    either (nat_lt c 0x10) _ _ (begun_inside (digits_one c) (one_calm c))
    (either (nat_lt c 0x100) _ _ (begun_inside (digits_two c) two)
    (either (nat_lt c 0x1000) _ _ (begun_inside (digits_three c) three)
    (either (nat_lt c 0x1_0000) _ _ (begun_inside (digits_four c) four)
    (either (nat_lt c 0x10_0000) _ _ (begun_inside (digits_five c) five) (begun_inside (digits_six c) six)))))

plain_inside : (c : ℕ) → is_quoted c ≡ false → is_plain c ≡ true → IsInside (c ∷ [])
plain_inside c q p =
    let no_quote : eqb c 34 ≡ false = grind (arith, nat_tests) in
    let no_backslash : eqb c 92 ≡ false = grind (arith, nat_tests) in
    record { high = (grind (arith, nat_tests), tt); passes = λ front more. rw (no_quote, no_backslash) refl }

quoted_inside : (c : ℕ) → is_quoted c ≡ true → IsInside (92 ∷ c ∷ [])
quoted_inside c q =
    record {
      high = (omega arith, (grind (arith, nat_tests), tt));
      passes = λ front more. ap (λ (x : List ℕ). gap_from places.Quoted x more) (append_assoc front (92 ∷ []) (c ∷ []));
    }

character_inside : (c : ℕ) → IsInside (character_text c)
character_inside c = by_quoted (is_quoted c) refl
  where
    by_plain : is_quoted c ≡ false → (t : Bool) → is_plain c ≡ t → IsInside (cond t (c ∷ []) (escape_unicode c))
    by_plain q true p = plain_inside c q p
    by_plain q false p = escape_inside c

    by_quoted : (t : Bool) → is_quoted c ≡ t → IsInside (cond t (92 ∷ c ∷ []) (cond (is_plain c) (c ∷ []) (escape_unicode c)))
    by_quoted true q = quoted_inside c q
    by_quoted false q = by_plain q (is_plain c) refl

characters_inside : (cs : List ℕ) → IsInside (flat_map character_text cs)
characters_inside [] = record { high = tt; passes = calm_passes [] tt }
characters_inside (c ∷ cs) = inside_both (character_text c) (flat_map character_text cs) (character_inside c) (characters_inside cs)

pub quoted_word : (bytes : List ℕ) → IsWord (quoted_text bytes)
quoted_word bytes =
    let text = flat_map character_text (chars bytes) in
    let within = characters_inside (chars bytes) in
    let ends : Passes places.Quoted (text ++ 34 ∷ []) places.Outside = passes_both places.Quoted places.Quoted places.Outside text (34 ∷ []) within.passes (λ front more. refl) in
    let whole : Passes places.Outside (34 ∷ (text ++ 34 ∷ [])) places.Outside = passes_both places.Outside places.Quoted places.Outside (34 ∷ []) (text ++ 34 ∷ []) (λ front more. refl) ends in
    record { high = (omega arith, From-append 32 text (34 ∷ []) within.high (omega arith, tt)); passes = whole }

-- ---- leaves

name_byte_high : (b : ℕ) → From 35 (name_byte_text b)
name_byte_high b = by_test (is_name_byte b) refl
  where
    by_test : (t : Bool) → is_name_byte b ≡ t → From 35 (cond t (b ∷ []) (92 ∷ 120 ∷ pair_of b))
    by_test true is = (grind (arith, nat_tests), tt)
    by_test false is = (omega arith, (omega arith, From-weaker 48 35 (pair_of b) (omega arith) (grind (arith, nat_tests), (grind (arith, nat_tests), tt))))

name_high : (bytes : List ℕ) → From 35 (flat_map name_byte_text bytes)
name_high [] = tt
name_high (b ∷ bytes) = From-append 35 (name_byte_text b) (flat_map name_byte_text bytes) (name_byte_high b) (name_high bytes)

global_high : (a b : List ℕ) → From 35 (global_text a b)
global_high a b =
    (omega arith, From-append 35 (flat_map name_byte_text a) _ (name_high a) (omega arith, From-append 35 (flat_map name_byte_text b) _ (name_high b) (omega arith, tt)))

digits_high : (bytes : List ℕ) → From 35 (hex_text bytes)
digits_high bytes = From-weaker 48 35 (hex_text bytes) (omega arith) (hex_from bytes)

digit_least : (c : ℕ) → digit_value c < 10 → 35 ≤ c
digit_least c h = by_test (ltb c 48) refl
  where
    by_test : (s : Bool) → ltb c 48 ≡ s → 35 ≤ c
    by_test true e = absurd (grind (arith, nat_tests))
    by_test false e = omega (arith, ltb-false c 48 e)

pub all_digits_high : (ds : List ℕ) → AllDigits 10 ds → From 35 ds
all_digits_high [] h = tt
all_digits_high (c ∷ ds) h = (digit_least c h.0, all_digits_high ds h.1)

small_signed : (z : ℤ) → IsSigned128 z → magnitude_of z < 2 ^ 127
small_signed (pos n) h = grind (arith, h.high)
small_signed (negsuc n) h = grind (arith, h.low)

number_high : (z : ℤ) → magnitude_of z < 2 ^ 127 → From 35 (signed_decimal z)
number_high (pos n) h = all_digits_high (decimal n) (decimal_is_IsNumeral_wide n (omega (arith, h))).0.1
number_high (negsuc n) h = (omega arith, all_digits_high (decimal (suc n)) (decimal_is_IsNumeral_wide (suc n) (omega (arith, h))).0.1)

leaf_word : (node : Node) → IsLeaf node → IsWord (leaf_literal node)
leaf_word kinds.None h = word_high _ (from_test 35 (codes "None") refl)
leaf_word (kinds.Bool true) h = word_high _ (from_test 35 (codes "True") refl)
leaf_word (kinds.Bool false) h = word_high _ (from_test 35 (codes "False") refl)
leaf_word (kinds.Number z) h = word_high _ (number_high z (small_signed z h))
leaf_word (kinds.Wide bytes) h = word_high _ (From-append 35 (codes "n:") _ (from_test 35 (codes "n:") refl) (digits_high bytes))
leaf_word (kinds.Float bytes) h = word_high _ (From-append 35 (codes "f:") _ (from_test 35 (codes "f:") refl) (digits_high bytes))
leaf_word (kinds.Bytes bytes) h = word_high _ (From-append 35 (codes "b:") _ (from_test 35 (codes "b:") refl) (digits_high bytes))
leaf_word (kinds.OldText bytes) h = word_high _ (From-append 35 (codes "s:") _ (from_test 35 (codes "s:") refl) (digits_high bytes))
leaf_word (kinds.Text bytes) h = quoted_word bytes
leaf_word (kinds.Global a b) h = word_high _ (global_high a b)
leaf_word (kinds.Tuple items) h = absurd h
leaf_word (kinds.List items) h = absurd h
leaf_word (kinds.Dict pairs) h = absurd h
leaf_word (kinds.Reference id) h = absurd h
leaf_word (kinds.Object a b c d) h = absurd h

-- ---- ids

abbrev ShortHigh : Option (List ℕ) → Type 0
ShortHigh (Some text) = From 35 text
ShortHigh None = Unit {0}

digits_short : (o : Option (List ℕ)) → ShortHigh (digits_of o)
digits_short (Some oid) = digits_high oid
digits_short None = tt

class_short : (node : Node) → ShortHigh (leaf_global node)
class_short (kinds.Global a b) = global_high a b
class_short kinds.None = tt
class_short (kinds.Bool b) = tt
class_short (kinds.Number z) = tt
class_short (kinds.Wide bytes) = tt
class_short (kinds.Float bytes) = tt
class_short (kinds.Bytes bytes) = tt
class_short (kinds.OldText bytes) = tt
class_short (kinds.Text bytes) = tt
class_short (kinds.Tuple items) = tt
class_short (kinds.List items) = tt
class_short (kinds.Dict pairs) = tt
class_short (kinds.Reference id) = tt
class_short (kinds.Object a b c d) = tt

global_short : (v : Value) → ShortHigh (global_of_value v)
global_short (leaf node) = class_short node
global_short (tuple vs) = tt
global_short (list vs) = tt
global_short (dict ps) = tt
global_short (reference v) = tt

with_short : (oid class : Option (List ℕ)) → ShortHigh class → ShortHigh (with_global oid class)
with_short (Some oid) (Some text) h = From-append 35 (hex_text oid) text (digits_high oid) h
with_short (Some oid) None h = tt
with_short None (Some text) h = tt
with_short None None h = tt

tuple_short : (vs : Values) → ShortHigh (values_short vs)
tuple_short no_values = tt
tuple_short (value oid no_values) = tt
tuple_short (value oid (value class no_values)) = with_short (oid_of_value oid) (global_of_value class) (global_short class)
tuple_short (value oid (value class (value v vs))) = tt

short_high : (v : Value) → ShortHigh (short_of v)
short_high (leaf node) = digits_short (leaf_oid node)
short_high (tuple vs) = tuple_short vs
short_high (list vs) = tt
short_high (dict ps) = tt
short_high (reference v) = tt

reference_word : (short : Option (List ℕ)) (literal : List ℕ) → ShortHigh short → IsWord literal → IsWord (reference_text short literal)
reference_word (Some text) literal h w = word_behind 64 text (omega arith) (word_high text h)
reference_word None literal h w = word_both (codes "ref(") (literal ++ 41 ∷ []) (word_high _ (from_test 35 (codes "ref(") refl)) (word_both literal (41 ∷ []) w (word_byte 41 (omega arith)))

-- ---- values

mutual
  pub literal_word : (v : Value) (levels : ℕ) → IsValue levels v → IsWord (literal_text v)
  literal_word v zero h = absurd h
  literal_word (leaf node) (suc levels) h = leaf_word node h
  literal_word (tuple no_values) (suc levels) h = word_high _ (from_test 35 (codes "()") refl)
  literal_word (tuple (value v no_values)) (suc levels) h =
      word_behind 40 _ (omega arith) (word_both (literal_text v) _ (literal_word v levels h.0) (word_high _ (omega arith, (omega arith, tt))))
  literal_word (tuple (value v (value w vs))) (suc levels) h =
      let end = word_both (more_text vs) (41 ∷ []) (values_word vs levels h.1.1) (word_byte 41 (omega arith)) in
      word_behind 40 _ (omega arith) (word_both (literal_text v) _ (literal_word v levels h.0) (word_behind 44 _ (omega arith) (word_both (literal_text w) _ (literal_word w levels h.1.0) end)))
  literal_word (list no_values) (suc levels) h = word_high _ (from_test 35 (codes "[]") refl)
  literal_word (list (value v vs)) (suc levels) h =
      let end = word_both (more_text vs) (93 ∷ []) (values_word vs levels h.1) (word_byte 93 (omega arith)) in
      word_behind 91 _ (omega arith) (word_both (literal_text v) _ (literal_word v levels h.0) end)
  literal_word (dict no_pairs) (suc levels) h = word_high _ (from_test 35 (codes "{}") refl)
  literal_word (dict (pair k v ps)) (suc levels) h =
      let end = word_both (more_pairs ps) (125 ∷ []) (pairs_word ps levels h.2) (word_byte 125 (omega arith)) in
      word_behind 123 _ (omega arith) (word_both (literal_text k) _ (literal_word k levels h.0) (word_behind 58 _ (omega arith) (word_both (literal_text v) _ (literal_word v levels h.1) end)))
  literal_word (reference v) (suc levels) h = reference_word (short_of v) (literal_text v) (short_high v) (literal_word v levels h)

  pub values_word : (vs : Values) (levels : ℕ) → AreValues levels vs → IsWord (more_text vs)
  values_word no_values levels h = word_high [] tt
  values_word (value v vs) levels h = word_behind 44 _ (omega arith) (word_both (literal_text v) (more_text vs) (literal_word v levels h.0) (values_word vs levels h.1))

  pub pairs_word : (ps : Pairs) (levels : ℕ) → ArePairs levels ps → IsWord (more_pairs ps)
  pairs_word no_pairs levels h = word_high [] tt
  pairs_word (pair k v ps) levels h =
      word_behind 44 _ (omega arith) (word_both (literal_text k) _ (literal_word k levels h.0) (word_behind 58 _ (omega arith) (word_both (literal_text v) (more_pairs ps) (literal_word v levels h.1) (pairs_word ps levels h.2))))

-- ---- cutting

pub word_cut : (text more : List ℕ) → IsWord text → literal_cut (text ++ 32 ∷ more) ≡ Some (text, more)
unfolding literal_cut
word_cut text more w = w.passes [] (32 ∷ more)

blank_at_gap : (p : Place) (b : ℕ) → is_gap p b ≡ true → b ≡ 32
blank_at_gap places.Outside b e = eqb-true b 32 e
blank_at_gap places.Quoted b e = absurd cc
blank_at_gap places.Escaped b e = absurd cc

gap_takes : (p : Place) (front bytes : List ℕ) (x : List ℕ × List ℕ) → gap_from p front bytes ≡ Some x → front ++ bytes ≡ x.0 ++ 32 ∷ x.1
gap_takes p front [] x e = absurd cc
gap_takes p front (b ∷ bytes) x e =
    elim (chosen (is_gap p b) (Some (front, bytes)) (gap_from (step p b) (front ++ b ∷ []) bytes) (Some x) e) [
      | inl gap ↦
          let blank = blank_at_gap p b gap.0 in
          subst (λ (y : List ℕ × List ℕ). front ++ b ∷ bytes ≡ y.0 ++ 32 ∷ y.1) (same_Some (front, bytes) x gap.1) (ap (λ (c : ℕ). front ++ c ∷ bytes) blank)
      | inr further ↦ sym (append_assoc front (b ∷ []) bytes) ∙ gap_takes (step p b) (front ++ b ∷ []) bytes x further.1
    ]

pub cut_is : (bytes : List ℕ) (x : List ℕ × List ℕ) → literal_cut bytes ≡ Some x → bytes ≡ x.0 ++ 32 ∷ x.1
unfolding literal_cut
cut_is bytes x e = gap_takes places.Outside [] bytes x e
