-- Leaves and their texts.
use Rattle.std.proofs.Common.{◌≡◌, ℕ, zero, suc, ◌+◌, ◌*◌, ◌<◌, ◌≤◌, ◌^◌, ◌-◌, Bool, true, false, cond, List, [], ◌∷◌, ◌++◌, length, take, drop, get_or, inl, inr, refl, sym, ◌∙◌, ap, subst, arith, IsTrue, nat_lt, nat_eq}
use Rattle.std.specs.Prelude.{ℤ, pos, negsuc, slice_index_or}
use Rattle.std.specs.Int.{w16, w32, w128, cast_unsigned, to_le_bytes}
use mir.Val.{SFits}
use Rattle.std.specs.Str.{is_utf8}
use Rattle.std.proofs.lemmas.Bool.{cases_lt, lt-ltb, le-ltb, le-leb, ltb-true, eqb-true, and_from}
use Rattle.std.proofs.lemmas.Nat.{le_bytes_2, le_bytes_4}
use Rattle.byteorder.specs.Endian.{little_bytes}
use Rattle.pickle_graph.specs.Graph.{IsSigned128}
use Rattle.pickle_graph.specs.declared.node.Node.TheVariants as nodes
use Rattle.btree_family.specs.declared.table.ValueKind.{ValueKind}
use Rattle.btree_family.specs.declared.table.ValueKind.TheVariants as values
use Rattle.pickle_writing.specs.Spelling.{number_text}
use Rattle.btree_family.specs.Families.{number_fits}
use Rattle.bucket_state.specs.States.{value_fits}
use Rattle.bucket_state.specs.Flat.{IsFlatValue}

-- ---- None, booleans, floats

pub none_flat : IsFlatValue values.Object (0x4e ∷ [])
none_flat = record { leaf = nodes.None; sound = tt; lone = refl; fits = refl; spelled = refl }

pub true_flat : IsFlatValue values.Object (0x88 ∷ [])
true_flat = record { leaf = nodes.Bool true; sound = tt; lone = refl; fits = refl; spelled = refl }

pub false_flat : IsFlatValue values.Object (0x89 ∷ [])
false_flat = record { leaf = nodes.Bool false; sound = tt; lone = refl; fits = refl; spelled = refl }

pub float_flat : (bytes : List ℕ) → length bytes ≡ 8 → IsFlatValue values.Object (0x47 ∷ bytes)
float_flat bytes h = record { leaf = nodes.Float bytes; sound = h; lone = refl; fits = refl; spelled = refl }

-- ---- texts and bytes

text_flat : (bytes : List ℕ) → is_utf8 bytes ≡ true → length bytes < 2 ^ 32 → IsFlatValue values.Object (0x58 ∷ (little_bytes 4 (length bytes) ++ bytes))
text_flat bytes utf8 short = record { leaf = nodes.Text bytes; sound = record { utf8 = utf8; short = short }; lone = refl; fits = refl; spelled = refl }

short_flat : (bytes : List ℕ) → length bytes < 2 ^ 8 → IsFlatValue values.Object (0x43 ∷ length bytes ∷ bytes)
short_flat bytes low = record {
  leaf = nodes.Bytes bytes;
  sound = omega (arith, low);
  lone = refl;
  fits = refl;
  spelled = ap (λ (t : Bool). cond t (0x43 ∷ length bytes ∷ bytes) (0x42 ∷ (little_bytes 4 (length bytes) ++ bytes))) (lt-ltb (length bytes) (2 ^ 8) low);
}

long_flat : (bytes : List ℕ) → 2 ^ 8 ≤ length bytes → length bytes < 2 ^ 32 → IsFlatValue values.Object (0x42 ∷ (little_bytes 4 (length bytes) ++ bytes))
long_flat bytes high low = record {
  leaf = nodes.Bytes bytes;
  sound = low;
  lone = refl;
  fits = refl;
  spelled = ap (λ (t : Bool). cond t (0x43 ∷ length bytes ∷ bytes) (0x42 ∷ (little_bytes 4 (length bytes) ++ bytes))) (le-ltb (length bytes) (2 ^ 8) high);
}

-- ---- numbers

fits_pos : (kind : ValueKind) (n : ℕ) → n < 0x8000_0000 → value_fits kind (nodes.Number (pos n)) ≡ true
fits_pos values.Object n h = refl
fits_pos values.Int32 n h = lt-ltb n 0x8000_0000 h
fits_pos values.Int64 n h = lt-ltb n 0x8000_0000_0000_0000 (omega (arith, h))

fits_neg : (kind : ValueKind) (n : ℕ) → n < 0x8000_0000 → value_fits kind (nodes.Number (negsuc n)) ≡ true
fits_neg values.Object n h = refl
fits_neg values.Int32 n h = and_from _ true (le-leb n 0x7fff_ffff (omega (arith, h))) refl
fits_neg values.Int64 n h = and_from _ true (le-leb n 0x7fff_ffff_ffff_ffff (omega (arith, h))) refl

sound_pos : (n : ℕ) → n < 0x8000_0000 → IsSigned128 (pos n)
sound_pos n h = record { low = grind arith; high = grind (arith, h) }

sound_neg : (n : ℕ) → n < 0x8000_0000 → IsSigned128 (negsuc n)
sound_neg n h = record { low = grind (arith, h); high = grind arith }

first_of : (t : Bool) (a b : List ℕ) → t ≡ true → cond t a b ≡ a
first_of t a b e = ap (λ (s : Bool). cond s a b) e

second_of : (t : Bool) (a b : List ℕ) → t ≡ false → cond t a b ≡ b
second_of t a b e = ap (λ (s : Bool). cond s a b) e

pub byte_flat : (kind : ValueKind) (n : ℕ) → n < 256 → IsFlatValue kind (0x4b ∷ n ∷ [])
byte_flat kind n h = record {
  leaf = nodes.Number (pos n);
  sound = sound_pos n (omega (arith, h));
  lone = refl;
  fits = fits_pos kind n (omega (arith, h));
  spelled = first_of (nat_lt n (2 ^ 8)) _ _ (lt-ltb n (2 ^ 8) h);
}

-- two bytes that say a number from 256 on
word_flat : (kind : ValueKind) (bs : List ℕ) (n : ℕ) → to_le_bytes w16 n ≡ bs → 256 ≤ n → n < 2 ^ 16 → IsFlatValue kind (0x4d ∷ bs)
word_flat kind bs n is high low = record {
  leaf = nodes.Number (pos n);
  sound = sound_pos n (omega (arith, low));
  lone = refl;
  fits = fits_pos kind n (omega (arith, low));
  spelled = second_of (nat_lt n (2 ^ 8)) _ _ (le-ltb n (2 ^ 8) high) ∙ first_of (nat_lt n (2 ^ 16)) _ _ (lt-ltb n (2 ^ 16) low) ∙ ap (λ (xs : List ℕ). 0x4d ∷ xs) is;
}

pub two_flat : (kind : ValueKind) (a b : ℕ) → a < 256 → b < 256 → 0 < b → IsFlatValue kind (0x4d ∷ a ∷ b ∷ [])
two_flat kind a b a' b' some = word_flat kind (a ∷ b ∷ []) (a + b * 256) (le_bytes_2 (a ∷ b ∷ []) (a + b * 256) refl each refl) (omega (arith, some)) (omega (arith, a', b'))
  where
    each : (i : ℕ) → get_or (a ∷ b ∷ []) i 0 < 256
    each zero = a'
    each (suc zero) = b'
    each (suc (suc i)) = omega arith

-- four bytes that say a number from 65536 on, or a negative one
long_number : (kind : ValueKind) (bs : List ℕ) (n : ℕ) → to_le_bytes w32 n ≡ bs → 2 ^ 16 ≤ n → n < 2 ^ 32 → IsFlatValue kind (0x4a ∷ bs)
long_number kind bs n is high low = elim (cases_lt n (2 ^ 31)) [
  | inl l ↦ record {
    leaf = nodes.Number (pos n);
    sound = sound_pos n (omega (arith, l));
    lone = refl;
    fits = fits_pos kind n (omega (arith, l));
    spelled = second_of (nat_lt n (2 ^ 8)) _ _ (le-ltb n (2 ^ 8) (omega (arith, high))) ∙ second_of (nat_lt n (2 ^ 16)) _ _ (le-ltb n (2 ^ 16) high)
        ∙ first_of (nat_lt n (2 ^ 31)) _ _ (lt-ltb n (2 ^ 31) l) ∙ ap (λ (xs : List ℕ). 0x4a ∷ xs) is;
  }
  | inr g ↦
      let m : ℕ = 4294967295 - n in
      let small : m < 2 ^ 31 = omega (arith, g) in
      let back : cast_unsigned w32 (negsuc m) ≡ n = omega (arith, low) in
      record {
        leaf = nodes.Number (negsuc m);
        sound = sound_neg m small;
        lone = refl;
        fits = fits_neg kind m small;
        spelled = first_of (nat_lt m (2 ^ 31)) _ _ (lt-ltb m (2 ^ 31) small) ∙ ap (λ (k : ℕ). 0x4a ∷ little_bytes 4 k) back ∙ ap (λ (xs : List ℕ). 0x4a ∷ xs) is;
      }
]

pub four_flat : (kind : ValueKind) (a b c d : ℕ) → a < 256 → b < 256 → c < 256 → d < 256 → 0 < c + d → IsFlatValue kind (0x4a ∷ a ∷ b ∷ c ∷ d ∷ [])
four_flat kind a b c d a' b' c' d' some =
    let n : ℕ = a + b * 256 + c * 65536 + d * 16777216 in
    long_number kind (a ∷ b ∷ c ∷ d ∷ []) n (le_bytes_4 (a ∷ b ∷ c ∷ d ∷ []) n refl each refl) (omega (arith, some)) (omega (arith, a', b', c', d'))
  where
    each : (i : ℕ) → get_or (a ∷ b ∷ c ∷ d ∷ []) i 0 < 256
    each zero = a'
    each (suc zero) = b'
    each (suc (suc zero)) = c'
    each (suc (suc (suc zero))) = d'
    each (suc (suc (suc (suc i)))) = omega arith

-- any number of the family
fits_so : (kind : ValueKind) (number : ℤ) → number_fits kind number ≡ true → value_fits kind (nodes.Number number) ≡ true
fits_so values.Object number h = refl
fits_so values.Int32 number h = h
fits_so values.Int64 number h = h

signed_so : (number : ℤ) → SFits w128 number → IsSigned128 number
signed_so (pos n) h = let low = h.sfits in record { low = grind arith; high = grind (arith, low) }
signed_so (negsuc n) h = let low = h.sfits in record { low = grind (arith, low); high = grind arith }

pub number_flat : (kind : ValueKind) (number : ℤ) (fits : Bool) (text sliced spelled : List ℕ) → SFits w128 number → fits ≡ number_fits kind number → IsTrue fits → text ≡ sliced → sliced ≡ spelled → spelled ≡ number_text number → IsFlatValue kind text
number_flat kind number fits text sliced spelled range is so same seen by =
    record { leaf = nodes.Number number; sound = signed_so number range; lone = refl; fits = fits_so kind number (sym is ∙ so); spelled = sym (same ∙ seen ∙ by) }

-- ---- texts by their first bytes

in_two : (n : ℕ) (xs : List ℕ) → take n xs ++ drop n xs ≡ xs
in_two zero xs = refl
in_two (suc n) [] = refl
in_two (suc n) (x ∷ xs) = ap (λ (ys : List ℕ). x ∷ ys) (in_two n xs)

-- a text and the two parts into which it is split
pub both_parts : (text front rest : List ℕ) → front ≡ take 5 text → rest ≡ drop 5 text → text ≡ front ++ rest
both_parts text front rest f r = sym (in_two 5 text) ∙ (λ k. sym f k ++ sym r k)

pub lone_text : (text : List ℕ) (b : ℕ) → length text ≡ 1 → slice_index_or text 0 0 ≡ b → IsFlatValue values.Object (b ∷ []) → IsFlatValue values.Object text
lone_text [] b l h f = absurd (omega (arith, l))
lone_text (x ∷ []) b l h f = subst (λ (y : ℕ). IsFlatValue values.Object (y ∷ [])) (sym h) f
lone_text (x ∷ y ∷ text) b l h f = absurd (omega (arith, l))

pub float_text : (text : List ℕ) → slice_index_or text 0 0 ≡ 71 → length text ≡ 9 → IsFlatValue values.Object text
float_text [] h l = absurd (omega (arith, l))
float_text (x ∷ text) h l = subst (λ (y : ℕ). IsFlatValue values.Object (y ∷ text)) (sym h) (float_flat text (omega (arith, l)))

pub bytes_text : (text : List ℕ) → 2 ≤ length text → ((i : ℕ) → slice_index_or text i 0 < 256) → slice_index_or text 0 0 ≡ 67 → length text - 2 ≡ slice_index_or text 1 0 → IsFlatValue values.Object text
bytes_text [] long each h l = absurd (omega (arith, long))
bytes_text (x ∷ []) long each h l = absurd (omega (arith, long))
bytes_text (x ∷ n ∷ text) long each h l =
    let count : length text ≡ n = omega (arith, l) in
    let low : length text < 2 ^ 8 = (let b = each 1 in omega (arith, count, b)) in
    subst (λ (y : ℕ). IsFlatValue values.Object (y ∷ n ∷ text)) (sym h)
    (subst (λ (k : ℕ). IsFlatValue values.Object (67 ∷ k ∷ text)) count (short_flat text low))

pub head_text : (text front rest : List ℕ) → text ≡ front ++ rest → front ≡ 0x58 ∷ little_bytes 4 (length rest) → length rest < 2 ^ 32 → is_utf8 rest ≡ true → IsFlatValue values.Object text
head_text text front rest whole head low utf8 = subst (IsFlatValue values.Object) (sym (whole ∙ ap (λ (xs : List ℕ). xs ++ rest) head)) (text_flat rest utf8 low)

pub head_bytes : (text front rest : List ℕ) → text ≡ front ++ rest → front ≡ 0x42 ∷ little_bytes 4 (length rest) → length rest < 2 ^ 32 → IsTrue (nat_lt 255 (length rest)) → IsFlatValue values.Object text
head_bytes text front rest whole head low many = subst (IsFlatValue values.Object) (sym (whole ∙ ap (λ (xs : List ℕ). xs ++ rest) head)) (long_flat rest (let e = ltb-true 255 (length rest) many in omega (arith, e)) low)

pub two_text : (kind : ValueKind) (text : List ℕ) → length text ≡ 2 → ((i : ℕ) → slice_index_or text i 0 < 256) → IsTrue (nat_eq (slice_index_or text 0 0) 75) → IsFlatValue kind text
two_text kind [] l each h = absurd (omega (arith, l))
two_text kind (x ∷ []) l each h = absurd (omega (arith, l))
two_text kind (x ∷ n ∷ []) l each h = subst (λ (y : ℕ). IsFlatValue kind (y ∷ n ∷ [])) (sym (eqb-true x 75 h)) (byte_flat kind n (each 1))
two_text kind (x ∷ n ∷ m ∷ text) l each h = absurd (omega (arith, l))

pub three_text : (kind : ValueKind) (text : List ℕ) → length text ≡ 3 → ((i : ℕ) → slice_index_or text i 0 < 256) → 0 < slice_index_or text 2 0 → IsTrue (nat_eq (slice_index_or text 0 0) 77) → IsFlatValue kind text
three_text kind [] l each some h = absurd (omega (arith, l))
three_text kind (x ∷ []) l each some h = absurd (omega (arith, l))
three_text kind (x ∷ a ∷ []) l each some h = absurd (omega (arith, l))
three_text kind (x ∷ a ∷ b ∷ []) l each some h = subst (λ (y : ℕ). IsFlatValue kind (y ∷ a ∷ b ∷ [])) (sym (eqb-true x 77 h)) (two_flat kind a b (each 1) (each 2) some)
three_text kind (x ∷ a ∷ b ∷ c ∷ text) l each some h = absurd (omega (arith, l))

pub five_text : (kind : ValueKind) (text : List ℕ) → length text ≡ 5 → ((i : ℕ) → slice_index_or text i 0 < 256) → 0 < slice_index_or text 3 0 + slice_index_or text 4 0 → IsTrue (nat_eq (slice_index_or text 0 0) 74) → IsFlatValue kind text
five_text kind [] l each some h = absurd (omega (arith, l))
five_text kind (x ∷ []) l each some h = absurd (omega (arith, l))
five_text kind (x ∷ a ∷ []) l each some h = absurd (omega (arith, l))
five_text kind (x ∷ a ∷ b ∷ []) l each some h = absurd (omega (arith, l))
five_text kind (x ∷ a ∷ b ∷ c ∷ []) l each some h = absurd (omega (arith, l))
five_text kind (x ∷ a ∷ b ∷ c ∷ d ∷ []) l each some h =
    subst (λ (y : ℕ). IsFlatValue kind (y ∷ a ∷ b ∷ c ∷ d ∷ [])) (sym (eqb-true x 74 h)) (four_flat kind a b c d (each 1) (each 2) (each 3) (each 4) some)
five_text kind (x ∷ a ∷ b ∷ c ∷ d ∷ e ∷ text) l each some h = absurd (omega (arith, l))
