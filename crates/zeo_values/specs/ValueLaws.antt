-- What spells a value is read as it, whatever follows.
use Rattle.std.proofs.Common.{◌≡◌, ℕ, ◌^◌, ◌<◌, ◌≤◌, Bool, true, false, ltb, List, [], ◌∷◌, ◌++◌, length, take, drop, refl, sym, ap, subst, ◌∙◌, inl, inr, ◌⊎◌, cond, arith}
use Rattle.std.specs.Int.{w64, byte_at, from_le_bytes}
use Rattle.std.proofs.lemmas.Bool.{cases_lt, lt-ltb, le-ltb}
use Rattle.std.proofs.lemmas.List.{take_at, drop_at}
use Rattle.std.proofs.lemmas.Nat.{from_be_bytes-to_be_bytes_8, from_le_bytes-to_le_bytes_2, from_le_bytes-to_le_bytes_4, from_le_bytes-to_le_bytes_8}
use Rattle.byteorder.specs.Endian.{little_bytes}
use Rattle.zeo_values.specs.Values.{bytes_text, byte_in, count_text, id_text, long_size, name_text, word_in}
use Rattle.zeo_values.specs.Leaves.{behind, behind_bytes, behind_count, behind_name, bytes_in, count_in, id_in, name_in, small}

pub if_true : {X : Type 0} (b : Bool) (x y : X) → b ≡ true → cond b x y ≡ x
if_true b x y e = rw e refl

pub if_false : {X : Type 0} (b : Bool) (x y : X) → b ≡ false → cond b x y ≡ y
if_false b x y e = rw e refl

-- ---- numbers of objects and of transactions

pub id_again : (n : ℕ) (rest : List ℕ) → n < 2 ^ 64 → id_in (id_text n ++ rest) ≡ n
unfolding id_in id_text
id_again n rest h = from_be_bytes-to_be_bytes_8 n h

pub behind_id : (n : ℕ) (rest : List ℕ) → behind 10 (id_text n ++ rest) ≡ rest
unfolding behind id_text
behind_id n rest = refl

pub behind_two_ids : (n m : ℕ) (rest : List ℕ) → behind 20 (id_text n ++ (id_text m ++ rest)) ≡ rest
unfolding behind id_text
behind_two_ids n m rest = refl

pub behind_three_ids : (n m k : ℕ) (rest : List ℕ) → behind 30 (id_text n ++ (id_text m ++ (id_text k ++ rest))) ≡ rest
unfolding behind id_text
behind_three_ids n m k rest = refl

pub behind_marked_id : (x n : ℕ) (rest : List ℕ) → behind 11 (x ∷ (id_text n ++ rest)) ≡ rest
unfolding behind id_text
behind_marked_id x n rest = refl

pub behind_one : (x : ℕ) (rest : List ℕ) → behind 1 (x ∷ rest) ≡ rest
unfolding behind
behind_one x rest = refl

pub id_head : (n : ℕ) (rest : List ℕ) → byte_in 0 (id_text n ++ rest) ≡ 0x43
unfolding id_text
id_head n rest = refl

pub id_next : (n : ℕ) (rest : List ℕ) → byte_in 10 (id_text n ++ rest) ≡ byte_in 0 rest
unfolding id_text
id_next n rest = refl

pub id_long : (n : ℕ) → length (id_text n) ≡ 10
unfolding id_text
id_long n = refl

-- ---- bytes and texts

pub bytes_again : (bytes rest : List ℕ) → length bytes < 2 ^ 32 → bytes_in (bytes_text bytes ++ rest) ≡ bytes
unfolding bytes_in bytes_text
bytes_again bytes rest h =
    elim (cases_lt (length bytes) 256) [
      | inl lt ↦ rw (lt-ltb (length bytes) 256 lt) (take_at bytes rest (length bytes) refl)
      | inr le ↦
          let size : word_in (0x42 ∷ (little_bytes 4 (length bytes) ++ (bytes ++ rest))) ≡ length bytes = from_le_bytes-to_le_bytes_4 (length bytes) h in
          rw (le-ltb (length bytes) 256 le) (ap (λ (n : ℕ). take n (bytes ++ rest)) size ∙ take_at bytes rest (length bytes) refl)
    ]

pub behind_bytes_again : (bytes rest : List ℕ) → length bytes < 2 ^ 32 → behind_bytes (bytes_text bytes ++ rest) ≡ rest
unfolding behind_bytes bytes_text
behind_bytes_again bytes rest h =
    elim (cases_lt (length bytes) 256) [
      | inl lt ↦ rw (lt-ltb (length bytes) 256 lt) (drop_at bytes rest (length bytes) refl)
      | inr le ↦
          let size : word_in (0x42 ∷ (little_bytes 4 (length bytes) ++ (bytes ++ rest))) ≡ length bytes = from_le_bytes-to_le_bytes_4 (length bytes) h in
          rw (le-ltb (length bytes) 256 le) (ap (λ (n : ℕ). drop n (bytes ++ rest)) size ∙ drop_at bytes rest (length bytes) refl)
    ]

-- bytes begin with one of two opcodes
pub bytes_head : (bytes rest : List ℕ) → (byte_in 0 (bytes_text bytes ++ rest) ≡ 0x43) ⊎ (byte_in 0 (bytes_text bytes ++ rest) ≡ 0x42)
unfolding bytes_text
bytes_head bytes rest =
    elim (cases_lt (length bytes) 256) [
      | inl lt ↦ inl (rw (lt-ltb (length bytes) 256 lt) refl)
      | inr le ↦ inr (rw (le-ltb (length bytes) 256 le) refl)
    ]

pub name_again : (name rest : List ℕ) → length name < 2 ^ 32 → name_in (name_text name ++ rest) ≡ name
unfolding name_in name_text
name_again name rest h =
    let size : word_in (0x58 ∷ (little_bytes 4 (length name) ++ (name ++ rest))) ≡ length name = from_le_bytes-to_le_bytes_4 (length name) h in
    ap (λ (n : ℕ). take n (name ++ rest)) size ∙ take_at name rest (length name) refl

pub behind_name_again : (name rest : List ℕ) → length name < 2 ^ 32 → behind_name (name_text name ++ rest) ≡ rest
unfolding behind_name name_text
behind_name_again name rest h =
    let size : word_in (0x58 ∷ (little_bytes 4 (length name) ++ (name ++ rest))) ≡ length name = from_le_bytes-to_le_bytes_4 (length name) h in
    ap (λ (n : ℕ). drop n (name ++ rest)) size ∙ drop_at name rest (length name) refl

-- ---- numbers

-- a number of so many bytes, and what stands behind it
pub record IsAgain (n : ℕ) (rest text : List ℕ) : Type 0 where
  pub number : count_in (text ++ rest) ≡ n
  pub left : behind_count (text ++ rest) ≡ rest
  pub head : (byte_in 0 (text ++ rest) ≡ 0x4b) ⊎ ((byte_in 0 (text ++ rest) ≡ 0x4d) ⊎ ((byte_in 0 (text ++ rest) ≡ 0x4a) ⊎ (byte_in 0 (text ++ rest) ≡ 0x8a)))

-- the bytes of a number above its size are 0
eight_again : (n : ℕ) → n < 2 ^ 64
    → from_le_bytes w64 (byte_at 0 n ∷ byte_at 1 n ∷ byte_at 2 n ∷ byte_at 3 n ∷ byte_at 4 n ∷ byte_at 5 n ∷ byte_at 6 n ∷ byte_at 7 n ∷ []) ≡ n
eight_again n h = from_le_bytes-to_le_bytes_8 n h

seven_again : (n : ℕ) → n < 2 ^ 55
    → from_le_bytes w64 (byte_at 0 n ∷ byte_at 1 n ∷ byte_at 2 n ∷ byte_at 3 n ∷ byte_at 4 n ∷ byte_at 5 n ∷ byte_at 6 n ∷ 0 ∷ []) ≡ n
seven_again n h =
    let none : byte_at 7 n ≡ 0 = omega arith in
    ap (λ (x : ℕ). from_le_bytes w64 (byte_at 0 n ∷ byte_at 1 n ∷ byte_at 2 n ∷ byte_at 3 n ∷ byte_at 4 n ∷ byte_at 5 n ∷ byte_at 6 n ∷ x ∷ [])) (sym none)
    ∙ eight_again n (omega arith)

six_again : (n : ℕ) → n < 2 ^ 47
    → from_le_bytes w64 (byte_at 0 n ∷ byte_at 1 n ∷ byte_at 2 n ∷ byte_at 3 n ∷ byte_at 4 n ∷ byte_at 5 n ∷ 0 ∷ 0 ∷ []) ≡ n
six_again n h =
    let none : byte_at 6 n ≡ 0 = omega arith in
    ap (λ (x : ℕ). from_le_bytes w64 (byte_at 0 n ∷ byte_at 1 n ∷ byte_at 2 n ∷ byte_at 3 n ∷ byte_at 4 n ∷ byte_at 5 n ∷ x ∷ 0 ∷ [])) (sym none)
    ∙ seven_again n (omega arith)

five_again : (n : ℕ) → n < 2 ^ 39
    → from_le_bytes w64 (byte_at 0 n ∷ byte_at 1 n ∷ byte_at 2 n ∷ byte_at 3 n ∷ byte_at 4 n ∷ 0 ∷ 0 ∷ 0 ∷ []) ≡ n
five_again n h =
    let none : byte_at 5 n ≡ 0 = omega arith in
    ap (λ (x : ℕ). from_le_bytes w64 (byte_at 0 n ∷ byte_at 1 n ∷ byte_at 2 n ∷ byte_at 3 n ∷ byte_at 4 n ∷ x ∷ 0 ∷ 0 ∷ [])) (sym none)
    ∙ six_again n (omega arith)

byte_form : (n : ℕ) (rest : List ℕ) → IsAgain n rest (0x4b ∷ n ∷ [])
unfolding count_in behind_count
byte_form n rest = record { number = refl; left = refl; head = inl refl }

short_form : (n : ℕ) (rest : List ℕ) → n < 2 ^ 16 → IsAgain n rest (0x4d ∷ little_bytes 2 n)
unfolding count_in behind_count
short_form n rest h = record { number = from_le_bytes-to_le_bytes_2 n h; left = refl; head = inr (inl refl) }

word_form : (n : ℕ) (rest : List ℕ) → n < 2 ^ 32 → IsAgain n rest (0x4a ∷ little_bytes 4 n)
unfolding count_in behind_count
word_form n rest h = record { number = from_le_bytes-to_le_bytes_4 n h; left = refl; head = inr (inr (inl refl)) }

long_form : (size n : ℕ) (rest : List ℕ) → count_in (0x8a ∷ size ∷ (little_bytes size n ++ rest)) ≡ n → behind_count (0x8a ∷ size ∷ (little_bytes size n ++ rest)) ≡ rest
    → IsAgain n rest (0x8a ∷ size ∷ little_bytes size n)
long_form size n rest number left = record { number = number; left = left; head = inr (inr (inr refl)) }

by_text : (n : ℕ) (rest text : List ℕ) → count_text n ≡ text → IsAgain n rest text → IsAgain n rest (count_text n)
by_text n rest text e form = subst (λ (x : List ℕ). IsAgain n rest x) (sym e) form

-- numbers of more than 31 bits
long_count : (n : ℕ) (rest : List ℕ) → 2 ^ 31 ≤ n → n < 2 ^ 64 → IsAgain n rest (0x8a ∷ long_size n ∷ little_bytes (long_size n) n)
unfolding count_in behind_count
long_count n rest low high =
    elim (cases_lt n (2 ^ 39)) [
      | inl lt ↦ rw (lt-ltb n (2 ^ 39) lt) (long_form 5 n rest (five_again n lt) refl)
      | inr le ↦ elim (cases_lt n (2 ^ 47)) [
        | inl lt ↦ rw (le-ltb n (2 ^ 39) le, lt-ltb n (2 ^ 47) lt) (long_form 6 n rest (six_again n lt) refl)
        | inr le2 ↦ elim (cases_lt n (2 ^ 55)) [
          | inl lt ↦ rw (le-ltb n (2 ^ 39) le, le-ltb n (2 ^ 47) le2, lt-ltb n (2 ^ 55) lt) (long_form 7 n rest (seven_again n lt) refl)
          | inr le3 ↦ elim (cases_lt n (2 ^ 63)) [
            | inl lt ↦ rw (le-ltb n (2 ^ 39) le, le-ltb n (2 ^ 47) le2, le-ltb n (2 ^ 55) le3, lt-ltb n (2 ^ 63) lt) (long_form 8 n rest (eight_again n high) refl)
            | inr le4 ↦ rw (le-ltb n (2 ^ 39) le, le-ltb n (2 ^ 47) le2, le-ltb n (2 ^ 55) le3, le-ltb n (2 ^ 63) le4) (long_form 9 n rest (eight_again n high) refl)
          ]
        ]
      ]
    ]

text_byte : (n : ℕ) → n < 2 ^ 8 → count_text n ≡ 0x4b ∷ n ∷ []
unfolding count_text
text_byte n lt = rw (lt-ltb n (2 ^ 8) lt) refl

text_short : (n : ℕ) → 2 ^ 8 ≤ n → n < 2 ^ 16 → count_text n ≡ 0x4d ∷ little_bytes 2 n
unfolding count_text
text_short n le lt = rw (le-ltb n (2 ^ 8) le, lt-ltb n (2 ^ 16) lt) refl

text_word : (n : ℕ) → 2 ^ 8 ≤ n → 2 ^ 16 ≤ n → n < 2 ^ 31 → count_text n ≡ 0x4a ∷ little_bytes 4 n
unfolding count_text
text_word n le le2 lt = rw (le-ltb n (2 ^ 8) le, le-ltb n (2 ^ 16) le2, lt-ltb n (2 ^ 31) lt) refl

text_long : (n : ℕ) → 2 ^ 8 ≤ n → 2 ^ 16 ≤ n → 2 ^ 31 ≤ n → count_text n ≡ 0x8a ∷ long_size n ∷ little_bytes (long_size n) n
unfolding count_text
text_long n le le2 le3 = rw (le-ltb n (2 ^ 8) le, le-ltb n (2 ^ 16) le2, le-ltb n (2 ^ 31) le3) refl

pub count_again : (n : ℕ) (rest : List ℕ) → n < 2 ^ 64 → IsAgain n rest (count_text n)
count_again n rest h =
    elim (cases_lt n (2 ^ 8)) [
      | inl lt ↦ by_text n rest (0x4b ∷ n ∷ []) (text_byte n lt) (byte_form n rest)
      | inr le ↦ elim (cases_lt n (2 ^ 16)) [
        | inl lt ↦ by_text n rest (0x4d ∷ little_bytes 2 n) (text_short n le lt) (short_form n rest lt)
        | inr le2 ↦ elim (cases_lt n (2 ^ 31)) [
          | inl lt ↦ by_text n rest (0x4a ∷ little_bytes 4 n) (text_word n le le2 lt) (word_form n rest (omega arith))
          | inr le3 ↦ by_text n rest (0x8a ∷ long_size n ∷ little_bytes (long_size n) n) (text_long n le le2 le3) (long_count n rest le3 h)
        ]
      ]
    ]

pub small_same : (n : ℕ) → n < 2 ^ 32 → small n ≡ n
small_same n h = if_true (ltb n (2 ^ 32)) n 0 (lt-ltb n (2 ^ 32) h)
