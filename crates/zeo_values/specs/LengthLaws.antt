-- How long the texts of values are.
use Rattle.std.proofs.Common.{◌≡◌, ℕ, ◌+◌, ◌-◌, ◌≤◌, ◌<◌, ◌^◌, Bool, true, false, List, [], ◌∷◌, length, length-append, refl, arith}
use Rattle.std.specs.Prelude.{nat_lt, if◌then◌else◌}
use Rattle.std.proofs.lemmas.Bool.{le-ltb, lt-ltb}
use Rattle.byteorder.specs.Endian.{little_bytes}
use Rattle.byteorder.specs.Numbers.{length-bytes_high_first, length-bytes_low_first}
use Rattle.zeo_values.specs.Values.{bytes_text, count_text, id_text, long_size, name_text}

-- a number of more than 32 bits has five to nine bytes behind two
five_to_nine : (a b c d : Bool) → (if a then 5 else if b then 6 else if c then 7 else if d then 8 else 9) ≤ 9
five_to_nine true b c d = omega arith
five_to_nine false true c d = omega arith
five_to_nine false false true d = omega arith
five_to_nine false false false true = omega arith
five_to_nine false false false false = omega arith

four_forms : (a b c : Bool) (n size : ℕ) → size ≤ 9
    → length (if a then 0x4b ∷ n ∷ [] else if b then 0x4d ∷ little_bytes 2 n else if c then 0x4a ∷ little_bytes 4 n else 0x8a ∷ size ∷ little_bytes size n) ≤ 11
four_forms true b c n size h = omega arith
four_forms false true c n size h = let e = length-bytes_low_first 0 2 n in omega (arith, e)
four_forms false false true n size h = let e = length-bytes_low_first 0 4 n in omega (arith, e)
four_forms false false false n size h = let e = length-bytes_low_first 0 size n in omega (arith, e)

pub count_short : (n : ℕ) → length (count_text n) ≤ 11
unfolding count_text
count_short n =
    four_forms (nat_lt n (2 ^ 8)) (nat_lt n (2 ^ 16)) (nat_lt n (2 ^ 31)) n (long_size n)
    (five_to_nine (nat_lt n (2 ^ 39)) (nat_lt n (2 ^ 47)) (nat_lt n (2 ^ 55)) (nat_lt n (2 ^ 63)))

-- a number has two, three or five bytes, or two more than its size
pub count_of_one : (n : ℕ) → n < 256 → 2 ≡ length (count_text n)
unfolding count_text
count_of_one n h = rw (lt-ltb n 256 h) refl

pub count_of_two : (n : ℕ) → 256 ≤ n → n < 65536 → 3 ≡ length (count_text n)
unfolding count_text
count_of_two n h k = rw (le-ltb n 256 h) (rw (lt-ltb n 65536 k) (let e = length-bytes_low_first 0 2 n in omega (arith, e)))

pub count_of_four : (n : ℕ) → 65536 ≤ n → n < 2 ^ 31 → 5 ≡ length (count_text n)
unfolding count_text
count_of_four n h k =
    let low : 256 ≤ n = omega arith in
    rw (le-ltb n 256 low) (rw (le-ltb n 65536 h) (rw (lt-ltb n (2 ^ 31) k) (let e = length-bytes_low_first 0 4 n in omega (arith, e))))

pub count_of_long : (n : ℕ) → 2 ^ 31 ≤ n → long_size n + 2 ≡ length (count_text n)
unfolding count_text
count_of_long n h =
    let one : 256 ≤ n = omega arith in
    let two : 65536 ≤ n = omega arith in
    rw (le-ltb n 256 one) (rw (le-ltb n 65536 two) (rw (le-ltb n (2 ^ 31) h) (let e = length-bytes_low_first 0 (long_size n) n in omega (arith, e))))

pub last_length : length (count_text (2 ^ 31 - 1)) ≡ 5
unfolding count_text
last_length = refl

pub zero_length : length (count_text 0) ≡ 2
unfolding count_text
zero_length = refl

-- a number of an object or of a transaction has ten
pub id_length : (n : ℕ) → length (id_text n) ≡ 10
unfolding id_text
id_length n = let e = length-bytes_high_first 8 n in omega (arith, e)

-- bytes have five more than they are, where they are 256 or more
pub long_bytes_length : (bytes : List ℕ) → 256 ≤ length bytes → length (bytes_text bytes) ≡ length bytes + 5
unfolding bytes_text
long_bytes_length bytes h =
    let a = length-append (little_bytes 4 (length bytes)) bytes in
    let b = length-bytes_low_first 0 4 (length bytes) in
    rw (le-ltb (length bytes) 256 h) (omega (arith, a, b))

-- a text has five more than it is
pub name_length : (name : List ℕ) → length (name_text name) ≡ length name + 5
unfolding name_text
name_length name =
    let a = length-append (little_bytes 4 (length name)) name in
    let b = length-bytes_low_first 0 4 (length name) in
    omega (arith, a, b)
