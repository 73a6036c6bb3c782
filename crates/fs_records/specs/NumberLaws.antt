-- What is written is read again, and the other way round.
use Rattle.std.proofs.Common.{◌≡◌, ℕ, ◌^◌, ◌<◌, ◌≤◌, List, ◌++◌, length, take, sym, ◌∙◌, arith}
use Rattle.std.specs.Int.{w16, w64, from_be_bytes}
use Rattle.std.proofs.lemmas.Nat.{be_bytes_2, be_bytes_8}
use Rattle.std.proofs.lemmas.List.{length-take}
use Rattle.byteorder.specs.Numbers.{big_number-reads_back, big_from-append, big_from-take, big_from-lt, length-bytes_high_first}
use Rattle.fs_records.specs.Numbers.{number, number_in}
use Rattle.zb_base.specs.Bytes.{AreBytes, AreBytes-take}

pub length-number : (n x : ℕ) → length (number n x) ≡ n
unfolding number
length-number n x = length-bytes_high_first n x

pub number_in-number : (n x : ℕ) (rest : List ℕ) → x < 256 ^ n → number_in n (number n x ++ rest) ≡ x
unfolding number number_in
number_in-number n x rest h = big_number-reads_back n x rest h

pub number_in-append : (n : ℕ) (xs ys : List ℕ) → n ≤ length xs → number_in n (xs ++ ys) ≡ number_in n xs
unfolding number_in
number_in-append n xs ys h = big_from-append n xs ys h

pub number_in-take : (n m : ℕ) (xs : List ℕ) → n ≤ m → number_in n (take m xs) ≡ number_in n xs
unfolding number_in
number_in-take n m xs h = big_from-take 0 n m xs (omega arith)

pub number_in-lt : (n : ℕ) (xs : List ℕ) → AreBytes xs → number_in n xs < 256 ^ n
unfolding number_in
number_in-lt n xs h = big_from-lt 0 n xs h

pub number_back_8 : (bytes : List ℕ) → 8 ≤ length bytes → AreBytes bytes → number 8 (number_in 8 bytes) ≡ take 8 bytes
unfolding number number_in
number_back_8 bytes long fits =
    let is : number_in 8 bytes ≡ from_be_bytes w64 (take 8 bytes) = sym (number_in-take 8 8 bytes (omega arith)) ∙ omega arith in
    be_bytes_8 (take 8 bytes) _ (omega (arith, length-take 8 bytes)) (AreBytes-take 8 bytes fits) is

pub number_back_2 : (bytes : List ℕ) → 2 ≤ length bytes → AreBytes bytes → number 2 (number_in 2 bytes) ≡ take 2 bytes
unfolding number number_in
number_back_2 bytes long fits =
    let is : number_in 2 bytes ≡ from_be_bytes w16 (take 2 bytes) = sym (number_in-take 2 2 bytes (omega arith)) ∙ omega arith in
    be_bytes_2 (take 2 bytes) _ (omega (arith, length-take 2 bytes)) (AreBytes-take 2 bytes fits) is
