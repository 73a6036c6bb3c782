-- How long the script is. For the proofs of those who take it.
use Rattle.std.proofs.Common.{◌≡◌, ℕ, zero, suc, ◌+◌, ◌*◌, ◌%◌, ◌≤◌, Bool, true, false, length, length-append, arith, refl}
use Rattle.gen_script.specs.Script.{drawn, gen_lines, is_hundredth, next, pack_behind, round, rounds, setup, turns_of}

pack_length : (b : Bool) → length (pack_behind b) ≤ 1
pack_length true = omega arith
pack_length false = omega arith

turns_length : (i j u v k : ℕ) → length (turns_of i j u v k) ≡ 12
turns_length i j u v k = refl

round_length : (k x : ℕ) → length (round k x) ≤ 13
round_length k x =
    omega (arith, length-append (turns_of (k % 4) ((k + 1) % 4) (drawn (next x)) (drawn (next (next x))) k) (pack_behind (is_hundredth k)), turns_length (k % 4) ((k + 1) % 4) (drawn (next x)) (drawn (next (next x))) k, pack_length (is_hundredth k))

rounds_length : (count k x : ℕ) → length (rounds count k x) ≤ 13 * count
rounds_length zero k x = omega arith
rounds_length (suc count) k x =
    omega (arith, length-append (round k x) (rounds count (k + 1) (next (next x))), round_length k x, rounds_length count (k + 1) (next (next x)))

-- ten lines, and at most thirteen a round
pub gen_length : (n : ℕ) → length (gen_lines n) ≤ 10 + 13 * n
gen_length n = omega (arith, length-append setup (rounds n 1 n), rounds_length n 1 n)
