-- Numbers of at most 16 bytes, and bytes.
use Rattle.std.proofs.Common.{◌≡◌, ℕ, ℤ, zero, suc, pos, ◌+◌, ◌*◌, ◌-◌, ◌^◌, ◌<◌, ◌≤◌, Bool, true, false, List, [], ◌∷◌, length, refl, sym, ◌∙◌, ap, cond, ltb, arith}
use Rattle.std.specs.Prelude.{◌-ℤ◌}
use Rattle.std.proofs.lemmas.Bool.{ltb-true, ltb-false}
use Rattle.std.proofs.lemmas.Int.{ints}
use Rattle.std.proofs.lemmas.Grind.{pow_more}
use Rattle.std.proofs.lemmas.Nat.{pow-add}
use Rattle.std.proofs.Math.Nat.{pow-le-pow_right}
use Rattle.byteorder.specs.Endian.{little_number, twos_complement}
use Rattle.byteorder.specs.Numbers.{little_from-lt}
use Rattle.pickle_ops.specs.Fits.{IsBelow, IsSigned32}
use Rattle.pickle_graph.specs.Graph.{IsSigned128}
use Rattle.pickle_reading.specs.Leaves.{long_number}
use Rattle.zb_base.specs.Bytes.{AreBytes}

bytes_pow : (n : ℕ) → 256 ^ n ≡ 2 ^ (8 * n)
bytes_pow zero = refl
bytes_pow (suc n) =
    let one : suc n ≡ n + 1 = omega arith in
    let eight : 8 * n + 8 ≡ 8 * suc n = omega arith in
    ap (λ k. 256 ^ k) one ∙ pow_more 256 n ∙ ap (λ k. k * 256) (bytes_pow n) ∙ sym (pow-add 2 (8 * n) 8) ∙ ap (λ k. 2 ^ k) eight

half : (x h top : ℕ) → h ≤ 2 ^ 127 → top ≡ h * 2 → x < top → IsSigned128 (cond (ltb x h) (pos x) (pos x -ℤ pos top))
half x h top most double small = side (ltb x h) refl
  where
    side : (t : Bool) → ltb x h ≡ t → IsSigned128 (cond t (pos x) (pos x -ℤ pos top))
    side true low = let less = ltb-true _ _ low in record { low = omega (arith, ints, less); high = omega (arith, ints, less) }
    side false high = let more = ltb-false _ _ high in record { low = omega (arith, ints, more); high = omega (arith, ints, more) }

signed : (n x : ℕ) → 1 ≤ n → n ≤ 16 → x < 256 ^ n → IsSigned128 (twos_complement n x)
signed n x least most small =
    let next : 8 * n - 1 + 1 ≡ 8 * n = omega arith in
    let double : 2 ^ (8 * n) ≡ 2 ^ (8 * n - 1) * 2 = ap (λ k. 2 ^ k) (sym next) ∙ pow_more 2 (8 * n - 1) in
    let below : 2 ^ (8 * n - 1) ≤ 2 ^ 127 = pow-le-pow_right {n = 2} (omega arith) {i = 8 * n - 1} {j = 127} (omega arith) in
    let same : 256 ^ n ≡ 2 ^ (8 * n) = bytes_pow n in
    half x (2 ^ (8 * n - 1)) (2 ^ (8 * n)) below double (omega (arith, same, small))

-- a number of at most 16 bytes has at most 128 bits
pub long-signed : (bytes : List ℕ) → AreBytes bytes → length bytes ≤ 16 → IsSigned128 (long_number bytes)
long-signed [] are short = record { low = omega (arith, ints); high = omega (arith, ints) }
long-signed (byte ∷ bytes) are short =
    signed (length (byte ∷ bytes)) (little_number (length (byte ∷ bytes)) (byte ∷ bytes)) (omega arith) short (little_from-lt 0 (length (byte ∷ bytes)) (byte ∷ bytes) are)

pub signed32-wider : (z : ℤ) → IsSigned32 z → IsSigned128 z
signed32-wider z h = record { low = omega (arith, ints, h.low); high = omega (arith, ints, h.high) }

pub below-wider : (limit : ℕ) (z : ℤ) → limit ≤ 2 ^ 16 → IsBelow limit z → IsSigned128 z
below-wider limit z most h = record { low = omega (arith, ints, h.low); high = omega (arith, ints, h.high, most) }
