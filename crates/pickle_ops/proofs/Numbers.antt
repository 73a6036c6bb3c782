-- Numbers of up to four bytes.
use Rattle.std.proofs.Common.{ℕ, ◌^◌, ◌<◌, ◌≤◌, List, slice_index, arith}
use Rattle.byteorder.specs.Endian.{little_number}
use Rattle.byteorder.specs.Numbers.{little_from-lt}
use Rattle.std.proofs.Math.Nat.{pow-le-pow_right}

-- it is below 2 ^ 32
pub number_is_small : (size : ℕ) (bytes : List ℕ) → size ≤ 4 → ((k : ℕ) → slice_index bytes k < 256) → little_number size bytes < 2 ^ 32
number_is_small size bytes h each =
    let below = little_from-lt 0 size bytes each in
    let power : 256 ^ size ≤ 256 ^ 4 = pow-le-pow_right (omega arith) h in
    omega arith
