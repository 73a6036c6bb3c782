-- The four bytes of a length, and the number that they say.
use Rattle.std.proofs.Common.{◌≡◌, ℕ, suc, ◌+◌, ◌*◌, ◌<◌, ◌^◌, List, [], ◌∷◌, ◌++◌, length, get_or, arith, refl}
use Rattle.std.specs.Int.{w32, from_be_bytes}
use Rattle.std.proofs.lemmas.Nat.{be_bytes_4}
use Rattle.byteorder.specs.Endian.{big_bytes, big_number}

-- four bytes are those of the number that they say
pub head_spelled : (head : List ℕ) → length head ≡ 4 → ((i : ℕ) → get_or head i 0 < 256) → big_bytes 4 (big_number 4 head) ≡ head
head_spelled (a ∷ (b ∷ (c ∷ (d ∷ [])))) long each =
    let same : big_number 4 (a ∷ (b ∷ (c ∷ (d ∷ [])))) ≡ from_be_bytes w32 (a ∷ (b ∷ (c ∷ (d ∷ [])))) = omega arith in
    be_bytes_4 (a ∷ (b ∷ (c ∷ (d ∷ [])))) (big_number 4 (a ∷ (b ∷ (c ∷ (d ∷ []))))) refl each same
head_spelled [] long each = absurd (omega arith)
head_spelled (a ∷ []) long each = absurd (omega arith)
head_spelled (a ∷ (b ∷ [])) long each = absurd (omega arith)
head_spelled (a ∷ (b ∷ (c ∷ []))) long each = absurd (omega arith)
head_spelled (a ∷ (b ∷ (c ∷ (d ∷ (e ∷ rest))))) long each = absurd (omega arith)
