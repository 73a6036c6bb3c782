-- Numbers as bytes, the highest first. Source: the FileStorage format notes.
use Rattle.std.specs.Prelude.{ℕ, List}
use Rattle.byteorder.specs.Endian.{big_number, big_bytes}

-- a number in n bytes
unfoldable pub number : ℕ → ℕ → List ℕ
number n x = big_bytes n x

-- the number that the first n bytes are
unfoldable pub number_in : ℕ → List ℕ → ℕ
number_in n bytes = big_number n bytes
