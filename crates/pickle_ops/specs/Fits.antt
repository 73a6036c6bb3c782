-- What is known of a token's number and bytes, by its opcode.
use Rattle.std.specs.Prelude.{ℕ, ℤ, pos, negsuc, true, List, [], length, ◌-◌, ◌^◌, ◌<◌, ◌≤ℤ◌, ◌<ℤ◌, ◌≡◌}
use Rattle.std.specs.Str.{is_utf8}
use Rattle.pickle_ops.specs.declared.table.Op.{Op}
use Rattle.pickle_ops.specs.declared.table.Op.TheVariants as ops
use Rattle.pickle_ops.specs.Grammar.{SpellsLines}

-- from 0 up to the limit
pub record IsBelow (limit : ℕ) (number : ℤ) : Type 0 where
  pub low : pos 0 ≤ℤ number
  pub high : number <ℤ pos limit

-- a signed number of 32 bits
pub record IsSigned32 (number : ℤ) : Type 0 where
  pub low : negsuc (2 ^ 31 - 1) ≤ℤ number
  pub high : number <ℤ pos (2 ^ 31)

-- no argument
pub record IsNothing (number : ℤ) (bytes : List ℕ) : Type 0 where
  pub none : number ≡ pos 0
  pub empty : bytes ≡ []

-- UTF-8, and not too long for a length of four bytes
pub record IsShortText (bytes : List ℕ) : Type 0 where
  pub utf8 : is_utf8 bytes ≡ true
  pub short : length bytes < 2 ^ 32

-- the number and the bytes that a token of an opcode has
abbrev pub Fits : Op → ℤ → List ℕ → Type 0
Fits ops.Proto number bytes = IsBelow 4 number
Fits ops.BinInt number bytes = IsSigned32 number
Fits ops.BinInt1 number bytes = IsBelow (2 ^ 8) number
Fits ops.BinInt2 number bytes = IsBelow (2 ^ 16) number
Fits ops.BinPut number bytes = IsBelow (2 ^ 8) number
Fits ops.BinGet number bytes = IsBelow (2 ^ 8) number
Fits ops.LongBinPut number bytes = IsBelow (2 ^ 32) number
Fits ops.LongBinGet number bytes = IsBelow (2 ^ 32) number
Fits ops.BinFloat number bytes = length bytes ≡ 8
Fits ops.Long1 number bytes = length bytes < 2 ^ 8
Fits ops.ShortBinBytes number bytes = length bytes < 2 ^ 8
Fits ops.ShortBinString number bytes = length bytes < 2 ^ 8
Fits ops.BinBytes number bytes = length bytes < 2 ^ 32
Fits ops.Long4 number bytes = length bytes < 2 ^ 31
Fits ops.BinString number bytes = length bytes < 2 ^ 31
Fits ops.BinUnicode number bytes = IsShortText bytes
Fits ops.Global number bytes = SpellsLines bytes number bytes
Fits _ number bytes = IsNothing number bytes
