-- The texts of values, as pickles spell them where nothing is shared. From: Python's pickle opcodes.
use Rattle.std.specs.Prelude.{ℕ, ◌^◌, ◌<◌, Bool, true, false, List, [], ◌∷◌, ◌++◌, Option, Some, None, length, map, slice_index, nat_lt, ◌==◌, if◌then◌else◌}
use Rattle.std.specs.List.{AllByRecursion}
use Rattle.std.specs.Int.{w32, from_le_bytes}
use Rattle.byteorder.specs.Endian.{big_bytes, little_bytes}

-- ---- leaves

-- the byte at a place, or 0 behind the end
abbrev pub byte_in : ℕ → List ℕ → ℕ
byte_in place bytes = slice_index bytes place

-- the number of four bytes behind the first one
abbrev pub word_in : List ℕ → ℕ
word_in bytes = from_le_bytes w32 (byte_in 1 bytes ∷ byte_in 2 bytes ∷ byte_in 3 bytes ∷ byte_in 4 bytes ∷ [])

abbrev pub none_text : List ℕ
none_text = 0x4e ∷ []

abbrev pub truth_text : Bool → List ℕ
truth_text true = 0x88 ∷ []
truth_text false = 0x89 ∷ []

-- bytes behind their number, in one byte or in four
unfoldable pub bytes_text : List ℕ → List ℕ
bytes_text bytes = if nat_lt (length bytes) (2 ^ 8) then 0x43 ∷ length bytes ∷ bytes else 0x42 ∷ (little_bytes 4 (length bytes) ++ bytes)

-- a text in UTF-8, behind the number of its bytes in four
unfoldable pub name_text : List ℕ → List ℕ
name_text name = 0x58 ∷ (little_bytes 4 (length name) ++ name)

-- the fewest bytes from 5 on whose two's complement has the number, of at most 64 bits
abbrev pub long_size : ℕ → ℕ
long_size n =
    if nat_lt n (2 ^ 39) then 5 else if nat_lt n (2 ^ 47) then 6 else if nat_lt n (2 ^ 55) then 7 else if nat_lt n (2 ^ 63) then 8 else 9

-- a number in one byte, in two, in four with a sign, or in the fewest behind their number
unfoldable pub count_text : ℕ → List ℕ
count_text n =
    if nat_lt n (2 ^ 8) then 0x4b ∷ n ∷ []
    else if nat_lt n (2 ^ 16) then 0x4d ∷ little_bytes 2 n
    else if nat_lt n (2 ^ 31) then 0x4a ∷ little_bytes 4 n else 0x8a ∷ long_size n ∷ little_bytes (long_size n) n

-- the number of an object or of a transaction: eight bytes, the highest first
unfoldable pub id_text : ℕ → List ℕ
id_text n = 0x43 ∷ 8 ∷ big_bytes 8 n

abbrev pub maybe_text : (ℕ → List ℕ) → Option ℕ → List ℕ
maybe_text text None = none_text
maybe_text text (Some n) = text n

-- ---- tuples and lists

-- items, one behind the other, and an end
abbrev pub ended : List (List ℕ) → List ℕ → List ℕ
ended [] end = end
ended (item ∷ items) end = item ++ ended items end

-- a tuple: up to three items and an opcode, or a mark, the items and an opcode
abbrev pub tuple_text : List (List ℕ) → List ℕ
tuple_text [] = 0x29 ∷ []
tuple_text (a ∷ []) = ended (a ∷ []) (0x85 ∷ [])
tuple_text (a ∷ (b ∷ [])) = ended (a ∷ b ∷ []) (0x86 ∷ [])
tuple_text (a ∷ (b ∷ (c ∷ []))) = ended (a ∷ b ∷ c ∷ []) (0x87 ∷ [])
tuple_text items = 0x28 ∷ ended items (0x74 ∷ [])

-- what stands before the items of a list: a mark where they are more than one; and what stands behind them
abbrev pub opening : ℕ → List ℕ
opening count = if nat_lt 1 count then 0x28 ∷ [] else []

abbrev pub closing : ℕ → List ℕ
closing count = if nat_lt 1 count then 0x65 ∷ [] else if count == 1 then 0x61 ∷ [] else []

-- a list: an opcode; behind it nothing, or one item and an opcode, or a mark, the items and an opcode
abbrev pub list_text : List (List ℕ) → List ℕ
list_text items = 0x5d ∷ (opening (length items) ++ ended items (closing (length items)))

abbrev pub list_of : {T : Type 0} → (T → List ℕ) → List T → List ℕ
list_of text items = list_text (map text items)

-- ---- what types of fields hold

-- the number of an object or of a transaction
abbrev pub IsId : ℕ → Type 0
IsId n = n < 2 ^ 64

abbrev pub AreIds : List ℕ → Type 0
AreIds numbers = AllByRecursion IsId numbers
