-- Values read loosely: what stands where a value is to stand, whatever else stands there. Own.
use Rattle.std.specs.Prelude.{ℕ, zero, suc, ◌+◌, ◌^◌, Bool, ◌==◌, List, [], ◌∷◌, Option, Some, None, length, take, drop, nat_lt, if◌then◌else◌}
use Rattle.std.specs.Int.{w16, w64, from_be_bytes, from_le_bytes}
use Rattle.zeo_values.specs.Values.{byte_in, word_in}

-- ---- leaves at the front

-- bytes without the first ones; unlike `drop` it isn't opened where the number is one
unfoldable pub behind : ℕ → List ℕ → List ℕ
behind count bytes = drop count bytes

-- a number of an object or of a transaction, which takes 10 bytes
unfoldable pub id_in : List ℕ → ℕ
id_in bytes =
    from_be_bytes w64 (byte_in 2 bytes ∷ byte_in 3 bytes ∷ byte_in 4 bytes ∷ byte_in 5 bytes ∷ byte_in 6 bytes ∷ byte_in 7 bytes ∷ byte_in 8 bytes ∷ byte_in 9 bytes ∷ [])

-- a byte of a long number, or 0 behind its size
abbrev pub long_byte : ℕ → List ℕ → ℕ
long_byte place bytes = if nat_lt place (byte_in 1 bytes) then byte_in (place + 2) bytes else 0

abbrev pub long_in : List ℕ → ℕ
long_in bytes =
    from_le_bytes w64 (long_byte 0 bytes ∷ long_byte 1 bytes ∷ long_byte 2 bytes ∷ long_byte 3 bytes ∷ long_byte 4 bytes ∷ long_byte 5 bytes ∷ long_byte 6 bytes
    ∷ long_byte 7 bytes ∷ [])

-- a number, and what stands behind it
unfoldable pub count_in : List ℕ → ℕ
count_in bytes =
    if byte_in 0 bytes == 0x4b then byte_in 1 bytes
    else if byte_in 0 bytes == 0x4d then from_le_bytes w16 (byte_in 1 bytes ∷ byte_in 2 bytes ∷ [])
    else if byte_in 0 bytes == 0x4a then word_in bytes else long_in bytes

abbrev pub count_size : List ℕ → ℕ
count_size bytes =
    if byte_in 0 bytes == 0x4b then 2 else if byte_in 0 bytes == 0x4d then 3 else if byte_in 0 bytes == 0x4a then 5 else byte_in 1 bytes + 2

unfoldable pub behind_count : List ℕ → List ℕ
behind_count bytes = drop (count_size bytes) bytes

-- a number of at most 32 bits, or 0
abbrev pub small : ℕ → ℕ
small n = if nat_lt n (2 ^ 32) then n else 0

-- bytes, and what stands behind them
unfoldable pub bytes_in : List ℕ → List ℕ
bytes_in bytes =
    if byte_in 0 bytes == 0x43 then take (byte_in 1 bytes) (drop 2 bytes) else take (word_in bytes) (drop 5 bytes)

unfoldable pub behind_bytes : List ℕ → List ℕ
behind_bytes bytes =
    if byte_in 0 bytes == 0x43 then drop (byte_in 1 bytes) (drop 2 bytes) else drop (word_in bytes) (drop 5 bytes)

-- a text, and what stands behind it
unfoldable pub name_in : List ℕ → List ℕ
name_in bytes = take (word_in bytes) (drop 5 bytes)

unfoldable pub behind_name : List ℕ → List ℕ
behind_name bytes = drop (word_in bytes) (drop 5 bytes)

-- whether a truth value is true
abbrev pub truth_in : List ℕ → Bool
truth_in bytes = byte_in 0 bytes == 0x88

-- ---- lists

-- the first item of a list
unfoldable pub items_in : List ℕ → List ℕ
items_in bytes = if byte_in 1 bytes == 0x28 then drop 2 bytes else drop 1 bytes

-- items as long as one begins with the byte, at most so many
abbrev pub read_items : {T : Type 0} → ℕ → (List ℕ → T) → (List ℕ → List ℕ) → ℕ → List ℕ → List T
read_items first item rest zero bytes = []
read_items first item rest (suc most) bytes =
    if byte_in 0 bytes == first then item bytes ∷ read_items first item rest most (rest bytes) else []

abbrev pub ids_at : List ℕ → List ℕ
ids_at bytes = read_items 0x43 id_in (behind 10) (length bytes) bytes

-- the numbers of a list, and what stands behind the list
abbrev pub ids_in : List ℕ → List ℕ
ids_in bytes = ids_at (items_in bytes)

-- what stands behind items
abbrev pub read_left : ℕ → (List ℕ → List ℕ) → ℕ → List ℕ → List ℕ
read_left first rest zero bytes = bytes
read_left first rest (suc most) bytes = if byte_in 0 bytes == first then read_left first rest most (rest bytes) else bytes

abbrev pub ids_left : List ℕ → List ℕ
ids_left bytes = read_left 0x43 (behind 10) (length bytes) bytes

abbrev pub behind_ids_at : List ℕ → List ℕ
behind_ids_at items = if byte_in 0 items == 0x43 then behind 1 (ids_left items) else items

abbrev pub behind_ids : List ℕ → List ℕ
behind_ids bytes = behind_ids_at (items_in bytes)

-- a number of a transaction, or None
abbrev pub maybe_id_in : List ℕ → Option ℕ
maybe_id_in bytes = if byte_in 0 bytes == 0x4e then None else Some (id_in bytes)

abbrev pub behind_maybe_id : List ℕ → List ℕ
behind_maybe_id bytes = if byte_in 0 bytes == 0x4e then behind 1 bytes else behind 10 bytes

abbrev pub maybe_count_in : List ℕ → Option ℕ
maybe_count_in bytes = if byte_in 0 bytes == 0x4e then None else Some (count_in bytes)

abbrev pub behind_maybe_count : List ℕ → List ℕ
behind_maybe_count bytes = if byte_in 0 bytes == 0x4e then behind 1 bytes else behind_count bytes
