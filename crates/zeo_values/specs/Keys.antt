-- Keys as they are spelled: bytes, a text in UTF-8, or a whole number of at most 128 bits. From: Python's pickle opcodes.
use Rattle.std.specs.Prelude.{ℕ, ◌+◌, Bool, false, not, ◌&&◌, ◌||◌, ◌==◌, List, length, drop, nat_lt, if◌then◌else◌}
use Rattle.std.specs.Str.{is_utf8}
use Rattle.zeo_values.specs.Values.{byte_in, word_in}

-- bytes are the spelling of bytes, of a text in UTF-8, or of a whole number of at most 128 bits
abbrev pub is_bytes_spelled : List ℕ → Bool
is_bytes_spelled text =
    if byte_in 0 text == 0x43 then byte_in 1 text + 2 == length text
    else if byte_in 0 text == 0x42 then word_in text + 5 == length text && nat_lt 260 (length text) else false

abbrev pub is_text_spelled : List ℕ → Bool
is_text_spelled text = byte_in 0 text == 0x58 && (word_in text + 5 == length text && is_utf8 (drop 5 text))

-- the highest of the bytes of a number can't be left out
abbrev pub is_needed : ℕ → ℕ → Bool
is_needed highest next = not ((highest == 0 && nat_lt next 128) || (highest == 255 && nat_lt 127 next))

abbrev pub is_long_spelled : List ℕ → Bool
is_long_spelled text =
    byte_in 0 text == 0x8a && (length text == byte_in 1 text + 2 && (nat_lt 4 (byte_in 1 text) && (nat_lt (byte_in 1 text) 17
    && is_needed (byte_in (byte_in 1 text + 1) text) (byte_in (byte_in 1 text) text))))

abbrev pub is_number_spelled : List ℕ → Bool
is_number_spelled text =
    if byte_in 0 text == 0x4b then length text == 2
    else if byte_in 0 text == 0x4d then length text == 3 && not (byte_in 2 text == 0)
    else if byte_in 0 text == 0x4a then length text == 5 && not (byte_in 3 text == 0 && byte_in 4 text == 0) else is_long_spelled text

abbrev pub is_key_spelled : List ℕ → Bool
is_key_spelled text = is_bytes_spelled text || (is_text_spelled text || is_number_spelled text)
