-- The names of clients. Own.
use Rattle.std.specs.Prelude.{◌≡◌, ◌≤◌, ◌-◌, ℕ, List, ◌++◌, Bool, ◌&&◌, ◌||◌, nat_le, nat_lt, length, take, slice_index, IsTrue, replicate}
use Rattle.std.specs.List.{list_all}

abbrev pub is_letter : ℕ → Bool
is_letter b = nat_le 97 b && nat_le b 122

abbrev pub is_letter_or_digit : ℕ → Bool
is_letter_or_digit b = is_letter b || (nat_le 48 b && nat_le b 57)

-- a lower-case letter, and up to seven lower-case letters or digits
abbrev pub is_name : List ℕ → Bool
is_name bytes = nat_lt 0 (length bytes) && nat_le (length bytes) 8 && is_letter (slice_index bytes 0) && list_all is_letter_or_digit bytes

abbrev pub IsName : List ℕ → Type 0
IsName bytes = IsTrue (is_name bytes)

-- eight bytes, with zeros behind the name
abbrev pub padded : List ℕ → List ℕ
padded bytes = bytes ++ replicate (8 - length bytes) 0

pub record IsPadded (letters : List ℕ) (len : ℕ) : Type 0 where
  pub full : length letters ≡ 8
  pub fits : len ≤ 8
  pub zeros : letters ≡ padded (take len letters)
  pub named : IsName (take len letters)
