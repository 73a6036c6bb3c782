-- Keys and their order. From: the BTrees package, whose keys are ordered as Python orders them; the order between kinds is own.
use Rattle.std.specs.Prelude.{ℕ, ℤ, pos, Bool, List, []}
use Rattle.std.specs.declared.cmp.Ordering.{Ordering}
use Rattle.std.specs.Ordering.{is_lt, nat_cmp, int_cmp, eq_by_cmp, on, then_cmp}
use Rattle.std.specs.Cmp.Lexicographic.{slice_cmp}
use Rattle.btree_family.specs.declared.key.Key.{Key}
use Rattle.btree_family.specs.declared.key.Key.TheVariants.{Text, Bytes, Number}

-- the place of a key's kind: numbers, bytes, texts
abbrev pub rank_of : Key → ℕ
rank_of (Number n) = 0
rank_of (Bytes bytes) = 1
rank_of (Text text) = 2

-- the number that a key is, or 0
abbrev pub key_number : Key → ℤ
key_number (Number n) = n
key_number (Bytes bytes) = pos 0
key_number (Text text) = pos 0

-- the bytes of a text or of bytes; a number has none
abbrev pub key_bytes : Key → List ℕ
key_bytes (Number n) = []
key_bytes (Bytes bytes) = bytes
key_bytes (Text text) = text

-- by kind, then numbers by size, and bytes and texts byte by byte, which for texts is by code points
abbrev pub key_cmp : Key → Key → Ordering
key_cmp = then_cmp (then_cmp (on rank_of nat_cmp) (on key_number int_cmp)) (on key_bytes (slice_cmp nat_cmp))

-- the order tells two keys not apart
abbrev pub key_eq : Key → Key → Bool
key_eq = eq_by_cmp key_cmp

-- the first key is below the second
abbrev pub is_below : Key → Key → Bool
is_below a b = is_lt (key_cmp a b)
