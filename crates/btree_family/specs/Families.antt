-- What the keys and the values of a family are. From: the BTrees package.
use Rattle.std.specs.Prelude.{ℤ, pos, negsuc, Bool, true, false, int_lt, int_le, ◌&&◌}
use Rattle.btree_family.specs.declared.key.Key.{Key}
use Rattle.btree_family.specs.declared.key.Key.TheVariants.{Text, Bytes, Number}
use Rattle.btree_family.specs.declared.table.KeyKind.{KeyKind}
use Rattle.btree_family.specs.declared.table.KeyKind.TheVariants as keys
use Rattle.btree_family.specs.declared.table.ValueKind.{ValueKind}
use Rattle.btree_family.specs.declared.table.ValueKind.TheVariants as values

-- a signed number of 32 bits
abbrev pub is_int32 : ℤ → Bool
is_int32 n = int_le (negsuc 0x7fff_ffff) n && int_lt n (pos 0x8000_0000)

-- a signed number of 64 bits
abbrev pub is_int64 : ℤ → Bool
is_int64 n = int_le (negsuc 0x7fff_ffff_ffff_ffff) n && int_lt n (pos 0x8000_0000_0000_0000)

-- the key is one of the family
abbrev pub key_fits : KeyKind → Key → Bool
key_fits keys.Object key = true
key_fits keys.Int32 (Number n) = is_int32 n
key_fits keys.Int32 (Bytes bytes) = false
key_fits keys.Int32 (Text text) = false
key_fits keys.Int64 (Number n) = is_int64 n
key_fits keys.Int64 (Bytes bytes) = false
key_fits keys.Int64 (Text text) = false

-- the number is a value of the family
abbrev pub number_fits : ValueKind → ℤ → Bool
number_fits values.Object n = true
number_fits values.Int32 n = is_int32 n
number_fits values.Int64 n = is_int64 n
