-- Numbers that a clock may give. Own.
use Rattle.std.specs.Prelude.{◌≡◌, ℕ, Option, Some, None}
use Rattle.zb_ids.specs.declared.stamp.Stamp.{Stamp}
use Rattle.zb_ids.specs.Tids.{stamp_number}

-- the number of some stamp
abbrev pub IsStampNumber : ℕ → Type 0
IsStampNumber n = (stamp : Stamp) × (n ≡ stamp_number stamp)

-- the same of a number that may be missing
abbrev pub IsStampNumberIfSome : Option ℕ → Type 0
IsStampNumberIfSome None = Unit {0}
IsStampNumberIfSome (Some n) = IsStampNumber n
