-- What a call puts. Own.
use Rattle.std.specs.Prelude.{ℕ, Bool, true, false, List, [], ◌∷◌, Option, length, nat_lt, if◌then◌else◌}
use Rattle.std.specs.Option.{option_map_or}
use Rattle.btree_shapes.specs.Ways.{stands_in}
use Rattle.tree_attempts.specs.declared.put.TreePut.{TreePut}
use Rattle.tree_attempts.specs.declared.known.Seen.{Seen}

-- the serial of an object, or 0 where it has nothing
abbrev pub serial_seen : Option Seen → ℕ
serial_seen seen = option_map_or (λ x. x.serial) seen 0

-- what a put of an object is made from: 0 for a new object, else what the object had
abbrev pub based_on : List ℕ → (ℕ → Option Seen) → ℕ → ℕ
based_on numbers objects oid = if stands_in numbers oid then 0 else serial_seen (objects oid)

-- each of the puts has bytes
abbrev pub are_filled : List TreePut → Bool
are_filled [] = true
are_filled (p ∷ puts) = if nat_lt 0 (length p.bytes) then are_filled puts else false
