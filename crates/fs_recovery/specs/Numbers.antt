-- What a store answers of its list without reading it. Source: own.
use Rattle.std.specs.Prelude.{◌≡◌, ℕ, ◌+◌, ◌-◌, ◌^◌, true, false, nat_lt, if◌then◌else◌, List, [], ◌∷◌, None, length}
use Rattle.std.specs.List.{last_or}
use Rattle.std.specs.Option.{option_map_or}
use Rattle.zb_model.specs.declared.data.Transaction.{Transaction}
use Rattle.zb_model.specs.Queries.{greatest_oid, pack_point}
use Rattle.fs_recovery.specs.declared.tally.Tally.{Tally}

-- of each transaction, how many changes those up to it have, where those before have so many, and whether a pack has gone over it
abbrev pub tallies_from : ℕ → List Transaction → List Tally
tallies_from n [] = []
tallies_from n (t ∷ ts) = record { changes = n + length t.changes; packed = t.packed } ∷ tallies_from (n + length t.changes) ts

-- how many changes there are by the last tally
abbrev pub total_of : List Tally → ℕ
total_of tallies = option_map_or (λ x. x.changes) (last_or None tallies) 0

-- the tally that a number keeps: its highest bit is set where a pack has gone over the transaction, and what it has else is the number of changes
unfoldable pub tally_of : ℕ → Tally
tally_of n = if nat_lt n (2 ^ 63) then record { changes = n; packed = false } else record { changes = n - 2 ^ 63; packed = true }

-- what contracts see of the numbers of a list: its tallies, its greatest object, its pack point, and for how many tallies more there is room
pub record NumbersKept : Type 0 where
  pub tallies : List Tally
  pub greatest : ℕ
  pub pack_point : ℕ
  pub room : ℕ

-- these are the numbers of a list
pub record AreNumbersOf (list : List Transaction) (n : NumbersKept) : Type 0 where
  pub tallies : n.tallies ≡ tallies_from 0 list
  pub greatest : n.greatest ≡ greatest_oid list
  pub pack_point : n.pack_point ≡ pack_point list
