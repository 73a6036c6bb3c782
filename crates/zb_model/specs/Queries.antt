-- What a store answers of its list. Source: the storage interfaces of ZODB (`loadBefore`, `lastTransaction`); the counts
-- are own.
use Rattle.std.specs.Prelude.{ℕ, List, [], ◌∷◌, Option, Some, None, Bool, ◌==◌, nat_lt, nat_le, max, length, filter, map, slice_get}
use Rattle.std.specs.List.{find, flat_map, sum_by}
use Rattle.std.specs.Option.{option_and_then, option_map}
use Rattle.zb_model.specs.declared.data.Change.{Change}
use Rattle.zb_model.specs.declared.data.Content.{Content}
use Rattle.zb_model.specs.declared.data.Content.TheVariants as content
use Rattle.zb_model.specs.declared.data.Transaction.{Transaction}
use Rattle.zb_model.specs.declared.found.Found.{Found}
use Rattle.zb_model.specs.declared.found.Found.TheVariants as found
use Rattle.zb_model.specs.Database.{ObjectRevision, revisions, revision_below}

-- the greatest of these numbers, or 0
abbrev pub greatest_of : List ℕ → ℕ
greatest_of [] = 0
greatest_of (n ∷ ns) = max n (greatest_of ns)

abbrev pub is_packed : Transaction → Bool
is_packed t = t.packed

-- the greatest tid of a transaction that a pack has gone over, or 0
abbrev pub pack_point : List Transaction → ℕ
pack_point list = greatest_of (map (λ t. t.tid) (filter is_packed list))

-- the objects that a transaction changes
abbrev pub oids_of : Transaction → List ℕ
oids_of t = map (λ c. c.oid) t.changes

-- the greatest number of an object that some transaction changes, or 0
abbrev pub greatest_oid : List Transaction → ℕ
greatest_oid list = greatest_of (flat_map oids_of list)

abbrev pub is_up_to : ℕ → Transaction → Bool
is_up_to tid t = nat_le t.tid tid

-- how many changes the transactions up to a tid have
abbrev pub changes_up_to : ℕ → List Transaction → ℕ
changes_up_to tid list = sum_by (λ t. length t.changes) (filter (is_up_to tid) list)

abbrev pub has_tid : ℕ → Transaction → Bool
has_tid tid t = t.tid == tid

-- the transaction with this tid
abbrev pub transaction_at : ℕ → List Transaction → Option Transaction
transaction_at tid list = find (has_tid tid) list

-- the change at a place, counted from 0, of the transaction with this tid
abbrev pub change_at : ℕ → ℕ → List Transaction → Option Change
change_at tid number list = option_and_then (λ t. slice_get t.changes number) (transaction_at tid list)

abbrev pub is_above : ℕ → Transaction → Bool
is_above tid t = nat_lt tid t.tid

-- the first transaction above a tid
abbrev pub first_after : ℕ → List Transaction → Option Transaction
first_after tid list = find (is_above tid) list

-- and its own tid
abbrev pub first_tid_after : ℕ → List Transaction → Option ℕ
first_tid_after tid list = option_map (λ t. t.tid) (first_after tid list)

abbrev pub is_from : ℕ → ObjectRevision → Bool
is_from front revision = nat_le front revision.serial

-- the serial of the object's next revision: the first one that isn't below the front
abbrev pub end_of : ℕ → ℕ → List Transaction → Option ℕ
end_of oid front list = option_map (λ r. r.serial) (find (is_from front) (revisions oid list))

-- what is found where the last revision is of this content
abbrev pub found_as : Content → ℕ → Option ℕ → Found
found_as (content.Held bytes) serial end = found.Held serial bytes end
found_as content.Absent serial end = found.Absent serial

abbrev pub found_of : Option ObjectRevision → Option ℕ → Found
found_of None end = found.Nothing
found_of (Some r) end = found_as r.content r.serial end

-- an object's last revision below a front, with the serial of its next one
abbrev pub found_below : ℕ → ℕ → List Transaction → Found
found_below oid front list = found_of (revision_below oid front list) (end_of oid front list)
