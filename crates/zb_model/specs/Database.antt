-- A database is a list of transactions, the oldest first. Source: the storage interfaces of ZODB.
use Rattle.std.specs.Prelude.{ℕ, ◌<◌, ◌-◌, ◌^◌, List, ◌∷◌, Option, None, Bool, ◌==◌, nat_lt, nat_eq, filter, length, map, All}
use Rattle.std.specs.List.{filter_map, last_or, IsDistinct}
use Rattle.std.specs.List.Sorted.{IsStrictlyIncreasing}
use Rattle.std.specs.Option.{option_map, option_map_or}
use Rattle.zb_model.specs.declared.data.Content.{Content}
use Rattle.zb_model.specs.declared.data.Content.TheVariants.{Held, Absent}
use Rattle.zb_model.specs.declared.data.Change.{Change}
use Rattle.zb_model.specs.declared.data.Transaction.{Transaction}

-- the tid of the last transaction, or 0
abbrev pub newest_tid : List Transaction → ℕ
newest_tid list = option_map_or (λ t. t.tid) (last_or None list) 0

-- a record that an object has isn't empty
abbrev pub IsRecord : Content → Type 0
IsRecord (Held bytes) = 0 < length bytes
IsRecord Absent = Unit {0}

-- tids rise strictly from above 0 to below 2^64-1, no transaction changes an object twice, and no record is empty
pub record IsDatabase (list : List Transaction) : Type 0 where
  pub rising : IsStrictlyIncreasing (0 ∷ map (λ t. t.tid) list)
  pub bounded : newest_tid list < 2 ^ 64 - 1
  pub distinct : All (λ t. IsDistinct nat_eq (map (λ c. c.oid) t.changes)) list
  pub filled : All (λ t. All (λ c. IsRecord c.content) t.changes) list

abbrev pub is_change_of : ℕ → Change → Bool
is_change_of oid change = change.oid == oid

-- the last of these changes that is of the object, if one is
abbrev pub change_in : ℕ → List Change → Option Change
change_in oid changes = last_or None (filter (is_change_of oid) changes)

-- what an object became, and the tid of the transaction that made it so
pub record ObjectRevision : Type 0 where
  pub serial : ℕ
  pub content : Content

-- the object's revision that a transaction made, if it changed the object
abbrev pub revision_in : ℕ → Transaction → Option ObjectRevision
revision_in oid t = option_map (λ c. record { serial = t.tid; content = c.content }) (change_in oid t.changes)

-- all revisions of an object, the oldest first
abbrev pub revisions : ℕ → List Transaction → List ObjectRevision
revisions oid list = filter_map (revision_in oid) list

abbrev pub is_below : ℕ → ObjectRevision → Bool
is_below front revision = nat_lt revision.serial front

-- an object's last revision below a front
abbrev pub revision_below : ℕ → ℕ → List Transaction → Option ObjectRevision
revision_below oid front list = last_or None (filter (is_below front) (revisions oid list))

-- an object's content below a front: the state of the database there
abbrev pub content_below : ℕ → ℕ → List Transaction → Option Content
content_below oid front list = option_map (λ r. r.content) (revision_below oid front list)

-- the serial of an object's last revision, or 0
abbrev pub serial_of : ℕ → List Transaction → ℕ
serial_of oid list = option_map_or (λ r. r.serial) (last_or None (revisions oid list)) 0
