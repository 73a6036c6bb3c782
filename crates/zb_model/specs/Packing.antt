-- What a pack leaves of a list where just a given set of objects is kept. Source: `pack` of ZODB's FileStorage; the mark is
-- own.
use Rattle.std.specs.Prelude.{ℕ, ◌+◌, List, [], ◌∷◌, Option, Some, None, Bool, ◌==◌, ◌&&◌, true, false, if◌then◌else◌, nat_le, filter}
use Rattle.std.specs.List.{filter_map}
use Rattle.std.specs.Option.{option_map_or}
use Rattle.std.specs.Ordering.{nat_cmp}
use Rattle.std.specs.FinSet.{FinSet, contains}
use Rattle.zb_model.specs.declared.data.Change.{Change}
use Rattle.zb_model.specs.declared.data.Content.{Content}
use Rattle.zb_model.specs.declared.data.Content.TheVariants.{Held, Absent}
use Rattle.zb_model.specs.declared.data.Transaction.{Transaction}
use Rattle.zb_model.specs.Database.{ObjectRevision, revision_below}

-- a record is there
abbrev pub is_held : Content → Bool
is_held (Held bytes) = true
is_held Absent = false

-- the serial of an object's last revision up to t, or 0
abbrev pub serial_up_to : ℕ → ℕ → List Transaction → ℕ
serial_up_to t oid list = option_map_or (λ (r : ObjectRevision). r.serial) (revision_below oid (t + 1) list) 0

-- a change of a transaction up to t stays: it is a record, of one of these objects, and the object's last change up to t
abbrev pub stays : ℕ → FinSet nat_cmp → List Transaction → ℕ → Change → Bool
stays t keep list tid c = is_held c.content && contains keep c.oid && (serial_up_to t c.oid list == tid)

-- a transaction that a pack has gone over, with the changes that stay, unless there are none
abbrev pub packed_form : Transaction → List Change → Option Transaction
packed_form x [] = None
packed_form x (c ∷ changes) = Some (record x { packed = true; changes = c ∷ changes })

-- a transaction up to t is gone over, and a later one stays whole
abbrev pub packed_one : ℕ → FinSet nat_cmp → List Transaction → Transaction → Option Transaction
packed_one t keep list x = if nat_le x.tid t then packed_form x (filter (stays t keep list x.tid) x.changes) else Some x

-- the list, packed up to t, where just these objects are kept
abbrev pub packed_by : ℕ → FinSet nat_cmp → List Transaction → List Transaction
packed_by t keep list = filter_map (packed_one t keep list) list
