-- The lists that a database answers. Source: `history` and `undoLog` of the storage interfaces of ZODB.
use Rattle.std.specs.Prelude.{ℕ, List, Option, Some, None, Bool, not, length, filter, map, nat_lt, reverse, take}
use Rattle.std.specs.List.{filter_map}
use Rattle.std.specs.Option.{option_map}
use Rattle.zb_model.specs.declared.data.Content.{Content}
use Rattle.zb_model.specs.declared.data.Content.TheVariants.{Held, Absent}
use Rattle.zb_model.specs.declared.data.Transaction.{Transaction}
use Rattle.zb_model.specs.declared.lists.LogLine.{LogLine}
use Rattle.zb_model.specs.declared.lists.Revision.{Revision}
use Rattle.zb_model.specs.Database.{change_in}

-- how many bytes a content has, if it has any
abbrev pub size_of : Content → Option ℕ
size_of (Held bytes) = Some (length bytes)
size_of Absent = None

-- what a history says of the object's change in a transaction, if there is one
abbrev pub history_line : ℕ → Transaction → Option Revision
history_line oid t = option_map
    (λ c. record { tid = t.tid; size = size_of c.content; user = t.user; description = t.description })
    (change_in oid t.changes)

-- every change of an object, the newest first
abbrev pub history_of : ℕ → List Transaction → List Revision
history_of oid list = reverse (filter_map (history_line oid) list)

-- what the undo list says of a transaction
abbrev pub log_line : Transaction → LogLine
log_line t = record { tid = t.tid; user = t.user; description = t.description }

abbrev pub is_unpacked : Transaction → Bool
is_unpacked t = not t.packed

-- every transaction that no pack has gone over, the newest first
abbrev pub undo_log_of : List Transaction → List LogLine
undo_log_of list = reverse (map log_line (filter is_unpacked list))

abbrev pub is_before : ℕ → Transaction → Bool
is_before below t = nat_lt t.tid below

-- the newest lines of the undo list of what stands below a tid, no more than so many
abbrev pub undo_log_before : ℕ → ℕ → List Transaction → List LogLine
undo_log_before below count list = take count (undo_log_of (filter (is_before below) list))
