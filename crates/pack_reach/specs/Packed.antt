-- What a pack leaves of a list. A pack that collects keeps the objects that it reaches, any other keeps all. Source: `pack` of
-- ZODB's FileStorage; packs that keep all are own.
use Rattle.std.specs.Prelude.{ℕ, List, Option, None, Bool, true, false}
use Rattle.std.specs.List.{flat_map}
use Rattle.std.specs.Ordering.{nat_cmp}
use Rattle.std.specs.FinSet.{FinSet, from_list}
use Rattle.zb_model.specs.declared.data.Transaction.{Transaction}
use Rattle.zb_model.specs.Packing.{packed_by}
use Rattle.zb_model.specs.Queries.{oids_of}
use Rattle.pack_reach.specs.Reached.{reached, unreadable}

-- the list, packed up to t with collection
abbrev pub packed_of : (List ℕ → Option (List ℕ)) → ℕ → List Transaction → List Transaction
packed_of named t list = packed_by t (reached named t list) list

-- the objects of which a pack keeps records: where it collects, those that it reaches, else all that the list has
abbrev pub kept : Bool → (List ℕ → Option (List ℕ)) → ℕ → List Transaction → FinSet nat_cmp
kept true named t list = reached named t list
kept false named t list = from_list (flat_map oids_of list)

-- the list, packed up to t
abbrev pub packed : Bool → (List ℕ → Option (List ℕ)) → ℕ → List Transaction → List Transaction
packed collects named t list = packed_by t (kept collects named t list) list

-- a record that a pack must follow and that can't be read; where it doesn't collect, it follows none
abbrev pub unread : Bool → (List ℕ → Option (List ℕ)) → ℕ → List Transaction → Option (ℕ × ℕ)
unread true named t list = unreadable named t list
unread false named t list = None

-- how many objects a turn marks
abbrev pub marks_a_turn : ℕ
marks_a_turn = 64
