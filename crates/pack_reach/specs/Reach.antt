-- What a pack reaches: the objects that references lead to. Source: `referencesf` and the garbage collection of ZODB's
-- FileStorage.
use Rattle.std.specs.Prelude.{ℕ, ◌+◌, ◌⊎◌, List, [], ◌∷◌, Option, Some, None, Bool, ◌==◌, ◌||◌, ◌&&◌, if◌then◌else◌, nat_lt, nat_le, filter, is_none, IsTrue}
use Rattle.std.specs.List.{flat_map, list_any}
use Rattle.std.specs.Option.{option_map_or, unwrap_or}
use Rattle.zb_model.specs.declared.data.Change.{Change}
use Rattle.zb_model.specs.declared.data.Content.{Content}
use Rattle.zb_model.specs.declared.data.Content.TheVariants.{Held, Absent}
use Rattle.zb_model.specs.declared.data.Transaction.{Transaction}
use Rattle.zb_model.specs.Database.{ObjectRevision, revision_below}
use Rattle.zb_model.specs.Queries.{is_above, oids_of}

-- a number is one of these
abbrev pub is_in : ℕ → List ℕ → Bool
is_in n ns = list_any (λ m. m == n) ns

-- ---- references

-- the objects that a content names: none where it is no record that can be read
abbrev pub references_of : (List ℕ → Option (List ℕ)) → Content → List ℕ
references_of named (Held bytes) = unwrap_or (named bytes) []
references_of named Absent = []

-- the objects that the records of a transaction name
abbrev pub references_in : (List ℕ → Option (List ℕ)) → Transaction → List ℕ
references_in named x = flat_map (λ (c : Change). references_of named c.content) x.changes

-- the objects that an object's last revision up to t names
abbrev pub references_up_to : (List ℕ → Option (List ℕ)) → ℕ → List Transaction → ℕ → List ℕ
references_up_to named t list oid = option_map_or (λ (r : ObjectRevision). references_of named r.content) (revision_below oid (t + 1) list) []

-- the objects that are changed after t
abbrev pub changed_after : ℕ → List Transaction → List ℕ
changed_after t list = flat_map oids_of (filter (is_above t) list)

-- the objects that records written after t name
abbrev pub named_after : (List ℕ → Option (List ℕ)) → ℕ → List Transaction → List ℕ
named_after named t list = flat_map (references_in named) (filter (is_above t) list)

-- An object is reached: it is the root, or is changed after t, or a record written after t names it, or the last revision
-- up to t of a reached object does.
pub data IsReached (named : List ℕ → Option (List ℕ)) (t : ℕ) (list : List Transaction) : ℕ → Type 0 where
  root : IsReached named t list 0
  changed : (oid : ℕ) → IsTrue (is_in oid (changed_after t list)) → IsReached named t list oid
  written : (oid : ℕ) → IsTrue (is_in oid (named_after named t list)) → IsReached named t list oid
  followed : (from oid : ℕ) → IsReached named t list from → IsTrue (is_in oid (references_up_to named t list from)) → IsReached named t list oid

-- ---- records that can't be read, each as its object and its serial

-- a pair of numbers is one of these
abbrev pub is_pair_in : ℕ × ℕ → List (ℕ × ℕ) → Bool
is_pair_in p ps = list_any (λ (q : ℕ × ℕ). (q.0 == p.0) && (q.1 == p.1)) ps

-- the record of a content, where it can't be read
abbrev pub unreadable_in : (List ℕ → Option (List ℕ)) → ℕ → ℕ → Content → List (ℕ × ℕ)
unreadable_in named oid serial (Held bytes) = if is_none (named bytes) then (oid, serial) ∷ [] else []
unreadable_in named oid serial Absent = []

-- the records of a transaction that can't be read
abbrev pub unreadable_of : (List ℕ → Option (List ℕ)) → Transaction → List (ℕ × ℕ)
unreadable_of named x = flat_map (λ (c : Change). unreadable_in named c.oid x.tid c.content) x.changes

-- those written after t
abbrev pub unreadable_after : (List ℕ → Option (List ℕ)) → ℕ → List Transaction → List (ℕ × ℕ)
unreadable_after named t list = flat_map (unreadable_of named) (filter (is_above t) list)

-- that of an object's last revision up to t
abbrev pub unreadable_up_to : (List ℕ → Option (List ℕ)) → ℕ → List Transaction → ℕ → List (ℕ × ℕ)
unreadable_up_to named t list oid = option_map_or (λ (r : ObjectRevision). unreadable_in named oid r.serial r.content) (revision_below oid (t + 1) list) []

-- the reach follows this record, and it can't be read: it is written after t, or stands in the last revision up to t of a
-- reached object
abbrev pub IsUnreadable : (List ℕ → Option (List ℕ)) → ℕ → List Transaction → ℕ × ℕ → Type 0
IsUnreadable named t list p = IsTrue (is_pair_in p (unreadable_after named t list)) ⊎ (IsReached named t list p.0 × IsTrue (is_pair_in p (unreadable_up_to named t list p.0)))

-- by object, and then by serial
abbrev pub is_at_most : ℕ × ℕ → ℕ × ℕ → Bool
is_at_most p q = nat_lt p.0 q.0 || ((p.0 == q.0) && nat_le p.1 q.1)

-- of the records that the reach follows and that can't be read this is the one of the least object, then of the least
-- serial; or there is none
abbrev pub IsLeastUnreadable : (List ℕ → Option (List ℕ)) → ℕ → List Transaction → Option (ℕ × ℕ) → Type 0
IsLeastUnreadable named t list None = (p : ℕ × ℕ) → IsUnreadable named t list p → ⊥
IsLeastUnreadable named t list (Some p) = IsUnreadable named t list p × ((q : ℕ × ℕ) → IsUnreadable named t list q → IsTrue (is_at_most p q))
