-- What a pack leaves of a transaction, by an index of the file that it stands in. Source: own.
use Rattle.std.specs.Prelude.{ℕ, ◌+◌, List, [], ◌∷◌, Option, Some, None, Bool, true, is_some, ◌==◌, ◌&&◌, if◌then◌else◌, nat_le, filter}
use Rattle.std.specs.Option.{option_map_or}
use Rattle.std.specs.Ordering.{nat_cmp}
use Rattle.std.specs.FinSet.{FinSet, contains}
use Rattle.zb_model.specs.declared.data.Change.{Change}
use Rattle.zb_model.specs.declared.data.Transaction.{Transaction}
use Rattle.zb_model.specs.Packing.{is_held, packed_form}
use Rattle.fs_index.specs.declared.place.Place.{Place}
use Rattle.fs_index.specs.Places.{PlacesKept, places_in, last_below}
use Rattle.fs_reading.specs.declared.outline.OutlinedChange.{OutlinedChange}
use Rattle.fs_reading.specs.declared.outline.Outline.{Outline}

-- the serial of the last of these places up to t, or 0
abbrev pub serial_among : ℕ → List Place → ℕ
serial_among t places = option_map_or (λ (p : Place). p.serial) (last_below (t + 1) places) 0

-- a change of a transaction up to t stays, by the places that are kept of its object
abbrev pub stays_by : ℕ → FinSet nat_cmp → List (ℕ × PlacesKept) → ℕ → Change → Bool
stays_by t keep entries tid c = is_held c.content && contains keep c.oid && (serial_among t (places_in entries c.oid) == tid)

-- what is left of a transaction
abbrev pub left_by : ℕ → FinSet nat_cmp → List (ℕ × PlacesKept) → Transaction → Option Transaction
left_by t keep entries x = if nat_le x.tid t then packed_form x (filter (stays_by t keep entries x.tid) x.changes) else Some x

-- ---- the same of an outline

-- a change of an outlined transaction stays
abbrev pub stays_in : ℕ → FinSet nat_cmp → List (ℕ × PlacesKept) → ℕ → OutlinedChange → Bool
stays_in t keep entries tid c = is_some c.source && contains keep c.oid && (serial_among t (places_in entries c.oid) == tid)

-- an outline that a pack has gone over, with the changes that stay, unless there are none
abbrev pub outlined_form : Outline → List OutlinedChange → Option Outline
outlined_form o [] = None
outlined_form o (c ∷ changes) = Some (record o { packed = true; changes = c ∷ changes })

-- what is left of an outlined transaction
abbrev pub left_in : ℕ → FinSet nat_cmp → List (ℕ × PlacesKept) → Outline → Option Outline
left_in t keep entries o = if nat_le o.tid t then outlined_form o (filter (stays_in t keep entries o.tid) o.changes) else Some o
