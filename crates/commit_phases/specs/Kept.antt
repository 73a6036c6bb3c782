-- How pending stores are kept. Own.
use Rattle.std.specs.Prelude.{ℕ, ◌-◌, List, [], ◌∷◌, Option, Some, None, ◌==◌, if◌then◌else◌, length, map, take}
use Rattle.zb_model.specs.declared.pending.PendingStore.{PendingStore}
use Rattle.commit_phases.specs.declared.pending.Stored.{Stored}
use Rattle.commit_phases.specs.declared.several.Replaced.{Replaced}
use Rattle.commit_phases.specs.Pending.{length_of_content}

abbrev pub store_of : ℕ × Stored → PendingStore
store_of e = record { oid = e.0; base = e.1.base; content = e.1.content }

-- the stores that a table has, in its order
abbrev pub stores_of : List (ℕ × Stored) → List PendingStore
stores_of entries = map store_of entries

-- the base of an earlier store, else this one
abbrev pub base_or : Option Stored → ℕ → ℕ
base_or None base = base
base_or (Some stored) base = stored.base

-- how many bytes an earlier store has, or 0
abbrev pub length_or_none : Option Stored → ℕ
length_or_none None = 0
length_or_none (Some stored) = length_of_content stored.content

-- the entries with this store of an object, if it has one
abbrev pub stored_again : List (ℕ × Stored) → ℕ → Stored → List (ℕ × Stored)
stored_again [] oid stored = []
stored_again (e ∷ es) oid stored = if oid == e.0 then (e.0, stored) ∷ es else e ∷ stored_again es oid stored

abbrev pub earlier_back : List (ℕ × Stored) → ℕ → Option Stored → List (ℕ × Stored)
earlier_back es oid None = take (length es - 1) es
earlier_back es oid (Some stored) = stored_again es oid stored

-- the entries before an object's store was put among them: without the last one, where it had none, else with its earlier one
abbrev pub put_back : List (ℕ × Stored) → Replaced → List (ℕ × Stored)
put_back es replaced = earlier_back es replaced.oid replaced.earlier

-- the entries before these stores were put among them
abbrev pub restored : List (ℕ × Stored) → List Replaced → List (ℕ × Stored)
restored es [] = es
restored es (first ∷ later) = put_back (restored es later) first
