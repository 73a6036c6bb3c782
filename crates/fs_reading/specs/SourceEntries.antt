-- Objects and where the content of each stands, as the data records of a transaction give them. Source: own.
use Rattle.std.specs.Prelude.{ℕ, List, map, Option, nat_eq}
use Rattle.std.specs.List.{AllByRecursion, IsDistinct}
use Rattle.std.specs.Map.{keys_of}
use Rattle.zb_model.specs.declared.data.Content.{Content}
use Rattle.fs_reading.specs.declared.outline.Source.{Source}
use Rattle.fs_reading.specs.declared.outline.OutlinedChange.{OutlinedChange}
use Rattle.fs_reading.specs.Outlines.{HasLength, StandsWithin, outlined_content}

-- an object and where its content stands, as a change
abbrev pub outlined_entry : ℕ × Option Source → OutlinedChange
outlined_entry entry = record { oid = entry.0; source = entry.1 }

-- the objects with their contents
abbrev pub entries_from : List ℕ → List (ℕ × Option Source) → List (ℕ × Content)
entries_from bytes entries = map (λ e. (e.0, outlined_content bytes e.1)) entries

-- each content stands within the bytes
abbrev pub EntriesWithin : List ℕ → List (ℕ × Option Source) → Type 0
EntriesWithin bytes entries = AllByRecursion (λ e. StandsWithin bytes e.1) entries

-- each object once, and no record empty
pub record AreSources (entries : List (ℕ × Option Source)) : Type 0 where
  pub distinct : IsDistinct nat_eq (keys_of entries)
  pub filled : AllByRecursion (λ e. HasLength e.1) entries
