-- Where contents are known to stand. Source: own.
use Rattle.std.specs.Prelude.{ℕ, List, ◌++◌, Option}
use Rattle.std.specs.List.{AllByRecursion}
use Rattle.zb_model.specs.declared.data.Content.{Content}
use Rattle.fs_reading.specs.declared.outline.KnownSource.{KnownSource}
use Rattle.fs_reading.specs.declared.outline.Source.{Source}
use Rattle.fs_reading.specs.Sources.{IsSource}
use Rattle.fs_reading.specs.Standing.{IsContent}

-- whatever stands behind these bytes, the content of the data record at a place stands there, or is Absent
abbrev pub IsSourceOf : List ℕ → ℕ → Option Source → Type 0
IsSourceOf bytes at source = (rest : List ℕ) (content : Content) → IsContent (bytes ++ rest) content at → IsSource (bytes ++ rest) content source

-- each of these contents does
abbrev pub AreSourcesOf : List ℕ → List KnownSource → Type 0
AreSourcesOf bytes known = AllByRecursion (λ k. IsSourceOf bytes k.at k.source) known
