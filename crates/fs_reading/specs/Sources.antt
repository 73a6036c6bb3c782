-- Where the content of a data record stands. Source: own.
use Rattle.std.specs.Prelude.{◌≡◌, ℕ, ◌+◌, ◌<◌, ◌≤◌, ◌^◌, ◌==◌, Bool, true, false, List, [], ◌∷◌, length, take, drop, Option, Some, None}
use Rattle.zb_model.specs.declared.data.Content.{Content}
use Rattle.zb_model.specs.declared.data.Content.TheVariants.{Held, Absent}
use Rattle.fs_index.specs.declared.place.Place.{Place}
use Rattle.fs_records.specs.Blocks.{Reached, Begins, is_known}
use Rattle.fs_reading.specs.Standing.{IsContent}
use Rattle.fs_reading.specs.declared.outline.Source.{Source}

-- a content stands behind the header of a data record, or is Absent
abbrev pub IsSource : List ℕ → Content → Option Source → Type 0
IsSource bytes content None = content ≡ Absent
IsSource bytes content (Some source) = (content ≡ Held (take source.length (drop (source.at + 42) bytes))) × (source.at + 42 + source.length ≤ length bytes)

-- some content is that of the data record at a place
abbrev pub HasContent : List ℕ → ℕ → Type 0
HasContent bytes at = (content : Content) × IsContent bytes content at

-- this is said of each content of the data record at a place
abbrev pub OfContent : List ℕ → ℕ → (Content → Type 0) → Type 0
OfContent bytes at says = (content : Content) → IsContent bytes content at → says content

-- the bytes begin as a file, with a data record of some object at this place, and every place within them is a number of 64 bits
pub record IsKnownPlace (bytes : List ℕ) (at : ℕ) : Type 0 where
  pub reached : Reached
  pub oid : ℕ
  pub begins : Begins bytes reached
  pub is : is_known reached.known oid at ≡ true
  pub short : length bytes < 2 ^ 64

-- whether the first of these places is of this transaction
abbrev pub is_same_transaction : ℕ → List Place → Bool
is_same_transaction serial [] = false
is_same_transaction serial (next ∷ rest) = serial == next.serial
