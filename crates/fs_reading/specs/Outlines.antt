-- What an outline of a transaction says over the bytes of its file. Source: own.
use Rattle.std.specs.Prelude.{ℕ, ◌+◌, ◌<◌, ◌≤◌, List, length, map, take, drop, Option, Some, None, All, IfSome, nat_eq}
use Rattle.std.specs.List.{IsDistinct}
use Rattle.zb_model.specs.declared.data.Content.{Content}
use Rattle.zb_model.specs.declared.data.Content.TheVariants.{Held, Absent}
use Rattle.zb_model.specs.declared.data.Change.{Change}
use Rattle.zb_model.specs.declared.data.Transaction.{Transaction}
use Rattle.fs_reading.specs.declared.outline.Source.{Source}
use Rattle.fs_reading.specs.declared.outline.OutlinedChange.{OutlinedChange}
use Rattle.fs_reading.specs.declared.outline.Outline.{Outline}

-- the content whose bytes stand there, or that the object isn't there
abbrev pub outlined_content : List ℕ → Option Source → Content
outlined_content bytes None = Absent
outlined_content bytes (Some source) = Held (take source.length (drop (source.at + 42) bytes))

abbrev pub outlined_change : List ℕ → OutlinedChange → Change
outlined_change bytes c = record { oid = c.oid; content = outlined_content bytes c.source }

-- the transaction that is outlined
abbrev pub outlined_transaction : List ℕ → Outline → Transaction
outlined_transaction bytes o = record {
  tid = o.tid;
  packed = o.packed;
  user = o.user;
  description = o.description;
  extension = o.extension;
  changes = map (outlined_change bytes) o.changes;
}

-- a content's bytes stand within these
abbrev pub StandsWithin : List ℕ → Option Source → Type 0
StandsWithin bytes source = IfSome source (λ s. s.at + 42 + s.length ≤ length bytes)

-- those of all changes do
abbrev pub AllStandWithin : List ℕ → List OutlinedChange → Type 0
AllStandWithin bytes changes = All (λ c. StandsWithin bytes c.source) changes

-- a content that is there has bytes
abbrev pub HasLength : Option Source → Type 0
HasLength source = IfSome source (λ s. 0 < s.length)

-- each object is changed once, and no record is empty
pub record AreOutlined (changes : List OutlinedChange) : Type 0 where
  pub distinct : IsDistinct nat_eq (map (λ c. c.oid) changes)
  pub filled : All (λ c. HasLength c.source) changes

-- its texts have lengths of 16 bits, it changes each object once, and no record is empty
pub record IsOutline (o : Outline) : Type 0 where
  pub user : length o.user ≤ 65535
  pub description : length o.description ≤ 65535
  pub extension : length o.extension ≤ 65535
  pub changes : AreOutlined o.changes
