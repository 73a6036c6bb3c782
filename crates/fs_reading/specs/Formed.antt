-- What holds of each transaction that is read, whatever a volume gives. Source: own.
use Rattle.std.specs.Prelude.{ℕ, ◌<◌, ◌≤◌, List, length, map, All, nat_eq}
use Rattle.std.specs.List.{IsDistinct}
use Rattle.zb_model.specs.declared.data.Content.{Content}
use Rattle.zb_model.specs.declared.data.Content.TheVariants.{Held, Absent}
use Rattle.zb_model.specs.declared.data.Change.{Change}
use Rattle.zb_model.specs.declared.data.Transaction.{Transaction}

-- a record that is there has bytes
abbrev pub HasBytes : Content → Type 0
HasBytes (Held bytes) = 0 < length bytes
HasBytes Absent = Unit {0}

-- each object is changed once, and no record is empty
pub record AreFormed (changes : List Change) : Type 0 where
  pub distinct : IsDistinct nat_eq (map (λ c. c.oid) changes)
  pub filled : All (λ c. HasBytes c.content) changes

-- its texts have lengths of 16 bits, it changes each object once, and no record is empty
pub record IsFormed (t : Transaction) : Type 0 where
  pub user : length t.user ≤ 65535
  pub description : length t.description ≤ 65535
  pub extension : length t.extension ≤ 65535
  pub changes : AreFormed t.changes
