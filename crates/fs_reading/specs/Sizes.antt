-- What is noted of the data records of an object. Source: own.
use Rattle.std.specs.Prelude.{◌≡◌, ℕ, List}
use Rattle.zb_model.specs.Lists.{size_of}
use Rattle.fs_records.specs.Blocks.{Known}
use Rattle.fs_reading.specs.Standing.{data_head_at, RecordStands}
use Rattle.fs_reading.specs.declared.noted.Noted.{Noted}

-- how many bytes the object has by a record, and where the record's transaction stands
abbrev pub noted_of : List ℕ → Known → Noted
noted_of bytes k = record { size = size_of k.content; transaction = (data_head_at bytes k.place).transaction }

-- this was noted of a record that stands at this place
pub record IsNotedAt (bytes : List ℕ) (at : ℕ) (noted : Noted) : Type 0 where
  pub known : Known
  pub place : known.place ≡ at
  pub stands : RecordStands bytes known
  pub is : noted ≡ noted_of bytes known
