-- What was written. Own.
use Rattle.std.specs.Prelude.{ℕ, List, Option}
use Rattle.std.specs.Io.KnownBytes.{Appends}
use Rattle.zb_base.specs.Counts.{Rose}
use Rattle.zb_outside.specs.Written.{AppendsPrefix}

-- a text was written: all of it, but where the sink failed, and then some prefix of it
pub record IsWritten (old new : Option (List ℕ)) (before now : ℕ) (text : List ℕ) : Type 0 where
  pub prefix : AppendsPrefix old new text
  pub whole : ¬ Rose before now → Appends old new text
