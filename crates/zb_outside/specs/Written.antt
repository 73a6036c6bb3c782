-- What a write that stopped half-way leaves. Own.
use Rattle.std.specs.Prelude.{◌≡◌, ℕ, List, ◌++◌, Option}
use Rattle.std.specs.Io.KnownBytes.{Appends}

-- known bytes grew by the part of `whole` that stands before `rest`
pub record AppendsBefore (old new : Option (List ℕ)) (whole rest : List ℕ) : Type 0 where
  pub front : List ℕ
  pub split : whole ≡ front ++ rest
  pub appended : Appends old new front

-- known bytes grew by some front of `whole`
pub record AppendsPrefix (old new : Option (List ℕ)) (whole : List ℕ) : Type 0 where
  pub rest : List ℕ
  pub before : AppendsBefore old new whole rest
