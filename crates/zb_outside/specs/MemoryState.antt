-- What contracts see of a source and a sink in memory. Own.
use Rattle.std.specs.Prelude.{ℕ, List}

-- the bytes that are left, the numbers of the calls that are to fail, counted from 1, how many calls
-- were made, and how many failed; each count stays at 2^64-1
pub record SourceState : Type 0 where
  pub left : List ℕ
  pub failing : List ℕ
  pub calls : ℕ
  pub faults : ℕ

-- the bytes that were taken, the numbers of the calls that are to fail, counted from 1, how many
-- calls were made, how many failed, and how many found no memory; each count stays at 2^64-1
pub record SinkState : Type 0 where
  pub taken : List ℕ
  pub failing : List ℕ
  pub calls : ℕ
  pub faults : ℕ
  pub starved : ℕ
