-- What contracts see of doors in memory, and of a spawner that counts. Own.
use Rattle.std.specs.Prelude.{ℕ, List, Option}
use Rattle.zb_outside.specs.MemoryState.{SourceState}

-- the links that are left, each a source and a sink; the port that the doors were bound with last; the links that were
-- given, each as the bytes that its source held; the numbers of the calls that are to fail, counted from 1; how many calls
-- were made, and how many failed; each count stays at 2^64-1
pub record DoorsState (O : Type 0) : Type 0 where
  pub left : List (SourceState × O)
  pub port : Option ℕ
  pub given : List (List ℕ)
  pub failing : List ℕ
  pub calls : ℕ
  pub faults : ℕ

-- the numbers of the starts that are to fail, counted from 1 in each run, and how many runs failed, which stays at 2^64-1
pub record SpawnerState : Type 0 where
  pub failing : List ℕ
  pub faults : ℕ
