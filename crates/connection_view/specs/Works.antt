-- An open transaction. Source: `Connection` of ZODB.
use Rattle.std.specs.Prelude.{ℕ, List, Bool}
use Rattle.commit_phases.specs.Pending.{PendingChanges}

-- the front of its view and how often the list had been packed, what waits for a vote, what waited at each of its savepoints, the earliest first, and
-- whether what waits is voted, or an undo is
pub record Work : Type 0 where
  pub front : ℕ
  pub switches : ℕ
  pub pending : PendingChanges
  pub savepoints : List PendingChanges
  pub is_voted : Bool
