-- What waits and what was saved of it. Source: the savepoints of ZODB's transactions; that they are numbered is own.
use Rattle.std.specs.Prelude.{◌≡◌, ℕ, ◌<◌, ◌≤◌, List, Some, Result, Ok, Err, length, slice_get}
use Rattle.commit_phases.specs.Pending.{PendingChanges}
use Rattle.savepoints.specs.declared.error.SavepointError.{SavepointError}
use Rattle.savepoints.specs.declared.error.SavepointError.TheVariants.{NoSavepoint, Memory}

-- the changes that are pending, and those that were pending at each savepoint, the earliest first
pub record Waits : Type 0 where
  pub pending : PendingChanges
  pub savepoints : List PendingChanges

-- what was saved under a number is pending, and NoSavepoint exactly where fewer than one more stand; memory is free to run out where one has the number
abbrev pub IsSaved : {T : Type 0} → List PendingChanges → ℕ → PendingChanges → Result T SavepointError → Type 0
IsSaved saved number pending (Ok _) = slice_get saved number ≡ Some pending
IsSaved saved number pending (Err (NoSavepoint n)) = (n ≡ number) × (length saved ≤ number)
IsSaved saved number pending (Err Memory) = number < length saved
