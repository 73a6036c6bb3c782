-- The numbers that a session has not been told yet. Source: the invalidation queue of a ZEO server, which is bounded; that it forgets all at once is own.
use Rattle.std.specs.Prelude.{◌≡◌, ◌≤◌, ◌∷◌, ◌++◌, ℕ, Bool, true, List, [], length, nat_lt, nat_le, if◌then◌else◌}

-- numbers, whether some were forgotten, and how many there is room for
pub record Queued : Type 0 where
  pub numbers : List ℕ
  pub forgotten : Bool
  pub capacity : ℕ

-- what a queue with this capacity has after these numbers: all of them, or just that they were more than fit
abbrev pub queued : ℕ → List ℕ → Queued
queued capacity numbers = record {
  numbers = if nat_le (length numbers) capacity then numbers else [];
  forgotten = nat_lt capacity (length numbers);
  capacity = capacity;
}

-- a queue after one number more
abbrev pub pushed : Queued → ℕ → Queued
pushed queue number =
    if queue.forgotten then queue
    else (if nat_lt (length queue.numbers) queue.capacity then record queue { numbers = queue.numbers ++ number ∷ [] } else record queue { numbers = []; forgotten = true })

-- there are no more numbers than fit, and none where some were forgotten
pub record IsWithin (queue : Queued) : Type 0 where
  pub fits : length queue.numbers ≤ queue.capacity
  pub none : queue.forgotten ≡ true → queue.numbers ≡ []
