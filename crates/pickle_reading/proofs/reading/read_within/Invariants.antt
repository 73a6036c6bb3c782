use Rattle.std.proofs.Common.{◌≡◌, ◌≤◌, drop, length, ◌-◌}
use Rattle.pickle_reading.specs.Reading.{graphs, read_from, empty_state}
use Rattle.pickle_reading.specs.Sound.{IsSoundState}
use Rattle.pickle_reading.proofs.reading.read_within.Given as goal

-- what is left to read gives what all of it gives
abbrev pub invariant-loop-state : goal.invariant-loop-state
invariant-loop-state l = record {
  same : read_from graphs 0 l.state l.place (drop l.place l.input) ≡ read_from graphs 0 (empty_state l.fn.limit) l.fn.at (drop l.fn.at l.input);
  sound : IsSoundState l.state;
  behind : l.fn.at ≤ l.place;
}

abbrev pub decreases-loop-state : goal.decreases-loop-state
decreases-loop-state l = length l.input - l.place
