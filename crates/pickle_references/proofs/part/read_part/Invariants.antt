use Rattle.std.proofs.Common.{◌≡◌, ◌≤◌, ◌+◌, [], drop, length, ◌-◌}
use Rattle.pickle_reading.specs.declared.reading.TheConstants.{NODE_LIMIT}
use Rattle.pickle_reading.specs.Reading.{read_from, begun}
use Rattle.pickle_references.specs.References.{parts}
use Rattle.pickle_reading.specs.Sound.{IsSoundState}
use Rattle.pickle_references.proofs.part.read_part.Given as goal

-- what is left to read gives what all of it gives
abbrev pub invariant-loop-finding : goal.invariant-loop-finding
invariant-loop-finding l = record {
  same : read_from parts 0 l.finding l.place (drop l.place l.input) ≡ read_from parts 0 (record { state = begun NODE_LIMIT l.fn.nodes l.fn.memo; oids = [] }) l.fn.at (drop l.fn.at l.input);
  sound : IsSoundState l.finding.state;
  limit : l.finding.state.limit ≡ NODE_LIMIT + length l.fn.nodes;
  behind : l.fn.at ≤ l.place;
}

abbrev pub decreases-loop-finding : goal.decreases-loop-finding
decreases-loop-finding l = length l.input - l.place
