use Rattle.std.proofs.Common.{◌≡◌, ◌≤◌, length, ◌-◌}
use Rattle.pickle_references.specs.References.{Finding}
use Rattle.pickle_references.specs.Shown.{sight_of}
use Rattle.pickle_reading.specs.Sound.{IsSoundState}
use Rattle.pickle_references.proofs.Looking.{Looks}
use Rattle.pickle_references.proofs.references.look_to_stop.Given as goal

-- it shows what a reader of graphs found, for which what is left to read gives what all of it gives
abbrev pub invariant-loop-token : goal.invariant-loop-token
invariant-loop-token l = record {
  looks : (f : Finding) → l.fn.sight ≡ sight_of f → IsSoundState f.state → Looks f l.fn.at l.input l.sight l.place;
  behind : l.fn.at ≤ l.place;
}

abbrev pub decreases-loop-token : goal.decreases-loop-token
decreases-loop-token l = length l.input - l.place
