use Rattle.std.proofs.Common.{◌≤◌, length}
use Rattle.fs_reading.proofs.known.KnownSources.get.Given as goal

abbrev pub invariant-loop-left : goal.invariant-loop-left
invariant-loop-left l = l.left ≤ length l.self-inside.known.items

abbrev pub decreases-loop-left : goal.decreases-loop-left
decreases-loop-left l = l.left
