use Rattle.std.proofs.Common.{◌≡◌}
use Rattle.commit_phases.specs.Kept.{restored}
use Rattle.commit_phases.proofs.several.take_back_all.Given as goal

-- with those that are left taken back all are as before
abbrev pub invariant-loop-replaced : goal.invariant-loop-replaced
invariant-loop-replaced l = restored l.stores.entries l.done.items ≡ restored l.fn.stores.entries l.fn.done.items

abbrev pub decreases-loop-replaced : goal.decreases-loop-replaced
decreases-loop-replaced l = goal.left-loop-replaced l
