use Rattle.std.proofs.Common.{◌≡◌}
use Rattle.commit_phases.specs.Earlier.{with_contents}
use Rattle.commit_phases.specs.Kept.{stores_of}
use Rattle.commit_phases.proofs.going_back.give_all.Given as goal

-- with those that are left given all are
abbrev pub invariant-loop-given : goal.invariant-loop-given
invariant-loop-given l = with_contents (stores_of l.stores.entries) l.contents.items ≡ with_contents (stores_of l.fn.stores.entries) l.fn.contents.items

abbrev pub decreases-loop-given : goal.decreases-loop-given
decreases-loop-given l = goal.left-loop-given l
