use Rattle.std.proofs.Common.{◌≡◌, drop}
use Rattle.commit_phases.specs.Decision.{failed_check}
use Rattle.commit_phases.proofs.deciding.refuse_checks.Given as goal

abbrev pub invariant-loop-check : goal.invariant-loop-check
invariant-loop-check g l = g.St.Store.told → failed_check (g.St.Store.state l.store).list (drop l.check-index l.checks) ≡ failed_check (g.St.Store.state l.store).list l.checks
