use Rattle.std.proofs.Common.{◌≡◌, ◌≤◌, length}
use Rattle.std.specs.Prelude.{drop}
use Rattle.commit_phases.specs.Earlier.{with_contents}
use Rattle.savepoints.specs.Log.{all_taken_back}
use Rattle.savepoints.proofs.going_back.contents_at.Given as goal

-- with the contents by now all is taken back that the log has from this place on
abbrev pub invariant-loop-place : goal.invariant-loop-place
invariant-loop-place l = record {
  from : l.fn.from ≤ l.place;
  within : l.place ≤ length l.fn.log;
  back : with_contents l.fn.pending.stores l.contents.entries ≡ all_taken_back l.fn.pending.stores (drop l.place l.fn.log);
}

abbrev pub decreases-loop-place : goal.decreases-loop-place
decreases-loop-place l = l.place
