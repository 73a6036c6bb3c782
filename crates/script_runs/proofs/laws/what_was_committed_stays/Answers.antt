use Rattle.script_runs.specs.Turning.{committed_stays}
use Rattle.script_runs.proofs.laws.what_was_committed_stays.Goals as goal

pub returns : goal.returns
returns c = committed_stays
