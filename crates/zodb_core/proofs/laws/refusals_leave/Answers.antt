use Rattle.zodb_core.proofs.Refused.{refusals_leave}
use Rattle.zodb_core.proofs.laws.refusals_leave.Goals as goal

pub returns : goal.returns
returns c = refusals_leave
