use Rattle.zodb_core.proofs.Lawful.{fronts_never}
use Rattle.zodb_core.proofs.laws.fronts_never_fall.Goals as goal

pub returns : goal.returns
returns c = fronts_never
