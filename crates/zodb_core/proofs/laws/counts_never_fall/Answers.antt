use Rattle.zodb_core.proofs.Lawful.{counts_never}
use Rattle.zodb_core.proofs.laws.counts_never_fall.Goals as goal

pub returns : goal.returns
returns c = counts_never
