use Rattle.pack_reach.proofs.Least.{computed_least}
use Rattle.pack_reach.proofs.laws.unreadable_is_least.Goals as goal

pub returns : goal.returns
returns c = computed_least
