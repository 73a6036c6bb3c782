use Rattle.pack_reach.specs.ReachLaws.{is_all}
use Rattle.pack_reach.proofs.laws.reached_is_all.Goals as goal

pub returns : goal.returns
returns c = is_all
