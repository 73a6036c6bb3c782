use Rattle.pack_reach.specs.LateLaws.{packed_late}
use Rattle.pack_reach.proofs.laws.packs_outlast_commits.Goals as goal

pub returns : goal.returns
returns c = packed_late
