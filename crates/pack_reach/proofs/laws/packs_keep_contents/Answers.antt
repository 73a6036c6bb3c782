use Rattle.pack_reach.specs.KeepingLaws.{packs_keep}
use Rattle.pack_reach.proofs.laws.packs_keep_contents.Goals as goal

pub returns : goal.returns
returns c = packs_keep
