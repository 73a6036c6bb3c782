use Rattle.std.proofs.Common.{IsTrue}
use Rattle.zb_volume.specs.Runs.{by_the_clock}
use Rattle.zb_volume.proofs.laws.images_since_the_start_are_those_of_every_moment.Goals as goal

pub returns : goal.returns
returns c a Q old new leaves image left = by_the_clock a (λ i. IsTrue (Q i)) old new leaves image left
