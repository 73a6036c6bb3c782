use Rattle.zb_volume.specs.declared.areas.Area.TheVariants.{Main}
use Rattle.zodb_top.proofs.running.is_left.Goals as goal

pub returns : goal.returns
returns g c = record { left = λ told. g.met.V.Volume.seen_is_left c.args.volume.now Main told }
