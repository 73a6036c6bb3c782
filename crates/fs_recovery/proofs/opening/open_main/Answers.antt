use Rattle.std.proofs.Common.{refl}
use Rattle.zb_volume.specs.declared.areas.Area.TheVariants.{Side, Hint}
use Rattle.zb_volume.specs.Disk.{main_bytes}
use Rattle.fs_recovery.proofs.opening.open_main.Goals as goal

pub returns-clause-opens : goal.returns-clause-opens
returns-clause-opens g c = λ told. c.open_from.ensures.opens told (c.nothing_known.ensures.known (main_bytes (g.V.Volume.state c.args.volume.now).log))

pub returns-clause-whole : goal.returns-clause-whole
returns-clause-whole g c = λ told. c.open_from.ensures.whole told (c.nothing_known.ensures.known (main_bytes (g.V.Volume.state c.args.volume.now).log))

pub returns-clause-harmed : goal.returns-clause-harmed
returns-clause-harmed g c = λ told. c.open_from.ensures.harmed told (c.nothing_known.ensures.known (main_bytes (g.V.Volume.state c.args.volume.now).log))

pub returns-clause-any_moment : goal.returns-clause-any_moment
returns-clause-any_moment g c = λ told. c.open_from.ensures.any_moment told (c.nothing_known.ensures.known (main_bytes (g.V.Volume.state c.args.volume.now).log))

pub returns-clause-images : goal.returns-clause-images
returns-clause-images g c = λ told. c.open_from.ensures.images told (c.nothing_known.ensures.known (main_bytes (g.V.Volume.state c.args.volume.now).log))

pub returns-clause-side : goal.returns-clause-side
returns-clause-side g c = λ told. c.open_from.ensures.others told Side refl

pub returns-clause-hint : goal.returns-clause-hint
returns-clause-hint g c = λ told. c.open_from.ensures.others told Hint refl
