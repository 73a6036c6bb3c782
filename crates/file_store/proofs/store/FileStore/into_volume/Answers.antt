use Rattle.zb_volume.specs.declared.areas.Area.TheVariants.{Main}
use Rattle.zb_volume.specs.Disk.{seen}
use Rattle.file_store.specs.KeptLaws.{kept_list}
use Rattle.file_store.proofs.Hints.{honest_again, leaves_honest}
use Rattle.file_store.proofs.store.FileStore.into_volume.Goals as goal

pub returns-clause-stands : goal.returns-clause-stands
returns-clause-stands g c = λ told whole. kept_list (seen (g.V.Volume.state c.args.self.volume).log Main) c.args.self.index c.args.self.numbers (c.args.self.kept told whole)

pub returns-clause-hint : goal.returns-clause-hint
returns-clause-hint g c = λ told. leaves_honest (g.V.Volume.state c.args.self.volume).log (c.args.self.hint told).honest

pub returns-clause-honest : goal.returns-clause-honest
returns-clause-honest g c = λ told whole. honest_again (g.V.Volume.state c.args.self.volume).log c.args.self.broken c.args.self.index.end (c.args.self.settled told whole) whole (c.args.self.hint told)
