use Rattle.std.proofs.Common.{◌∙◌}
use Rattle.zb_volume.specs.declared.areas.Area.TheVariants.{Main}
use Rattle.zb_volume.specs.Disk.{seen}
use Rattle.file_store.proofs.Shown.{newest_is}
use Rattle.file_store.proofs.store.FileStoreStore.newest.Goals as goal

pub returns-clause-value : goal.returns-clause-value
returns-clause-value g c = λ told. let self = c.args.self.now in c.newest.ensures.value ∙ newest_is (seen (g.V.Volume.state self.volume).log Main) self.index self.numbers (self.kept told c.requires)
