use Rattle.std.proofs.Common.{Some, None, sym, ◌∙◌}
use Rattle.zb_volume.specs.declared.areas.Area.TheVariants.{Main}
use Rattle.zb_volume.specs.Disk.{seen}
use Rattle.file_store.proofs.Shown.{serial_is}
use Rattle.file_store.proofs.store.FileStoreStore.serial_of.Goals as goal

pub returns-in-Some : goal.returns-in-Some
returns-in-Some g c = λ told. let self = c.args.self.now in serial_is (seen (g.V.Volume.state self.volume).log Main) self.index self.numbers (self.kept told c.requires) c.args.oid c.places.result.now (Some c.in-Some.place) c.places.ensures.value (sym c.in-Some.is ∙ c.last_of.ensures)

pub returns-in-None : goal.returns-in-None
returns-in-None g c = λ told. let self = c.args.self.now in serial_is (seen (g.V.Volume.state self.volume).log Main) self.index self.numbers (self.kept told c.requires) c.args.oid c.places.result.now None c.places.ensures.value (sym c.in-None.is ∙ c.last_of.ensures)
