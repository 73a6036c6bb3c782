use Rattle.zb_volume.specs.declared.areas.Area.TheVariants.{Main}
use Rattle.zb_volume.specs.Disk.{seen}
use Rattle.zb_model.specs.Queries.{first_tid_after}
use Rattle.file_store.proofs.Shown.{by_starts}
use Rattle.file_store.proofs.store.FileStoreStore.first_tid_after.Goals as goal

pub returns : goal.returns
returns g c = λ told.
    let self = c.args.self.now in
    let main = seen (g.V.Volume.state self.volume).log Main in
    by_starts main self.index self.numbers (self.kept told c.requires) (first_tid_after c.args.tid) _ c.starts.result.now c.starts.ensures.value (c.first_tid_after.ensures main)
