use Rattle.std.proofs.Common.{List, map, ap, sym, ◌∙◌}
use Rattle.zb_model.specs.declared.data.Transaction.{Transaction}
use Rattle.zb_volume.specs.declared.areas.Area.TheVariants.{Main}
use Rattle.zb_volume.specs.Disk.{seen}
use Rattle.fs_index.specs.declared.place.Place.{Place}
use Rattle.fs_records.specs.Databases.{reading_of}
use Rattle.fs_records.specs.Listed.{listed, reached_in}
use Rattle.file_store.specs.Kept.{cut_of}
use Rattle.file_store.specs.KeptLaws.{kept_stands, list_read}
use Rattle.file_store.proofs.store.FileStoreStore.changes_to.Goals as goal

pub returns : goal.returns
returns g c = λ told.
    let self = c.args.self.now in
    let main = seen (g.V.Volume.state self.volume).log Main in
    let k = self.kept told c.requires in
    c.changes_to.ensures (listed main)
    (ap (λ (ps : List Place). map (λ p. p.serial) ps) (c.starts.ensures.value ∙ k.starts)
    ∙ (reading_of main (reached_in main) (kept_stands main self.index self.numbers k).begins).starts
    ∙ ap (λ (ts : List Transaction). map (λ t. t.tid) ts) (sym (list_read main (reached_in main) (cut_of self.index) k.reading)))
    k.counted
