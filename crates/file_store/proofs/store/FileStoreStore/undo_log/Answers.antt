use Rattle.zb_volume.specs.declared.areas.Area.TheVariants.{Main}
use Rattle.zb_volume.specs.Disk.{seen}
use Rattle.zb_model.specs.Lists.{undo_log_of}
use Rattle.file_store.proofs.Hints.{hinted_still}
use Rattle.file_store.proofs.Shown.{by_starts, starts_are, still}
use Rattle.file_store.proofs.Sources.{known_still}
use Rattle.file_store.proofs.store.FileStoreStore.undo_log.Goals as goal

pub read_undo_log_at-requires : goal.read_undo_log_at-requires
read_undo_log_at-requires g c = λ told. let self = c.args.self.now in starts_are (seen (g.V.Volume.state self.volume).log Main) self.index self.numbers (self.kept told c.requires) c.starts.result.now c.starts.ensures.value

pub invariant_of-self : goal.invariant_of-self
invariant_of-self g c =
    let self = c.args.self.now in
    let k = still _ _ _ _ self.index self.numbers self.copy self.outline c.read_undo_log_at.ensures.read.same (record { settled = self.settled; kept = self.kept; voted = self.voted; copied = self.copied; outlined = self.outlined }) in
    record { room = self.room; settled = k.settled; kept = k.kept; voted = k.voted; copied = k.copied; outlined = k.outlined; known = known_still _ _ _ _ _ _ c.read_undo_log_at.ensures.read.same self.known; hint = λ told. hinted_still _ _ _ _ c.read_undo_log_at.ensures.read.same (self.hint told) }

pub returns-clause-lines : goal.returns-clause-lines
returns-clause-lines g c = λ told.
    let self = c.args.self.now in
    by_starts (seen (g.V.Volume.state self.volume).log Main) self.index self.numbers (self.kept told c.requires) undo_log_of _ c.starts.result.now c.starts.ensures.value (c.in_ok-lines.ensures.lines told)
