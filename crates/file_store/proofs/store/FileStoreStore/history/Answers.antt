use Rattle.zb_volume.specs.declared.areas.Area.TheVariants.{Main}
use Rattle.zb_volume.specs.Disk.{seen}
use Rattle.zb_model.specs.Lists.{history_of}
use Rattle.file_store.proofs.Hints.{hinted_still}
use Rattle.file_store.proofs.Shown.{by_places, places_are, still}
use Rattle.file_store.proofs.Sources.{known_still}
use Rattle.file_store.proofs.store.FileStoreStore.history.Goals as goal

pub read_history_at-requires : goal.read_history_at-requires
read_history_at-requires g c = λ told. let self = c.args.self.now in places_are (seen (g.V.Volume.state self.volume).log Main) self.index self.numbers (self.kept told c.requires) c.args.oid c.places.result.now c.places.ensures.value

pub invariant_of-self : goal.invariant_of-self
invariant_of-self g c =
    let self = c.args.self.now in
    let k = still _ _ _ _ self.index self.numbers self.copy self.outline c.read_history_at.ensures.read.same (record { settled = self.settled; kept = self.kept; voted = self.voted; copied = self.copied; outlined = self.outlined }) in
    record { room = self.room; settled = k.settled; kept = k.kept; voted = k.voted; copied = k.copied; outlined = k.outlined; known = known_still _ _ _ _ _ _ c.read_history_at.ensures.read.same self.known; hint = λ told. hinted_still _ _ _ _ c.read_history_at.ensures.read.same (self.hint told) }

pub returns-clause-lines : goal.returns-clause-lines
returns-clause-lines g c = λ told.
    let self = c.args.self.now in
    by_places (seen (g.V.Volume.state self.volume).log Main) self.index self.numbers (self.kept told c.requires) history_of _ c.args.oid c.places.result.now c.places.ensures.value (c.in_ok-lines.ensures.lines told)
