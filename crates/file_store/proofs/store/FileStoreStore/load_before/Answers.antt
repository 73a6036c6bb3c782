use Rattle.std.proofs.Common.{ℕ, List, refl, sym, subst, ◌∙◌, arith}
use Rattle.zb_volume.specs.declared.areas.Area.TheVariants.{Main}
use Rattle.zb_volume.specs.Disk.{seen}
use Rattle.zb_model.specs.declared.data.Transaction.{Transaction}
use Rattle.zb_model.specs.Queries.{found_below}
use Rattle.file_store.proofs.Hints.{hinted_still}
use Rattle.file_store.proofs.Shown.{by_places, end_within, places_are, still}
use Rattle.file_store.proofs.Sources.{KnownBefore, whole_main}
use Rattle.file_store.proofs.store.FileStoreStore.load_before.Goals as goal

pub found_before-requires-clause-places : goal.found_before-requires-clause-places
found_before-requires-clause-places g c = λ told. let self = c.args.self.now in places_are (seen (g.V.Volume.state self.volume).log Main) self.index self.numbers (self.kept told c.requires) c.args.oid c.places-places.result.now c.places-places.ensures.value

pub found_before-requires-clause-end : goal.found_before-requires-clause-end
found_before-requires-clause-end g c = λ told.
    let self = c.args.self.now in
    let main = seen (g.V.Volume.state self.volume).log Main in
    omega (arith, c.end-end.ensures.value, end_within main self.index self.numbers (self.kept told c.requires) self.index.staged refl (self.voted told c.requires))

pub invariant_of-self : goal.invariant_of-self
invariant_of-self g c =
    let self = c.args.self.now in
    let k = still _ _ _ _ self.index self.numbers self.copy self.outline c.found_before.ensures.read.same (record { settled = self.settled; kept = self.kept; voted = self.voted; copied = self.copied; outlined = self.outlined }) in
    record { room = self.room; settled = k.settled; kept = k.kept; voted = k.voted; copied = k.copied; outlined = k.outlined; known = λ told whole. subst (λ (n : ℕ). KnownBefore (g.V.Volume.state c.found_before.new.volume).log n c.found_before.new.known) c.end-end.ensures.value (c.found_before.ensures.known told); hint = λ told. hinted_still _ _ _ _ c.found_before.ensures.read.same (self.hint told) }

pub returns-clause-found : goal.returns-clause-found
returns-clause-found g c = λ told.
    let self = c.args.self.now in
    by_places (seen (g.V.Volume.state self.volume).log Main) self.index self.numbers (self.kept told c.requires) (λ (oid : ℕ) (list : List Transaction). found_below oid c.args.front list) _ c.args.oid c.places-places.result.now c.places-places.ensures.value (c.in_ok-found.ensures.found told)

pub found_before-requires-clause-whole : goal.found_before-requires-clause-whole
found_before-requires-clause-whole g c = λ told free.
    let self = c.args.self.now in
    whole_main (seen (g.V.Volume.state self.volume).log Main) self.index self.numbers (self.kept told c.requires) (c.is_free-whole.ensures free) ∙ sym c.end-end.ensures.value

pub found_before-requires-clause-known : goal.found_before-requires-clause-known
found_before-requires-clause-known g c = λ told.
    let self = c.args.self.now in
    subst (λ (n : ℕ). KnownBefore (g.V.Volume.state self.volume).log n self.sources) (sym c.end-end.ensures.value) (self.known told c.requires)
