use Rattle.std.proofs.Common.{ℕ, sym, subst, ◌∙◌}
use Rattle.zb_volume.specs.declared.areas.Area.TheVariants.{Main}
use Rattle.zb_volume.specs.Disk.{seen}
use Rattle.zb_model.specs.Queries.{transaction_at}
use Rattle.file_store.proofs.Hints.{hinted_still}
use Rattle.file_store.proofs.Shown.{by_starts, starts_are, still}
use Rattle.file_store.proofs.Sources.{KnownBefore, whole_main}
use Rattle.file_store.proofs.store.FileStoreStore.transaction.Goals as goal

pub transaction_with-requires-clause-starts : goal.transaction_with-requires-clause-starts
transaction_with-requires-clause-starts g c = λ told. let self = c.args.self.now in starts_are (seen (g.V.Volume.state self.volume).log Main) self.index self.numbers (self.kept told c.requires) c.starts-starts.result.now c.starts-starts.ensures.value

pub invariant_of-self : goal.invariant_of-self
invariant_of-self g c =
    let self = c.args.self.now in
    let k = still _ _ _ _ self.index self.numbers self.copy self.outline c.transaction_with.ensures.read.same (record { settled = self.settled; kept = self.kept; voted = self.voted; copied = self.copied; outlined = self.outlined }) in
    record { room = self.room; settled = k.settled; kept = k.kept; voted = k.voted; copied = k.copied; outlined = k.outlined; known = λ told whole. subst (λ (n : ℕ). KnownBefore (g.V.Volume.state c.transaction_with.new.volume).log n c.transaction_with.new.known) c.end-end.ensures.value (c.transaction_with.ensures.known told); hint = λ told. hinted_still _ _ _ _ c.transaction_with.ensures.read.same (self.hint told) }

pub returns-clause-found : goal.returns-clause-found
returns-clause-found g c = λ told.
    let self = c.args.self.now in
    by_starts (seen (g.V.Volume.state self.volume).log Main) self.index self.numbers (self.kept told c.requires) (transaction_at c.args.tid) _ c.starts-starts.result.now c.starts-starts.ensures.value (c.in_ok-found.ensures.found told)

pub transaction_with-requires-clause-whole : goal.transaction_with-requires-clause-whole
transaction_with-requires-clause-whole g c = λ told free.
    let self = c.args.self.now in
    whole_main (seen (g.V.Volume.state self.volume).log Main) self.index self.numbers (self.kept told c.requires) (c.is_free-whole.ensures free) ∙ sym c.end-end.ensures.value

pub transaction_with-requires-clause-known : goal.transaction_with-requires-clause-known
transaction_with-requires-clause-known g c = λ told.
    let self = c.args.self.now in
    subst (λ (n : ℕ). KnownBefore (g.V.Volume.state self.volume).log n self.sources) (sym c.end-end.ensures.value) (self.known told c.requires)
