use Rattle.std.proofs.Common.{List, ap, sym, subst, ◌∙◌}
use Rattle.zb_volume.specs.Calls.{Event}
use Rattle.zb_volume.specs.declared.areas.Area.TheVariants.{Main}
use Rattle.zb_volume.specs.Disk.{seen}
use Rattle.fs_reading.specs.Outlines.{outlined_change}
use Rattle.fs_reading.specs.declared.outline.Outline.{Outline}
use Rattle.file_store.specs.Outlined.{IsOutlinedIn}
use Rattle.file_store.proofs.Hints.{hinted_still}
use Rattle.file_store.proofs.Outlines.{none_found, some_found}
use Rattle.file_store.proofs.Shown.{starts_of, still}
use Rattle.file_store.proofs.Commits.{none_there}
use Rattle.file_store.proofs.Sources.{known_still}
use Rattle.file_store.proofs.store.FileStoreStore.change_at.Goals as goal

pub outline_of-requires-clause-starts : goal.outline_of-requires-clause-starts
outline_of-requires-clause-starts g c = λ told. let self = c.args.self.now in starts_of (seen (g.V.Volume.state self.volume).log Main) self.index self.numbers (self.kept told c.requires) c.starts-starts.result.now c.starts-starts.ensures.value

pub outline_of-requires-clause-known : goal.outline_of-requires-clause-known
outline_of-requires-clause-known g c = λ told x some. c.args.self.now.outlined told c.requires x (sym c.take-known.ensures.value ∙ some)

pub invariant_of-self : goal.invariant_of-self
invariant_of-self g c =
    let self = c.args.self.now in
    let new = (g.V.Volume.state c.outline_of.new.volume).log in
    let k = still _ _ _ _ self.index self.numbers self.copy self.outline c.outline_of.ensures.read.same (record { settled = self.settled; kept = self.kept; voted = self.voted; copied = self.copied; outlined = self.outlined }) in
    record { room = self.room; settled = k.settled; kept = k.kept; voted = k.voted; copied = k.copied; outlined = λ told whole. none_there Outline (λ x. IsOutlinedIn (seen new Main) x) c.take-known.new.self c.take-known.ensures.after; known = known_still _ _ _ _ _ _ c.outline_of.ensures.read.same self.known; hint = λ told. hinted_still _ _ _ _ c.outline_of.ensures.read.same (self.hint told) }

pub invariant_of-self-in_default : goal.invariant_of-self-in_default
invariant_of-self-in_default g c =
    let self = c.args.self.now in
    let same = c.outline_of.ensures.read.same in
    let k = still _ _ _ _ self.index self.numbers self.copy self.outline same (record { settled = self.settled; kept = self.kept; voted = self.voted; copied = self.copied; outlined = self.outlined }) in
    record {
      room = self.room;
      settled = k.settled;
      kept = k.kept;
      voted = k.voted;
      copied = k.copied;
      outlined = λ told whole x some. subst (λ (log : List Event). IsOutlinedIn (seen log Main) x) (sym same) (c.in_ok-outline.ensures.outlined told x some);
      known = known_still _ _ _ _ _ _ same self.known;
      hint = λ told. hinted_still _ _ _ _ same (self.hint told);
    }

pub returns-in_default-clause-found : goal.returns-in_default-clause-found
returns-in_default-clause-found g c = λ told.
    none_found (seen (g.V.Volume.state c.args.self.now.volume).log Main) c.args.tid c.args.number c.in_ok-outline.outline c.change_in-change.result (c.in_ok-outline.ensures.found told) c.change_in-change.ensures c.in_default.is

pub invariant_of-self-2 : goal.invariant_of-self-2
invariant_of-self-2 g c =
    let self = c.args.self.now in
    let same = c.read_change.ensures.read.same ∙ c.outline_of.ensures.read.same in
    let k = still _ _ _ _ self.index self.numbers self.copy self.outline same (record { settled = self.settled; kept = self.kept; voted = self.voted; copied = self.copied; outlined = self.outlined }) in
    record {
      room = self.room;
      settled = k.settled;
      kept = k.kept;
      voted = k.voted;
      copied = k.copied;
      outlined = λ told whole x some. subst (λ (log : List Event). IsOutlinedIn (seen log Main) x) (sym same) (c.in_ok-outline.ensures.outlined told x some);
      known = known_still _ _ _ _ _ _ same self.known;
      hint = λ told. hinted_still _ _ _ _ same (self.hint told);
    }

pub returns-clause-found : goal.returns-clause-found
returns-clause-found g c = λ told.
    some_found (seen (g.V.Volume.state c.args.self.now.volume).log Main) c.args.tid c.args.number c.in_ok-outline.outline c.change_in-change.result c.in-Some.change c.in_ok-read.read (c.in_ok-outline.ensures.found told) c.change_in-change.ensures c.in-Some.is
    (c.in_ok-read.ensures.value told ∙ ap (λ (log : List Event). outlined_change (seen log Main) c.in-Some.change) c.outline_of.ensures.read.same)
