use Rattle.std.proofs.Common.{arith, Option, ap, refl, sym, ◌∙◌}
use Rattle.zb_volume.specs.declared.areas.Area.TheVariants.{Side}
use Rattle.zb_volume.specs.Disk.{seen}
use Rattle.zb_model.specs.declared.packs.Copied.{Copied}
use Rattle.pack_copy.specs.Copying.{CopyKept}
use Rattle.file_store.specs.Kept.{IsCopyKept}
use Rattle.file_store.proofs.Commits.{none_there}
use Rattle.file_store.proofs.Copies.{copy_is, only_copy, begun_in_full}
use Rattle.file_store.proofs.Hints.{hinted_on, hinted_or, keeps_both, whole_before, stays_honest}
use Rattle.file_store.proofs.Leaves.{copy_leaves, unless_any}
use Rattle.file_store.proofs.Sides.{begun_of, keeps_voted, kept_stays, list_stays, settled_stays, voted_stays}
use Rattle.file_store.proofs.Sources.{known_stays}
use Rattle.file_store.proofs.store.FileStoreStore.pack_copy.Goals as goal

pub copy_turn-requires-clause-copied : goal.copy_turn-requires-clause-copied
copy_turn-requires-clause-copied g c = λ told.
    let self = c.args.self.now in
    copy_is (seen (g.V.Volume.state self.volume).log Side) c.in-Some.copy (self.copied told c.requires.whole c.in-Some.copy (sym c.take.ensures.value ∙ c.in-Some.is))

pub invariant_of-self-in-Ok : goal.invariant_of-self-in-Ok
invariant_of-self-in-Ok g c =
    let self = c.args.self.now in
    let log = (g.V.Volume.state self.volume).log in
    let now = (g.V.Volume.state c.copy_turn.new.volume).log in
    record {
      room = self.room;
      settled = λ told whole. settled_stays log now (c.copy_turn.ensures.main told) (self.settled told c.requires.whole);
      kept = λ told whole. kept_stays log now (c.copy_turn.ensures.main told) self.index self.numbers (self.kept told c.requires.whole);
      voted = λ told whole. voted_stays log now (c.copy_turn.ensures.main told) self.index (self.voted told c.requires.whole);
      copied = λ told whole x some. only_copy (seen now Side) c.copy_turn.new.to x some (c.in-Ok.ensures.copied told);
      outlined = λ told whole x some. absurd cc;
      known = λ told whole. known_stays log now self.index.end self.sources (c.copy_turn.ensures.main told) (self.known told c.requires.whole);
      hint = λ told.
          let was = whole_before log self.broken self.index.end c.requires.whole (self.hint told) in
          hinted_on log now self.index.end self.index.end was (omega arith) (keeps_both log now was.honest (c.copy_turn.ensures.main told) (c.copy_turn.ensures.hint told)) (c.copy_turn.ensures.hint told);
    }

pub invariant_of-self-in-Err : goal.invariant_of-self-in-Err
invariant_of-self-in-Err g c =
    let self = c.args.self.now in
    let log = (g.V.Volume.state self.volume).log in
    let now = (g.V.Volume.state c.copy_turn.new.volume).log in
    record {
      room = self.room;
      settled = λ told whole. settled_stays log now (c.copy_turn.ensures.main told) (self.settled told c.requires.whole);
      kept = λ told whole. kept_stays log now (c.copy_turn.ensures.main told) self.index self.numbers (self.kept told c.requires.whole);
      voted = λ told whole. voted_stays log now (c.copy_turn.ensures.main told) self.index (self.voted told c.requires.whole);
      copied = λ told whole. none_there CopyKept (λ x. IsCopyKept (seen now Side) x) c.take.new.self c.take.ensures.after;
      outlined = λ told whole x some. absurd cc;
      known = λ told whole. known_stays log now self.index.end self.sources (c.copy_turn.ensures.main told) (self.known told c.requires.whole);
      hint = λ told.
          let was = whole_before log self.broken self.index.end c.requires.whole (self.hint told) in
          hinted_or log now _ self.index.end was (keeps_both log now was.honest (c.copy_turn.ensures.main told) (c.copy_turn.ensures.hint told)) (λ whole. c.copy_turn.ensures.hint told);
    }

pub returns-in-Ok-clause-leaves : goal.returns-in-Ok-clause-leaves
returns-in-Ok-clause-leaves g c = copy_leaves _ _ _ _ refl
    (keeps_voted g.V.Volume.told (g.V.Volume.state c.args.self.now.volume).log (g.V.Volume.state c.copy_turn.new.volume).log c.args.self.now.index _ _ refl refl (λ told. c.copy_turn.ensures.main told))
    (λ told. list_stays (g.V.Volume.state c.args.self.now.volume).log (g.V.Volume.state c.copy_turn.new.volume).log (c.copy_turn.ensures.main told)) tt

pub returns-in-Err-clause-leaves : goal.returns-in-Err-clause-leaves
returns-in-Err-clause-leaves g c = copy_leaves _ _ _ _ refl
    (keeps_voted g.V.Volume.told (g.V.Volume.state c.args.self.now.volume).log (g.V.Volume.state c.copy_turn.new.volume).log c.args.self.now.index _ _ refl refl (λ told. c.copy_turn.ensures.main told))
    (λ told. unless_any Copied c.in-Err.error _ (list_stays (g.V.Volume.state c.args.self.now.volume).log (g.V.Volume.state c.copy_turn.new.volume).log (c.copy_turn.ensures.main told)))
    (ap (λ (o : Option CopyKept). begun_of o (seen (g.V.Volume.state c.copy_turn.new.volume).log Side)) c.take.ensures.after)

pub returns-in-Ok-clause-hint : goal.returns-in-Ok-clause-hint
returns-in-Ok-clause-hint g c = λ told.
    let self = c.args.self.now in
    let log = (g.V.Volume.state self.volume).log in
    let new = (g.V.Volume.state c.copy_turn.new.volume).log in
    let was = whole_before log self.broken self.index.end c.requires.whole (self.hint told) in
    stays_honest _ _ (keeps_both log new was.honest (c.copy_turn.ensures.main told) (c.copy_turn.ensures.hint told))

pub returns-in-Err-clause-hint : goal.returns-in-Err-clause-hint
returns-in-Err-clause-hint g c = λ told.
    let self = c.args.self.now in
    let log = (g.V.Volume.state self.volume).log in
    let new = (g.V.Volume.state c.copy_turn.new.volume).log in
    let was = whole_before log self.broken self.index.end c.requires.whole (self.hint told) in
    stays_honest _ _ (keeps_both log new was.honest (c.copy_turn.ensures.main told) (c.copy_turn.ensures.hint told))

pub returns-in-Ok-clause-text : goal.returns-in-Ok-clause-text
returns-in-Ok-clause-text g c = λ told x is. begun_in_full (seen (g.V.Volume.state c.copy_turn.new.volume).log Side) c.copy_turn.new.to x is (c.in-Ok.ensures.copied told)
