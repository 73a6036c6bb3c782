use Rattle.std.proofs.Common.{◌≡◌, ℕ, refl, arith}
use Rattle.zb_volume.specs.declared.areas.Area.TheVariants.{Main, Side, Hint}
use Rattle.zb_volume.specs.Disk.{seen}
use Rattle.zb_volume.specs.Moments.{Along}
use Rattle.zb_model.specs.StayLaws.{stays_same}
use Rattle.file_store.specs.Hinting.{LeavesOfFront}
use Rattle.file_store.proofs.Hints.{at_last, hinted_or, hinted_up_to, leaves_for, stays_honest, whole_before, writing, written_for, written_hint}
use Rattle.file_store.proofs.Leaves.{keeps_store, written_cause, written_reads, written_same}
use Rattle.file_store.proofs.Packs.{unbroken}
use Rattle.file_store.proofs.Sides.{copied_stays, keeps_begun, keeps_voted, kept_stays, list_stays, settled_stays, voted_stays}
use Rattle.file_store.proofs.Sources.{known_stays}
use Rattle.file_store.proofs.store.FileStore.write_hint.Goals as goal
use Rattle.file_store.proofs.store.FileStore.write_hint.Goals.{After-write_hint}

-- what a crash leaves while it is written
moments : (g : _) (c : After-write_hint g) → g.V.Volume.told → Along LeavesOfFront (g.V.Volume.state c.args.self.now.volume).log (g.V.Volume.state c.write_hint.new.volume).log
moments g c told =
    let self = c.args.self.now in
    let log = (g.V.Volume.state self.volume).log in
    let new = (g.V.Volume.state c.write_hint.new.volume).log in
    let was = whole_before log self.broken self.index.end c.requires (self.hint told) in
    writing log new self.index self.numbers (self.kept told c.requires) (self.settled told c.requires) was (c.write_hint.ensures.others told Main refl)
    (leaves_for log new self.index self.numbers c.index.result.now c.end-end.result c.index.ensures.value c.end-end.ensures.value (c.write_hint.ensures.any_moment told (was.settled refl)))

pub invariant_of-self : goal.invariant_of-self
invariant_of-self g c =
    let self = c.args.self.now in
    let log = (g.V.Volume.state self.volume).log in
    let new = (g.V.Volume.state c.write_hint.new.volume).log in
    record {
      room = self.room;
      settled = λ told whole. settled_stays log new (c.write_hint.ensures.others told Main refl) (self.settled told c.requires);
      kept = λ told whole. kept_stays log new (c.write_hint.ensures.others told Main refl) self.index self.numbers (self.kept told c.requires);
      voted = λ told whole. voted_stays log new (c.write_hint.ensures.others told Main refl) self.index (self.voted told c.requires);
      copied = λ told whole. copied_stays log new self.copy (c.write_hint.ensures.others told Side refl) (self.copied told c.requires);
      outlined = λ told whole x some. absurd cc;
      known = λ told whole. known_stays log new self.index.end self.sources (c.write_hint.ensures.others told Main refl) (self.known told c.requires);
      hint = λ told.
          written_hint new self.index self.numbers (kept_stays log new (c.write_hint.ensures.others told Main refl) self.index self.numbers (self.kept told c.requires)) (at_last log new (moments g (goal.at.invariant_of-self g c).After-write_hint told)) (c.in-Ok.ensures.settled told)
          (written_for self.index self.numbers c.index.result.now c.end-end.result (seen new Hint) c.index.ensures.value c.end-end.ensures.value (c.in-Ok.ensures.content told));
    }

pub invariant_of-self-in-Err : goal.invariant_of-self-in-Err
invariant_of-self-in-Err g c =
    let self = c.args.self.now in
    let log = (g.V.Volume.state self.volume).log in
    let new = (g.V.Volume.state c.write_hint.new.volume).log in
    record {
      room = self.room;
      settled = λ told whole. settled_stays log new (c.write_hint.ensures.others told Main refl) (self.settled told c.requires);
      kept = λ told whole. kept_stays log new (c.write_hint.ensures.others told Main refl) self.index self.numbers (self.kept told c.requires);
      voted = λ told whole. voted_stays log new (c.write_hint.ensures.others told Main refl) self.index (self.voted told c.requires);
      copied = λ told whole. copied_stays log new self.copy (c.write_hint.ensures.others told Side refl) (self.copied told c.requires);
      outlined = λ told whole x some. absurd cc;
      known = λ told whole. known_stays log new self.index.end self.sources (c.write_hint.ensures.others told Main refl) (self.known told c.requires);
      hint = λ told.
          let was = whole_before log self.broken self.index.end c.requires (self.hint told) in
          hinted_or log new c.eq-self.result self.index.end was (moments g (goal.at.invariant_of-self-in-Err g c).After-write_hint told) (λ whole. stays_same Hint log new (unbroken ℕ c.in-Err.error c.eq-self.result (new ≡ log) c.eq-self.ensures whole (written_same (g.V.Volume.state self.volume) (g.V.Volume.state c.write_hint.new.volume) c.in-Err.error c.in-Err.ensures.causes)));
    }

pub returns-in-Ok-clause-written : goal.returns-in-Ok-clause-written
returns-in-Ok-clause-written g c = λ told.
    let self = c.args.self.now in
    let log = (g.V.Volume.state self.volume).log in
    let new = (g.V.Volume.state c.write_hint.new.volume).log in
    hinted_up_to new self.index self.numbers c.end-end.result (kept_stays log new (c.write_hint.ensures.others told Main refl) self.index self.numbers (self.kept told c.requires))
    (written_for self.index self.numbers c.index.result.now c.end-end.result (seen new Hint) c.index.ensures.value c.end-end.ensures.value (c.in-Ok.ensures.content told)) c.end-end.ensures.value

pub returns-in-Ok-clause-hint : goal.returns-in-Ok-clause-hint
returns-in-Ok-clause-hint g c = λ told. stays_honest _ _ (moments g (goal.at.returns-in-Ok-clause-hint g c).After-write_hint told)

pub returns-in-Err-clause-hint : goal.returns-in-Err-clause-hint
returns-in-Err-clause-hint g c = λ told. stays_honest _ _ (moments g (goal.at.returns-in-Err-clause-hint g c).After-write_hint told)

pub returns-in-Ok-clause-keeps : goal.returns-in-Ok-clause-keeps
returns-in-Ok-clause-keeps g c =
    let self = c.args.self.now in
    let log = (g.V.Volume.state self.volume).log in
    let new = (g.V.Volume.state c.write_hint.new.volume).log in
    keeps_store g.V.Volume.told _ _ refl c.in-Ok.ensures.causes.reads (λ told. list_stays log new (c.write_hint.ensures.others told Main refl))
    (keeps_voted g.V.Volume.told log new self.index _ _ refl refl (λ told. c.write_hint.ensures.others told Main refl))
    (keeps_begun g.V.Volume.told log new self.copy _ _ refl refl (λ told. c.write_hint.ensures.others told Side refl))

pub returns-in-Err-clause-keeps : goal.returns-in-Err-clause-keeps
returns-in-Err-clause-keeps g c =
    let self = c.args.self.now in
    let log = (g.V.Volume.state self.volume).log in
    let new = (g.V.Volume.state c.write_hint.new.volume).log in
    keeps_store g.V.Volume.told _ _ refl (written_reads (g.V.Volume.state self.volume) (g.V.Volume.state c.write_hint.new.volume) c.in-Err.error c.in-Err.ensures.causes) (λ told. list_stays log new (c.write_hint.ensures.others told Main refl))
    (keeps_voted g.V.Volume.told log new self.index _ _ refl refl (λ told. c.write_hint.ensures.others told Main refl))
    (keeps_begun g.V.Volume.told log new self.copy _ _ refl refl (λ told. c.write_hint.ensures.others told Side refl))

pub returns-in-Ok-clause-cause : goal.returns-in-Ok-clause-cause
returns-in-Ok-clause-cause g c =
    let stand = c.in-Ok.ensures.causes in
    record { reads_later = omega (arith, stand.reads); faults_later = omega (arith, stand.writes); refused = tt; others = tt; answered = record { reads = stand.reads; faults = stand.writes } }

pub returns-in-Err-clause-cause : goal.returns-in-Err-clause-cause
returns-in-Err-clause-cause g c = written_cause ℕ _ _ c.in-Err.error c.in-Err.ensures.causes
