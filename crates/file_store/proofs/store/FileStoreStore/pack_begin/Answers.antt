use Rattle.std.proofs.Common.{arith, refl}
use Rattle.zb_volume.specs.declared.areas.Area.TheVariants.{Side}
use Rattle.zb_volume.specs.Disk.{seen}
use Rattle.file_store.proofs.Copies.{only_copy, begun_in_full}
use Rattle.file_store.proofs.Hints.{at_last, hinted_broken, hinted_on, keeps_both, whole_before, stays_honest}
use Rattle.file_store.proofs.Leaves.{copy_leaves}
use Rattle.file_store.proofs.Sides.{keeps_voted, kept_stays, list_stays, settled_stays, voted_stays}
use Rattle.file_store.proofs.Sources.{known_stays}
use Rattle.file_store.proofs.store.FileStoreStore.pack_begin.Goals as goal

-- a call of the volume failed
pub invariant_of-self : goal.invariant_of-self
invariant_of-self g c =
    let self = c.args.self.now in
    record {
      room = self.room;
      settled = λ told whole. absurd cc;
      kept = λ told whole. absurd cc;
      voted = λ told whole. absurd cc;
      copied = λ told whole. absurd cc;
      outlined = λ told whole x some. absurd cc;
      known = λ told whole. absurd cc;
      hint = λ told.
          let log = (g.V.Volume.state self.volume).log in
          let new = (g.V.Volume.state c.begin.new.volume).log in
          let was = whole_before log self.broken self.index.end c.requires (self.hint told) in
          hinted_broken new self.index.end (at_last log new (keeps_both log new was.honest (c.begin.ensures.main told) (c.begin.ensures.hint told)));
    }

pub invariant_of-self-2 : goal.invariant_of-self-2
invariant_of-self-2 g c =
    let self = c.args.self.now in
    let log = (g.V.Volume.state self.volume).log in
    let now = (g.V.Volume.state c.begin.new.volume).log in
    record {
      room = self.room;
      settled = λ told whole. settled_stays log now (c.begin.ensures.main told) (self.settled told c.requires);
      kept = λ told whole. kept_stays log now (c.begin.ensures.main told) self.index self.numbers (self.kept told c.requires);
      voted = λ told whole. voted_stays log now (c.begin.ensures.main told) self.index (self.voted told c.requires);
      copied = λ told whole x some. only_copy (seen now Side) c.in-Ok.copy x some (c.in-Ok.ensures.copied told);
      outlined = λ told whole x some. absurd cc;
      known = λ told whole. known_stays log now self.index.end self.sources (c.begin.ensures.main told) (self.known told c.requires);
      hint = λ told.
          let was = whole_before log self.broken self.index.end c.requires (self.hint told) in
          hinted_on log now self.index.end self.index.end was (omega arith) (keeps_both log now was.honest (c.begin.ensures.main told) (c.begin.ensures.hint told)) (c.begin.ensures.hint told);
    }

pub returns-in-Err-clause-leaves : goal.returns-in-Err-clause-leaves
returns-in-Err-clause-leaves g c = copy_leaves _ _ _ _ refl
    (keeps_voted g.V.Volume.told (g.V.Volume.state c.args.self.now.volume).log (g.V.Volume.state c.begin.new.volume).log c.args.self.now.index _ _ refl refl (λ told. c.begin.ensures.main told))
    (λ told. tt) refl

pub returns-clause-leaves : goal.returns-clause-leaves
returns-clause-leaves g c = copy_leaves _ _ _ _ refl
    (keeps_voted g.V.Volume.told (g.V.Volume.state c.args.self.now.volume).log (g.V.Volume.state c.begin.new.volume).log c.args.self.now.index _ _ refl refl (λ told. c.begin.ensures.main told))
    (λ told. list_stays (g.V.Volume.state c.args.self.now.volume).log (g.V.Volume.state c.begin.new.volume).log (c.begin.ensures.main told)) tt

pub returns-in-Err-clause-hint : goal.returns-in-Err-clause-hint
returns-in-Err-clause-hint g c = λ told.
    let self = c.args.self.now in
    let log = (g.V.Volume.state self.volume).log in
    let new = (g.V.Volume.state c.begin.new.volume).log in
    let was = whole_before log self.broken self.index.end c.requires (self.hint told) in
    stays_honest _ _ (keeps_both log new was.honest (c.begin.ensures.main told) (c.begin.ensures.hint told))

pub returns-clause-hint : goal.returns-clause-hint
returns-clause-hint g c = λ told.
    let self = c.args.self.now in
    let log = (g.V.Volume.state self.volume).log in
    let new = (g.V.Volume.state c.begin.new.volume).log in
    let was = whole_before log self.broken self.index.end c.requires (self.hint told) in
    stays_honest _ _ (keeps_both log new was.honest (c.begin.ensures.main told) (c.begin.ensures.hint told))

pub returns-clause-text : goal.returns-clause-text
returns-clause-text g c = λ told x is. begun_in_full (seen (g.V.Volume.state c.begin.new.volume).log Side) c.in-Ok.copy x is (c.in-Ok.ensures.copied told)
