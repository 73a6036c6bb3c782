use Rattle.std.proofs.Common.{◌+◌, refl, ap, length, ◌∙◌, arith}
use Rattle.zb_volume.specs.declared.areas.Area.TheVariants.{Main}
use Rattle.zb_volume.specs.Disk.{seen}
use Rattle.zb_volume.specs.Moments.{Along}
use Rattle.zb_model.specs.declared.data.Transaction.{Transaction}
use Rattle.file_store.specs.declared.staged.Staged.{Staged}
use Rattle.file_store.specs.Hinting.{LeavesOfFront}
use Rattle.file_store.specs.Kept.{IsVotedIn, HasRoomForTally}
use Rattle.file_store.proofs.Commits.{staged_some, some_mapped, none_there, finish_moments, finished, finish_written}
use Rattle.file_store.proofs.Hints.{at_last, finishing, hinted_broken, hinted_on, whole_before, stays_honest}
use Rattle.file_store.proofs.Leaves.{finish_leaves}
use Rattle.file_store.proofs.Sides.{copied_stays, keeps_begun}
use Rattle.file_store.proofs.Sources.{known_finished}
use Rattle.file_store.proofs.store.FileStoreStore.finish.Goals as goal
use Rattle.file_store.proofs.store.FileStoreStore.finish.Goals.{After-finish}

pub finish-requires-clause-within : goal.finish-requires-clause-within
finish-requires-clause-within g c = λ told.
    let self = c.args.self.now in
    let s = staged_some self.index.staged _ c.requires.voted in
    let v = self.voted told c.requires.whole s.0 s.1 in
    omega (arith, c.end.ensures.value, v.long)

pub returns-in_err-finish-clause-any_moment : goal.returns-in_err-finish-clause-any_moment
returns-in_err-finish-clause-any_moment g c = λ told t is.
    let self = c.args.self.now in
    let s = some_mapped Staged Transaction self.index.staged _ t is in
    finish_moments (g.V.Volume.state self.volume).log self.index self.numbers (self.settled told c.requires.whole) (self.kept told c.requires.whole) (g.V.Volume.state c.finish.new.volume).log s.0 t c.end.result s.1
    (self.voted told c.requires.whole s.0 s.1) c.end.ensures.value s.2 (c.finish.ensures.any_moment told (self.settled told c.requires.whole))

-- what a crash leaves of Main keeps the front
fronts : (g : _) (c : After-finish g) → g.V.Volume.told → Along LeavesOfFront (g.V.Volume.state c.args.self.now.volume).log (g.V.Volume.state c.finish.new.volume).log
fronts g c told =
    let self = c.args.self.now in
    let log = (g.V.Volume.state self.volume).log in
    let was = whole_before log self.broken self.index.end c.requires.whole (self.hint told) in
    finishing log (g.V.Volume.state c.finish.new.volume).log self.index.end c.end.result (self.settled told c.requires.whole) was c.end.ensures.value (c.finish.ensures.any_moment told) (c.finish.ensures.hint told)

-- a call of the volume failed
pub invariant_of-self : goal.invariant_of-self
invariant_of-self g c = record {
  room = c.args.self.now.room;
  settled = λ told whole. absurd cc;
  kept = λ told whole. absurd cc;
  voted = λ told whole. absurd cc;
  copied = λ told whole. absurd cc;
  outlined = λ told whole x some. absurd cc;
  known = λ told whole. absurd cc;
  hint = λ told. hinted_broken _ c.args.self.now.index.end (at_last _ _ (fronts g (goal.at.invariant_of-self g c).After-finish told));
}

pub invariant_of-self-2 : goal.invariant_of-self-2
invariant_of-self-2 g c =
    let self = c.args.self.now in
    let s = staged_some self.index.staged _ c.requires.voted in
    let k = c.keep.ensures.kept s.0 s.1 in
    let none = c.keep.ensures.staged in
    record {
      room = none_there Staged (λ x. HasRoomForTally c.count_staged.new.numbers (length x.records)) c.keep.new.self.staged none;
      settled = λ told whole. c.in_ok-finish.ensures.settled told;
      kept = λ told whole.
          finished (g.V.Volume.state self.volume).log self.index self.numbers (self.settled told c.requires.whole) (self.kept told c.requires.whole) (g.V.Volume.state c.finish.new.volume).log c.keep.new.self c.count_staged.new.numbers s.0 c.end.result s.1
          (self.voted told c.requires.whole s.0 s.1) c.end.ensures.value (c.in_ok-finish.ensures.content told) none k (c.count_staged.ensures s.0 s.1);
      voted = λ told whole. none_there Staged (λ x. IsVotedIn (seen (g.V.Volume.state c.finish.new.volume).log Main) x c.keep.new.self) c.keep.new.self.staged none;
      copied = λ told whole. copied_stays (g.V.Volume.state self.volume).log (g.V.Volume.state c.finish.new.volume).log self.copy (c.finish.ensures.side told) (self.copied told c.requires.whole);
      outlined = λ told whole x some. absurd cc;
      known = λ told whole.
          known_finished (seen (g.V.Volume.state self.volume).log Main) (seen (g.V.Volume.state c.finish.new.volume).log Main) self.index.end c.keep.new.self.end (c.end.result + 16) 32 self.sources c.keep.ensures.end (omega (arith, c.end.ensures.value)) (c.in_ok-finish.ensures.content told) (self.known told c.requires.whole);
      hint = λ told.
          let was = whole_before _ self.broken self.index.end c.requires.whole (self.hint told) in
          hinted_on _ _ self.index.end c.keep.new.self.end was c.keep.ensures.end (fronts g (goal.at.invariant_of-self-2 g c).After-finish told) (c.finish.ensures.hint told);
    }

pub returns-clause-any_moment : goal.returns-clause-any_moment
returns-clause-any_moment g c = λ told t is.
    let self = c.args.self.now in
    let s = some_mapped Staged Transaction self.index.staged _ t is in
    finish_moments (g.V.Volume.state self.volume).log self.index self.numbers (self.settled told c.requires.whole) (self.kept told c.requires.whole) (g.V.Volume.state c.finish.new.volume).log s.0 t c.end.result s.1
    (self.voted told c.requires.whole s.0 s.1) c.end.ensures.value s.2 (c.finish.ensures.any_moment told (self.settled told c.requires.whole))

pub returns-clause-number : goal.returns-clause-number
returns-clause-number g c = λ t is.
    let s = some_mapped Staged Transaction c.args.self.now.index.staged _ t is in
    (c.keep.ensures.kept s.0 s.1).newest ∙ ap (λ (x : Transaction). x.tid) s.2

pub returns-clause-leaves : goal.returns-clause-leaves
returns-clause-leaves g c = finish_leaves _ _ _ c.finish.ensures.write.read_faults
    (keeps_begun g.V.Volume.told (g.V.Volume.state c.args.self.now.volume).log (g.V.Volume.state c.finish.new.volume).log c.args.self.now.copy _ _ refl refl (λ told. c.finish.ensures.side told))

pub returns-in_err-finish-clause-leaves : goal.returns-in_err-finish-clause-leaves
returns-in_err-finish-clause-leaves g c = finish_leaves _ _ _ c.finish.ensures.write.read_faults
    (keeps_begun g.V.Volume.told (g.V.Volume.state c.args.self.now.volume).log (g.V.Volume.state c.finish.new.volume).log c.args.self.now.copy _ _ refl refl (λ told. c.finish.ensures.side told))

pub returns-in_err-finish-clause-hint : goal.returns-in_err-finish-clause-hint
returns-in_err-finish-clause-hint g c = λ told. stays_honest _ _ (fronts g (goal.at.returns-in_err-finish-clause-hint g c).After-finish told)

pub returns-clause-hint : goal.returns-clause-hint
returns-clause-hint g c = λ told. stays_honest _ _ (fronts g (goal.at.returns-clause-hint g c).After-finish told)

pub returns-clause-text : goal.returns-clause-text
returns-clause-text g c = λ told.
    let self = c.args.self.now in
    finish_written (g.V.Volume.state self.volume).log self.index self.numbers (self.settled told c.requires.whole) (self.kept told c.requires.whole) (g.V.Volume.state c.finish.new.volume).log c.end.result c.end.ensures.value (c.in_ok-finish.ensures.content told)
