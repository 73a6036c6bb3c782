use Rattle.std.proofs.Common.{◌≡◌, ℕ, None, refl, ap, length, arith}
use Rattle.std.proofs.lemmas.Result.{err_from_is_err_and}
use Rattle.zb_volume.specs.declared.areas.Area.TheVariants.{Main}
use Rattle.zb_volume.specs.Disk.{seen}
use Rattle.zb_volume.specs.Moments.{Along}
use Rattle.file_store.specs.declared.staged.Staged.{Staged}
use Rattle.file_store.specs.Hinting.{LeavesOfFront}
use Rattle.file_store.specs.Kept.{IsVotedIn, HasRoomForTally}
use Rattle.fs_index.specs.Places.{places_in}
use Rattle.file_store.specs.Staging.{StagedKept}
use Rattle.file_store.proofs.Commits.{staged_some, none_there, abort_moments, aborted, abort_written}
use Rattle.file_store.proofs.Hints.{at_last, fronts_stay, hinted_broken, hinted_on, whole_before, stays_honest}
use Rattle.file_store.proofs.Leaves.{abort_leaves, not_answered}
use Rattle.file_store.proofs.Sides.{copied_stays, keeps_begun}
use Rattle.file_store.proofs.Sources.{known_aborted}
use Rattle.file_store.proofs.store.FileStoreStore.abort.Goals as goal
use Rattle.file_store.proofs.store.FileStoreStore.abort.Goals.{After-abort}

-- what is left once what is staged is dropped
abbrev dropped : StagedKept → StagedKept → Type 0
dropped old new = new ≡ record old { staged = None }

staged_of : (old new : StagedKept) → dropped old new → new.staged ≡ None
staged_of old new is = ap (λ (i : StagedKept). i.staged) is

end_of : (old new : StagedKept) → dropped old new → new.end ≡ old.end
end_of old new is = ap (λ (i : StagedKept). i.end) is

newest_of : (old new : StagedKept) → dropped old new → new.newest ≡ old.newest
newest_of old new is = ap (λ (i : StagedKept). i.newest) is

places_of : (old new : StagedKept) → dropped old new → (oid : ℕ) → places_in new.kept.entries oid ≡ places_in old.kept.entries oid
places_of old new is oid = ap (λ (i : StagedKept). places_in i.kept.entries oid) is

starts_of : (old new : StagedKept) → dropped old new → new.kept.transactions ≡ old.kept.transactions
starts_of old new is = ap (λ (i : StagedKept). i.kept.transactions) is

pub abort-requires-clause-within : goal.abort-requires-clause-within
abort-requires-clause-within g c = λ told.
    let self = c.args.self.now in
    let s = staged_some self.index.staged _ c.requires.voted in
    let v = self.voted told c.requires.whole s.0 s.1 in
    omega (arith, c.end.ensures.value, v.long)

pub returns-in_err-abort-clause-any_moment : goal.returns-in_err-abort-clause-any_moment
returns-in_err-abort-clause-any_moment g c = λ told.
    let self = c.args.self.now in
    let s = staged_some self.index.staged _ c.requires.voted in
    abort_moments (g.V.Volume.state self.volume).log self.index self.numbers (self.settled told c.requires.whole) (self.kept told c.requires.whole) (g.V.Volume.state c.abort.new.volume).log s.0 c.end.result s.1
    (self.voted told c.requires.whole s.0 s.1) c.end.ensures.value (c.abort.ensures.any_moment told)

-- what a crash leaves of Main keeps the front
fronts : (g : _) (c : After-abort g) → g.V.Volume.told → Along LeavesOfFront (g.V.Volume.state c.args.self.now.volume).log (g.V.Volume.state c.abort.new.volume).log
fronts g c told =
    let self = c.args.self.now in
    let log = (g.V.Volume.state self.volume).log in
    let was = whole_before log self.broken self.index.end c.requires.whole (self.hint told) in
    fronts_stay log (g.V.Volume.state c.abort.new.volume).log self.index.end c.end.result (self.settled told c.requires.whole) was c.end.ensures.value (c.abort.ensures.front told) (c.abort.ensures.hint told)

-- a call of the volume failed
pub invariant_of-self : goal.invariant_of-self
invariant_of-self g c = record {
  room = c.args.self.now.room;
  settled = λ told whole. absurd cc;
  kept = λ told whole. absurd cc;
  voted = λ told whole. absurd cc;
  copied = λ told whole. absurd cc;
  outlined = λ told whole x some. absurd cc;
  known = λ told whole. absurd cc;
  hint = λ told. hinted_broken _ c.args.self.now.index.end (at_last _ _ (fronts g (goal.at.invariant_of-self g c).After-abort told));
}

pub invariant_of-self-2 : goal.invariant_of-self-2
invariant_of-self-2 g c =
    let self = c.args.self.now in
    let s = staged_some self.index.staged _ c.requires.voted in
    let t = c.take_back.ensures in
    record {
      room = none_there Staged (λ x. HasRoomForTally self.numbers (length x.records)) c.take_back.new.self.staged (staged_of self.index c.take_back.new.self t);
      settled = λ told whole. c.in_ok-abort.ensures.settled told;
      kept = λ told whole.
          (aborted (g.V.Volume.state self.volume).log self.index self.numbers (self.settled told c.requires.whole) (self.kept told c.requires.whole) (g.V.Volume.state c.abort.new.volume).log c.take_back.new.self s.0 c.end.result s.1
          (self.voted told c.requires.whole s.0 s.1) c.end.ensures.value (c.in_ok-abort.ensures.content told) (staged_of self.index c.take_back.new.self t) (end_of self.index c.take_back.new.self t) (newest_of self.index c.take_back.new.self t) (places_of self.index c.take_back.new.self t) (starts_of self.index c.take_back.new.self t)).0;
      voted = λ told whole. none_there Staged (λ x. IsVotedIn (seen (g.V.Volume.state c.abort.new.volume).log Main) x c.take_back.new.self) c.take_back.new.self.staged (staged_of self.index c.take_back.new.self t);
      copied = λ told whole. copied_stays (g.V.Volume.state self.volume).log (g.V.Volume.state c.abort.new.volume).log self.copy (c.abort.ensures.side told) (self.copied told c.requires.whole);
      outlined = λ told whole x some. absurd cc;
      known = λ told whole.
          known_aborted (seen (g.V.Volume.state self.volume).log Main) (seen (g.V.Volume.state c.abort.new.volume).log Main) c.end.result self.index.end c.take_back.new.self.end self.sources c.end.ensures.value (end_of self.index c.take_back.new.self t) (c.in_ok-abort.ensures.content told) (self.known told c.requires.whole);
      hint = λ told.
          let was = whole_before _ self.broken self.index.end c.requires.whole (self.hint told) in
          hinted_on _ _ self.index.end c.take_back.new.self.end was (omega (arith, end_of self.index c.take_back.new.self t)) (fronts g (goal.at.invariant_of-self-2 g c).After-abort told) (c.abort.ensures.hint told);
    }

pub returns-clause-leaves : goal.returns-clause-leaves
returns-clause-leaves g c = abort_leaves _ _ _ _ (newest_of c.args.self.now.index c.take_back.new.self c.take_back.ensures) c.abort.ensures.write.read_faults
    (keeps_begun g.V.Volume.told (g.V.Volume.state c.args.self.now.volume).log (g.V.Volume.state c.abort.new.volume).log c.args.self.now.copy _ _ refl refl (λ told. c.abort.ensures.side told)) (λ told.
    let self = c.args.self.now in
    let s = staged_some self.index.staged _ c.requires.voted in
    let t = c.take_back.ensures in
    (aborted (g.V.Volume.state self.volume).log self.index self.numbers (self.settled told c.requires.whole) (self.kept told c.requires.whole) (g.V.Volume.state c.abort.new.volume).log c.take_back.new.self s.0 c.end.result s.1
    (self.voted told c.requires.whole s.0 s.1) c.end.ensures.value (c.in_ok-abort.ensures.content told) (staged_of self.index c.take_back.new.self t) (end_of self.index c.take_back.new.self t) (newest_of self.index c.take_back.new.self t) (places_of self.index c.take_back.new.self t) (starts_of self.index c.take_back.new.self t)).1)

pub returns-clause-any_moment : goal.returns-clause-any_moment
returns-clause-any_moment g c = λ told.
    let self = c.args.self.now in
    let s = staged_some self.index.staged _ c.requires.voted in
    abort_moments (g.V.Volume.state self.volume).log self.index self.numbers (self.settled told c.requires.whole) (self.kept told c.requires.whole) (g.V.Volume.state c.abort.new.volume).log s.0 c.end.result s.1
    (self.voted told c.requires.whole s.0 s.1) c.end.ensures.value (c.abort.ensures.any_moment told)

pub returns-in_err-abort-clause-leaves : goal.returns-in_err-abort-clause-leaves
returns-in_err-abort-clause-leaves g c =
    let p = err_from_is_err_and c.from_residual.result c.from_residual.ensures.1 in
    abort_leaves _ _ _ _ refl c.abort.ensures.write.read_faults
    (keeps_begun g.V.Volume.told (g.V.Volume.state c.args.self.now.volume).log (g.V.Volume.state c.abort.new.volume).log c.args.self.now.copy _ _ refl refl (λ told. c.abort.ensures.side told))
    (λ told. not_answered c.from_residual.result p.0 _ p.1)

pub returns-in_err-abort-clause-hint : goal.returns-in_err-abort-clause-hint
returns-in_err-abort-clause-hint g c = λ told. stays_honest _ _ (fronts g (goal.at.returns-in_err-abort-clause-hint g c).After-abort told)

pub returns-clause-hint : goal.returns-clause-hint
returns-clause-hint g c = λ told. stays_honest _ _ (fronts g (goal.at.returns-clause-hint g c).After-abort told)

pub returns-clause-text : goal.returns-clause-text
returns-clause-text g c = λ told.
    let self = c.args.self.now in
    abort_written (g.V.Volume.state self.volume).log self.index self.numbers (self.settled told c.requires.whole) (self.kept told c.requires.whole) (g.V.Volume.state c.abort.new.volume).log c.end.result c.end.ensures.value (c.in_ok-abort.ensures.content told)
