use Rattle.std.proofs.Common.{refl, rules, option_map, length, Some, sym, ap, subst, ◌∙◌, arith}
use Rattle.zb_volume.specs.declared.areas.Area.TheVariants.{Main}
use Rattle.zb_volume.specs.Disk.{seen}
use Rattle.zb_volume.specs.Moments.{here}
use Rattle.fs_records.specs.Listed.{reached_in}
use Rattle.file_store.specs.declared.staged.Staged.{Staged}
use Rattle.file_store.specs.Kept.{HasRoomForTally, IsVotedIn, voted_in}
use Rattle.file_store.proofs.Commits.{unmoved, none_staged, none_there, some_same, room_for, vote_is, voted, moments, vote_written}
use Rattle.file_store.proofs.Writes.{Voted, staged_for}
use Rattle.file_store.specs.Staging.{StagedKept}
use Rattle.file_store.proofs.Hints.{at_last, fronts_stay, hinted_broken, hinted_on, whole_before, no_call_honest, stays_honest}
use Rattle.file_store.proofs.Leaves.{vote_leaves}
use Rattle.file_store.proofs.Sides.{copied_stays, keeps_begun}
use Rattle.file_store.proofs.Sources.{known_voted, whole_main}
use Rattle.file_store.proofs.store.FileStoreStore.vote.Goals as goal

pub returns-in_err-text-clause-any_moment : goal.returns-in_err-text-clause-any_moment
returns-in_err-text-clause-any_moment g c = λ told.
    let self = c.args.self.now in
    unmoved (g.V.Volume.state self.volume).log self.index self.numbers (self.settled told c.requires.whole) (self.kept told c.requires.whole)

pub returns-in-Err-clause-any_moment : goal.returns-in-Err-clause-any_moment
returns-in-Err-clause-any_moment g c = λ told.
    let self = c.args.self.now in
    let free = none_staged self.index.staged _ c.requires.free in
    let p = c.in_ok-text.ensures.prepared in
    moments (g.V.Volume.state self.volume).log self.index self.numbers (self.settled told c.requires.whole) (self.kept told c.requires.whole) (g.V.Volume.state c.vote.new.volume).log
    (c.vote.ensures.any_moment told (reached_in (seen (g.V.Volume.state self.volume).log Main))
    (vote_is (g.V.Volume.state self.volume).log self.index self.numbers (self.settled told c.requires.whole) (self.kept told c.requires.whole) c.prepare.new.index c.prepare.new.numbers c.args.new.now c.end.result c.in_ok-text.text c.as_slice.result.now free p (c.end.ensures.value ∙ c.prepare.ensures.end) c.as_slice.ensures.value))

-- a call of the volume failed
pub invariant_of-self-in-Err : goal.invariant_of-self-in-Err
invariant_of-self-in-Err g c =
    let self = c.args.self.now in
    record {
      room = none_there Staged (λ x. HasRoomForTally c.prepare.new.numbers (length x.records)) c.take_back.new.self.staged (ap (λ (i : StagedKept). i.staged) c.take_back.ensures);
      settled = λ told whole. absurd cc;
      kept = λ told whole. absurd cc;
      voted = λ told whole. absurd cc;
      copied = λ told whole. absurd cc;
      outlined = λ told whole x some. absurd cc;
      known = λ told whole. absurd cc;
      hint = λ told.
          let log = (g.V.Volume.state self.volume).log in
          let new = (g.V.Volume.state c.vote.new.volume).log in
          let was = whole_before log self.broken self.index.end c.requires.whole (self.hint told) in
          hinted_broken new c.take_back.new.self.end (at_last log new (fronts_stay log new self.index.end c.end.result (self.settled told c.requires.whole) was (c.end.ensures.value ∙ c.prepare.ensures.end) (c.vote.ensures.front told) (c.vote.ensures.hint told)));
    }

-- what the vote leaves
leaves : (g : _) (c : goal.In-Ok g) → g.V.Volume.told → Voted (seen (g.V.Volume.state c.args.self.now.volume).log Main) (seen (g.V.Volume.state c.vote.new.volume).log Main) c.prepare.new.index c.prepare.new.numbers (staged_for c.args.self.now.index c.args.new.now c.in_ok-text.text) c.args.new.now
leaves g c = λ told.
    let self = c.args.self.now in
    let free = none_staged self.index.staged _ c.requires.free in
    let p = c.in_ok-text.ensures.prepared in
    voted (g.V.Volume.state self.volume).log self.index self.numbers (self.settled told c.requires.whole) (self.kept told c.requires.whole) (g.V.Volume.state c.vote.new.volume).log c.prepare.new.index c.prepare.new.numbers c.args.new.now c.end.result c.in_ok-text.text c.as_slice.result.now free p c.end.ensures.value c.as_slice.ensures.value c.as_slice.ensures.bytes
    c.in_ok-text.ensures.next (c.requires.votable told) c.prepare.ensures.end c.prepare.ensures.newest c.prepare.ensures.places c.prepare.ensures.starts c.prepare.ensures.tallies c.prepare.ensures.greatest c.prepare.ensures.pack_point (c.in-Ok.ensures.content told)

pub invariant_of-self-2 : goal.invariant_of-self-2
invariant_of-self-2 g c =
    let self = c.args.self.now in
    let p = c.in_ok-text.ensures.prepared in
    record {
      room = room_for c.prepare.new.numbers c.prepare.new.index.staged self.index c.args.new.now c.in_ok-text.text p.staged_is p.room;
      settled = λ told whole. c.in-Ok.ensures.settled told;
      kept = λ told whole. (leaves g c told).kept;
      voted = λ told whole s some. subst (λ (x : Staged). IsVotedIn (seen (g.V.Volume.state c.vote.new.volume).log Main) x c.prepare.new.index) (sym (some_same Staged c.prepare.new.index.staged _ s p.staged_is some)) (leaves g c told).voted;
      copied = λ told whole. copied_stays (g.V.Volume.state self.volume).log (g.V.Volume.state c.vote.new.volume).log self.copy (c.vote.ensures.side told) (self.copied told c.requires.whole);
      outlined = λ told whole x some. absurd cc;
      known = λ told whole.
          let log = (g.V.Volume.state self.volume).log in
          let free = none_staged self.index.staged _ c.requires.free in
          known_voted (seen log Main) (seen (g.V.Volume.state c.vote.new.volume).log Main) c.as_slice.result.now c.end.result self.index.end c.prepare.new.index.end self.sources (whole_main (seen log Main) self.index self.numbers (self.kept told c.requires.whole) free) (c.end.ensures.value ∙ c.prepare.ensures.end) c.prepare.ensures.end (c.in-Ok.ensures.content told) (self.known told c.requires.whole);
      hint = λ told.
          let log = (g.V.Volume.state self.volume).log in
          let new = (g.V.Volume.state c.vote.new.volume).log in
          let was = whole_before log self.broken self.index.end c.requires.whole (self.hint told) in
          hinted_on log new self.index.end c.prepare.new.index.end was (omega (arith, c.prepare.ensures.end)) (fronts_stay log new self.index.end c.end.result (self.settled told c.requires.whole) was (c.end.ensures.value ∙ c.prepare.ensures.end) (c.vote.ensures.front told) (c.vote.ensures.hint told)) (c.vote.ensures.hint told);
    }

-- the same where the call returns
left : (g : _) (c : goal.After-drop-text-inside-2 g) → g.V.Volume.told → Voted (seen (g.V.Volume.state c.args.self.now.volume).log Main) (seen (g.V.Volume.state c.vote.new.volume).log Main) c.prepare.new.index c.prepare.new.numbers (staged_for c.args.self.now.index c.args.new.now c.in_ok-text.text) c.args.new.now
left g c = λ told.
    let self = c.args.self.now in
    let free = none_staged self.index.staged _ c.requires.free in
    let p = c.in_ok-text.ensures.prepared in
    voted (g.V.Volume.state self.volume).log self.index self.numbers (self.settled told c.requires.whole) (self.kept told c.requires.whole) (g.V.Volume.state c.vote.new.volume).log c.prepare.new.index c.prepare.new.numbers c.args.new.now c.end.result c.in_ok-text.text c.as_slice.result.now free p c.end.ensures.value c.as_slice.ensures.value c.as_slice.ensures.bytes
    c.in_ok-text.ensures.next (c.requires.votable told) c.prepare.ensures.end c.prepare.ensures.newest c.prepare.ensures.places c.prepare.ensures.starts c.prepare.ensures.tallies c.prepare.ensures.greatest c.prepare.ensures.pack_point (c.in-Ok.ensures.content told)

pub returns-clause-voted : goal.returns-clause-voted
returns-clause-voted g c = λ told.
    let p = c.in_ok-text.ensures.prepared in
    ap (option_map (λ (s : Staged). voted_in s.tid c.prepare.new.index.end (seen (g.V.Volume.state c.vote.new.volume).log Main))) p.staged_is ∙ ap Some (left g c told).is

pub returns-clause-any_moment : goal.returns-clause-any_moment
returns-clause-any_moment g c = λ told.
    let self = c.args.self.now in
    let free = none_staged self.index.staged _ c.requires.free in
    let p = c.in_ok-text.ensures.prepared in
    moments (g.V.Volume.state self.volume).log self.index self.numbers (self.settled told c.requires.whole) (self.kept told c.requires.whole) (g.V.Volume.state c.vote.new.volume).log
    (c.vote.ensures.any_moment told (reached_in (seen (g.V.Volume.state self.volume).log Main))
    (vote_is (g.V.Volume.state self.volume).log self.index self.numbers (self.settled told c.requires.whole) (self.kept told c.requires.whole) c.prepare.new.index c.prepare.new.numbers c.args.new.now c.end.result c.in_ok-text.text c.as_slice.result.now free p (c.end.ensures.value ∙ c.prepare.ensures.end) c.as_slice.ensures.value))

pub returns-clause-leaves : goal.returns-clause-leaves
returns-clause-leaves g c = vote_leaves _ _ _ _ c.prepare.ensures.newest
    (keeps_begun g.V.Volume.told (g.V.Volume.state c.args.self.now.volume).log (g.V.Volume.state c.vote.new.volume).log c.args.self.now.copy _ _ refl refl (λ told. c.vote.ensures.side told))
    (λ told. (left g c told).list) tt

pub returns-in-Err-clause-leaves : goal.returns-in-Err-clause-leaves
returns-in-Err-clause-leaves g c = vote_leaves _ _ _ _ (ap (λ (i : StagedKept). i.newest) c.take_back.ensures ∙ c.prepare.ensures.newest)
    (keeps_begun g.V.Volume.told (g.V.Volume.state c.args.self.now.volume).log (g.V.Volume.state c.vote.new.volume).log c.args.self.now.copy _ _ refl refl (λ told. c.vote.ensures.side told))
    (λ told. tt) tt

pub returns-in_err-text-clause-writes : goal.returns-in_err-text-clause-writes
returns-in_err-text-clause-writes g c = λ told.
    let self = c.args.self.now in
    let log = (g.V.Volume.state self.volume).log in
    let was = whole_before log self.broken self.index.end c.requires.whole (self.hint told) in
    record { side = here refl; text = search rules; hint = no_call_honest log was.honest }

pub returns-in-Err-clause-writes : goal.returns-in-Err-clause-writes
returns-in-Err-clause-writes g c = λ told.
    let self = c.args.self.now in
    let log = (g.V.Volume.state self.volume).log in
    let new = (g.V.Volume.state c.vote.new.volume).log in
    let was = whole_before log self.broken self.index.end c.requires.whole (self.hint told) in
    record {
      side = c.vote.ensures.side told;
      text = tt;
      hint = stays_honest _ _ (fronts_stay log new self.index.end c.end.result (self.settled told c.requires.whole) was (c.end.ensures.value ∙ c.prepare.ensures.end) (c.vote.ensures.front told) (c.vote.ensures.hint told));
    }

pub returns-clause-writes : goal.returns-clause-writes
returns-clause-writes g c = λ told.
    let self = c.args.self.now in
    let log = (g.V.Volume.state self.volume).log in
    let new = (g.V.Volume.state c.vote.new.volume).log in
    let was = whole_before log self.broken self.index.end c.requires.whole (self.hint told) in
    let free = none_staged self.index.staged _ c.requires.free in
    record {
      side = c.vote.ensures.side told;
      text = vote_written log self.index self.numbers (self.settled told c.requires.whole) (self.kept told c.requires.whole) new c.prepare.new.index c.prepare.new.numbers c.args.new.now c.end.result c.in_ok-text.text c.as_slice.result.now free c.in_ok-text.ensures.prepared (c.end.ensures.value ∙ c.prepare.ensures.end) c.as_slice.ensures.value (c.in-Ok.ensures.content told);
      hint = stays_honest _ _ (fronts_stay log new self.index.end c.end.result (self.settled told c.requires.whole) was (c.end.ensures.value ∙ c.prepare.ensures.end) (c.vote.ensures.front told) (c.vote.ensures.hint told));
    }
