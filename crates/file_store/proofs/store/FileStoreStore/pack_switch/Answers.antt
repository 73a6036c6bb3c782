use Rattle.std.proofs.Common.{◌≡◌, false, Option, option_map, ap, length, refl, sym, ◌∙◌}
use Rattle.zb_volume.specs.declared.areas.Area.TheVariants.{Main, Side, Hint}
use Rattle.zb_volume.specs.Disk.{seen}
use Rattle.zb_volume.specs.Moments.{StaysAs}
use Rattle.zb_model.specs.declared.packs.Packed.{Packed}
use Rattle.pack_copy.specs.Copying.{CopyKept}
use Rattle.file_store.specs.declared.switching.Switched.{Switched}
use Rattle.fs_records.specs.Listed.{listed}
use Rattle.file_store.specs.declared.staged.Staged.{Staged}
use Rattle.file_store.specs.Kept.{HasRoomForTally, IsCopyKept, IsVotedIn}
use Rattle.file_store.proofs.Commits.{none_staged, none_there}
use Rattle.file_store.proofs.Copies.{copy_is}
use Rattle.file_store.proofs.Packs.{switched_list, unbroken, unless_less}
use Rattle.file_store.proofs.Shown.{newest_is}
use Rattle.file_store.proofs.Hints.{hinted_closed, hinted_or, whole_before, stays_honest}
use Rattle.file_store.proofs.Leaves.{switch_leaves}
use Rattle.file_store.proofs.Sides.{begun_of, kept_stays, list_stays, settled_stays, voted_stays}
use Rattle.file_store.proofs.Sources.{known_none}
use Rattle.file_store.proofs.store.FileStoreStore.pack_switch.Goals as goal

pub pack_file-requires-clause-copied : goal.pack_file-requires-clause-copied
pack_file-requires-clause-copied g c = λ told.
    let self = c.args.self.now in
    copy_is (seen (g.V.Volume.state self.volume).log Side) c.in-Some.copy (self.copied told c.requires.whole c.in-Some.copy (sym c.take.ensures.value ∙ c.in-Some.is))

-- Main, unless a call of the volume failed
stays : (g : _) (c : goal.After-eq-self g) → g.V.Volume.told → c.eq-self.result ≡ false → StaysAs Main (g.V.Volume.state c.args.self.now.volume).log (g.V.Volume.state c.pack_file.new.volume).log
stays g c told whole = unbroken Switched c.in-Err.error c.eq-self.result _ c.eq-self.ensures whole (c.in-Err.ensures.writes told).main

-- and so does Hint
hint_stays : (g : _) (c : goal.After-eq-self g) → g.V.Volume.told → c.eq-self.result ≡ false → StaysAs Hint (g.V.Volume.state c.args.self.now.volume).log (g.V.Volume.state c.pack_file.new.volume).log
hint_stays g c told whole = unbroken Switched c.in-Err.error c.eq-self.result _ c.eq-self.ensures whole (c.in-Err.ensures.writes told).unclosed

pub invariant_of-self-in-Err : goal.invariant_of-self-in-Err
invariant_of-self-in-Err g c =
    let self = c.args.self.now in
    let log = (g.V.Volume.state self.volume).log in
    let now = (g.V.Volume.state c.pack_file.new.volume).log in
    record {
      room = self.room;
      settled = λ told whole. settled_stays log now (stays g c told whole) (self.settled told c.requires.whole);
      kept = λ told whole. kept_stays log now (stays g c told whole) self.index self.numbers (self.kept told c.requires.whole);
      voted = λ told whole. voted_stays log now (stays g c told whole) self.index (self.voted told c.requires.whole);
      copied = λ told whole. none_there CopyKept (λ x. IsCopyKept (seen now Side) x) c.take.new.self c.take.ensures.after;
      outlined = λ told whole x some. absurd cc;
      known = λ told whole. known_none _ c.forget.new.self c.forget.ensures;
      hint = λ told.
          let was = whole_before log self.broken self.index.end c.requires.whole (self.hint told) in
          hinted_or log now _ self.index.end was ((c.pack_file.ensures.writes told).hint (was.settled refl) was.honest) (λ whole. hint_stays g c told whole);
    }

pub invariant_of-self-in-Ok : goal.invariant_of-self-in-Ok
invariant_of-self-in-Ok g c =
    let now = (g.V.Volume.state c.pack_file.new.volume).log in
    let index = c.keep-ready.result.index in
    record {
      room = none_there Staged (λ x. HasRoomForTally c.keep-ready.result.numbers (length x.records)) index.staged c.keep-ready.ensures.free;
      settled = λ told whole. (c.in-Ok.ensures.packed told).settled;
      kept = λ told whole. let is = c.in-Ok.ensures.packed told in c.keep-ready.ensures.kept (seen now Main) is.whole is.fits is.long;
      voted = λ told whole. none_there Staged (λ x. IsVotedIn (seen now Main) x index) index.staged c.keep-ready.ensures.free;
      copied = λ told whole. none_there CopyKept (λ x. IsCopyKept (seen now Side) x) c.take.new.self c.take.ensures.after;
      outlined = λ told whole x some. absurd cc;
      known = λ told whole. known_none _ c.forget.new.self c.forget.ensures;
      hint = λ told.
          let log = (g.V.Volume.state c.args.self.now.volume).log in
          let was = whole_before log c.args.self.now.broken c.args.self.now.index.end c.requires.whole (c.args.self.now.hint told) in
          let shut = (c.in-Ok.ensures.writes told).closed (was.settled refl) in
          hinted_closed now index.end shut.0 shut.1;
    }

pub returns-in-Ok-clause-list : goal.returns-in-Ok-clause-list
returns-in-Ok-clause-list g c = λ told.
    let log = (g.V.Volume.state c.args.self.now.volume).log in
    switched_list c.args.self.now.copy c.in-Some.copy (seen log Side) c.args.keep.now (listed (seen log Main)) _ (sym c.take.ensures.value ∙ c.in-Some.is) (c.in-Ok.ensures.packed told).list_is

pub returns-in-Ok-clause-number : goal.returns-in-Ok-clause-number
returns-in-Ok-clause-number g c = λ told.
    let main = seen (g.V.Volume.state c.pack_file.new.volume).log Main in
    let is = c.in-Ok.ensures.packed told in
    newest_is main c.keep-ready.result.index c.keep-ready.result.numbers (c.keep-ready.ensures.kept main is.whole is.fits is.long)

pub returns-in-Ok-clause-leaves : goal.returns-in-Ok-clause-leaves
returns-in-Ok-clause-leaves g c = switch_leaves _ _ _ _ (ap (option_map _) c.keep-ready.ensures.free ∙ sym c.requires.free)
    (ap (λ (o : Option CopyKept). begun_of o (seen (g.V.Volume.state c.pack_file.new.volume).log Side)) c.take.ensures.after) (λ told. tt) tt

pub returns-in-Err-clause-leaves : goal.returns-in-Err-clause-leaves
returns-in-Err-clause-leaves g c = switch_leaves _ _ _ _ (ap (option_map _) (none_staged c.args.self.now.index.staged _ c.requires.free) ∙ sym c.requires.free)
    (ap (λ (o : Option CopyKept). begun_of o (seen (g.V.Volume.state c.pack_file.new.volume).log Side)) c.take.ensures.after)
    (λ told. unless_less Switched Packed c.in-Err.error _ _ (λ stays. list_stays (g.V.Volume.state c.args.self.now.volume).log (g.V.Volume.state c.pack_file.new.volume).log stays) (c.in-Err.ensures.writes told).main) refl

pub returns-in-Ok-clause-writes : goal.returns-in-Ok-clause-writes
returns-in-Ok-clause-writes g c = λ told.
    let self = c.args.self.now in
    let log = (g.V.Volume.state self.volume).log in
    let was = whole_before log self.broken self.index.end c.requires.whole (self.hint told) in
    let is = c.in-Ok.ensures.packed told in
    record { main = tt; side = is.side; text = is.full; hint = stays_honest _ _ ((c.pack_file.ensures.writes told).hint (was.settled refl) was.honest) }

pub returns-in-Err-clause-writes : goal.returns-in-Err-clause-writes
returns-in-Err-clause-writes g c = λ told.
    let self = c.args.self.now in
    let log = (g.V.Volume.state self.volume).log in
    let was = whole_before log self.broken self.index.end c.requires.whole (self.hint told) in
    record { main = unless_less Switched Packed c.in-Err.error _ _ (λ stays. stays) (c.in-Err.ensures.writes told).main; side = tt; text = tt; hint = stays_honest _ _ ((c.pack_file.ensures.writes told).hint (was.settled refl) was.honest) }
