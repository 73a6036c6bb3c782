use Rattle.std.proofs.Common.{◌≡◌, List, ℕ, refl, rules, sym, ap, subst, ◌∙◌}
use Rattle.std.proofs.lemmas.Result.{err_from_is_err_and}
use Rattle.zb_volume.specs.declared.areas.Area.TheVariants.{Main, Side, Hint}
use Rattle.zb_volume.specs.Disk.{IsSettled, seen}
use Rattle.zb_volume.specs.Moments.{Along, StaysAs}
use Rattle.zb_model.specs.Packing.{packed_by}
use Rattle.zb_model.specs.StayLaws.{stays_then}
use Rattle.fs_records.specs.Listed.{listed}
use Rattle.fs_index.specs.Places.{Kept}
use Rattle.fs_recovery.specs.Numbers.{AreNumbersOf}
use Rattle.fs_index_file.specs.Writes.{IsClosed}
use Rattle.pack_copy.specs.Copying.{IsCopied, IsSource}
use Rattle.file_store.specs.Hinting.{LeavesOfFront}
use Rattle.file_store.proofs.Hints.{at_last, closed_stays, closing, joined_on, keeps_both, seen_hint, stays_settled}
use Rattle.file_store.proofs.Packs.{copy_moments, counted_pack, pack_moments, unclosed, unclosed_counts, unless_refused}
use Rattle.file_store.proofs.Sides.{seen_stays}
use Rattle.file_store.proofs.Switches.{switched}
use Rattle.file_store.proofs.packing.pack_file.Goals as goal
use Rattle.file_store.proofs.packing.pack_file.Goals.{After-close_hint}

-- Main stays until the switch
main : (g : _) (c : After-close_hint g) → g.V.Volume.told → StaysAs Main (g.V.Volume.state c.args.volume.now).log (g.V.Volume.state c.close_hint.new.volume).log
main g c told = stays_then Main _ _ _ (c.copy_rest.ensures.main told) (c.close_hint.ensures.others told Main refl)

-- and so does what was copied
copied : (g : _) (c : After-close_hint g) → g.V.Volume.told → IsCopied (seen (g.V.Volume.state c.close_hint.new.volume).log Side) c.copy_rest.new.to
copied g c told = subst (λ (b : List ℕ). IsCopied b c.copy_rest.new.to) (sym (seen_stays Side _ _ (c.close_hint.ensures.others told Side refl))) (c.in_ok-copy_rest.ensures.copied told)

pub copy_rest-requires-clause-source : goal.copy_rest-requires-clause-source
copy_rest-requires-clause-source g c = λ told. subst (λ (k : Kept). IsSource (seen (g.V.Volume.state c.args.volume.now).log Main) k) (sym c.index.ensures.value) (c.requires.source told)

pub returns-in_err-copy_rest-clause-any_moment : goal.returns-in_err-copy_rest-clause-any_moment
returns-in_err-copy_rest-clause-any_moment g c = λ told.
    let log = (g.V.Volume.state c.args.volume.now).log in
    copy_moments log (g.V.Volume.state c.copy_rest.new.volume).log (c.copy_rest.ensures.main told) (c.requires.settled told) (packed_by c.args.copy.tid c.args.keep.now (listed (seen log Main))) c.args.index.now.kept (c.requires.source told)

pub returns-in_err-close_hint-clause-any_moment : goal.returns-in_err-close_hint-clause-any_moment
returns-in_err-close_hint-clause-any_moment g c = λ told.
    let log = (g.V.Volume.state c.args.volume.now).log in
    copy_moments log (g.V.Volume.state c.close_hint.new.volume).log (main g (goal.at.returns-in_err-close_hint-clause-any_moment g c).After-close_hint told) (c.requires.settled told) (packed_by c.args.copy.tid c.args.keep.now (listed (seen log Main))) c.args.index.now.kept (c.requires.source told)

-- what a crash leaves until the index file is closed
until_closed : (g : _) (c : After-close_hint g) → g.V.Volume.told → IsSettled (g.V.Volume.state c.args.volume.now).log Hint → LeavesOfFront (g.V.Volume.state c.args.volume.now).log
    → Along LeavesOfFront (g.V.Volume.state c.args.volume.now).log (g.V.Volume.state c.close_hint.new.volume).log
until_closed g c told settled honest =
    let first = keeps_both _ _ honest (c.copy_rest.ensures.main told) (c.copy_rest.ensures.hint told) in
    let there = stays_settled _ _ (c.copy_rest.ensures.hint told) settled in
    joined_on _ _ _ first (closing _ _ (at_last _ _ first) there (c.close_hint.ensures.others told Main refl) (c.close_hint.ensures.any_moment told there))

pub returns-in_err-close_hint-clause-faults : goal.returns-in_err-close_hint-clause-faults
returns-in_err-close_hint-clause-faults g c =
    let p = err_from_is_err_and c.from_residual-in_err-close_hint.result c.from_residual-in_err-close_hint.ensures.1 in
    unclosed_counts (g.V.Volume.state c.args.volume.now) (g.V.Volume.state c.copy_rest.new.volume) (g.V.Volume.state c.close_hint.new.volume) c.from_residual-in_err-close_hint.result p.0 c.in_err-close_hint.field-0.0 p.1 p.2 c.in_ok-copy_rest.ensures.counts c.in_err-close_hint.ensures.causes

pub switch-requires-clause-copied : goal.switch-requires-clause-copied
switch-requires-clause-copied g c = λ told. copied g (goal.at.switch-requires-clause-copied g c).After-close_hint told

pub switch-requires-clause-counted : goal.switch-requires-clause-counted
switch-requires-clause-counted g c = λ told. subst (λ (b : List ℕ). AreNumbersOf (listed b) c.args.numbers.now) (sym (seen_stays Main (g.V.Volume.state c.args.volume.now).log (g.V.Volume.state c.close_hint.new.volume).log (main g (goal.at.switch-requires-clause-counted g c).After-close_hint told))) (c.requires.counted told)

-- Side has the packed list
side_list : (g : _) (c : After-close_hint g) → g.V.Volume.told → listed (seen (g.V.Volume.state c.close_hint.new.volume).log Side) ≡ packed_by c.args.copy.tid c.args.keep.now (listed (seen (g.V.Volume.state c.args.volume.now).log Main))
side_list g c told = ap listed (seen_stays Side _ _ (c.close_hint.ensures.others told Side refl)) ∙ c.in_ok-copy_rest.ensures.list told

pub returns-in-Ok-clause-packed : goal.returns-in-Ok-clause-packed
returns-in-Ok-clause-packed g c = λ told.
    switched (g.V.Volume.state c.close_hint.new.volume).log (g.V.Volume.state c.switch.new.volume).log c.copy_rest.new.to _ _ (c.in-Ok.ensures.calls told) (copied g (goal.at.returns-in-Ok-clause-packed g c).After-close_hint told) c.in-Ok.ensures.opened (side_list g (goal.at.returns-in-Ok-clause-packed g c).After-close_hint told)

pub returns-in-Ok-clause-counts : goal.returns-in-Ok-clause-counts
returns-in-Ok-clause-counts g c = λ told.
    let log = (g.V.Volume.state c.args.volume.now).log in
    let mid = (g.V.Volume.state c.close_hint.new.volume).log in
    let now = switched mid (g.V.Volume.state c.switch.new.volume).log c.copy_rest.new.to _ (listed (seen mid Side)) (c.in-Ok.ensures.calls told) (copied g (goal.at.returns-in-Ok-clause-counts g c).After-close_hint told) c.in-Ok.ensures.opened refl in
    counted_pack c.args.copy.tid c.args.keep.now (listed (seen log Main)) (listed (seen mid Main)) (listed (seen mid Side)) _ _ (ap listed (seen_stays Main log mid (main g (goal.at.returns-in-Ok-clause-counts g c).After-close_hint told)))
    now.list_is (side_list g (goal.at.returns-in-Ok-clause-counts g c).After-close_hint told) (c.in-Ok.ensures.kept told) (c.in-Ok.ensures.dropped told)

pub returns-in-Ok-clause-any_moment : goal.returns-in-Ok-clause-any_moment
returns-in-Ok-clause-any_moment g c = λ told.
    let log = (g.V.Volume.state c.args.volume.now).log in
    let there = (goal.at.returns-in-Ok-clause-any_moment g c).After-close_hint in
    pack_moments log (g.V.Volume.state c.close_hint.new.volume).log (main g there told) (c.requires.settled told) (packed_by c.args.copy.tid c.args.keep.now (listed (seen log Main))) c.args.index.now.kept (g.V.Volume.state c.switch.new.volume).log c.copy_rest.new.to
    (c.requires.source told) (copied g there told) (side_list g there told) (c.switch.ensures.any_moment told)

pub returns-in-Err-clause-any_moment : goal.returns-in-Err-clause-any_moment
returns-in-Err-clause-any_moment g c = λ told.
    let log = (g.V.Volume.state c.args.volume.now).log in
    let there = (goal.at.returns-in-Err-clause-any_moment g c).After-close_hint in
    pack_moments log (g.V.Volume.state c.close_hint.new.volume).log (main g there told) (c.requires.settled told) (packed_by c.args.copy.tid c.args.keep.now (listed (seen log Main))) c.args.index.now.kept (g.V.Volume.state c.switch.new.volume).log c.copy_rest.new.to
    (c.requires.source told) (copied g there told) (side_list g there told) (c.switch.ensures.any_moment told)

pub returns-in_err-copy_rest-clause-writes : goal.returns-in_err-copy_rest-clause-writes
returns-in_err-copy_rest-clause-writes g c = λ told. record {
  main = unless_refused _ _ (c.copy_rest.ensures.main told);
  hint = λ settled honest. keeps_both _ _ honest (c.copy_rest.ensures.main told) (c.copy_rest.ensures.hint told);
  closed = λ settled. search rules;
  unclosed = unless_refused _ _ (c.copy_rest.ensures.hint told);
}

pub returns-in_err-close_hint-clause-writes : goal.returns-in_err-close_hint-clause-writes
returns-in_err-close_hint-clause-writes g c = λ told.
    let there = (goal.at.returns-in_err-close_hint-clause-writes g c).After-close_hint in
    let p = err_from_is_err_and c.from_residual-in_err-close_hint.result c.from_residual-in_err-close_hint.ensures.1 in
    record {
      main = unless_refused _ _ (main g there told);
      hint = λ settled honest. until_closed g there told settled honest;
      closed = λ settled. search rules;
      unclosed = unclosed (g.V.Volume.state c.args.volume.now) (g.V.Volume.state c.copy_rest.new.volume) (g.V.Volume.state c.close_hint.new.volume) c.from_residual-in_err-close_hint.result p.0 c.in_err-close_hint.field-0.0 p.1 p.2 c.in_err-close_hint.ensures.causes (c.copy_rest.ensures.hint told);
    }

pub returns-in-Ok-clause-writes : goal.returns-in-Ok-clause-writes
returns-in-Ok-clause-writes g c = λ told.
    let there = (goal.at.returns-in-Ok-clause-writes g c).After-close_hint in
    let closed = c.in_ok-close_hint.ensures.closed told in
    let stays = c.switch.ensures.hint told in
    record {
      main = tt;
      hint = λ settled honest.
          let first = stays_settled _ _ (c.copy_rest.ensures.hint told) settled in
          joined_on _ _ _ (until_closed g there told settled honest) (closed_stays _ _ closed (c.in_ok-close_hint.ensures.settled told first) stays);
      closed = λ settled.
          let first = stays_settled _ _ (c.copy_rest.ensures.hint told) settled in
          (subst (λ (b : List ℕ). IsClosed b) (sym (seen_hint _ _ stays)) closed, stays_settled _ _ stays (c.in_ok-close_hint.ensures.settled told first));
      unclosed = tt;
    }

pub returns-in-Err-clause-writes : goal.returns-in-Err-clause-writes
returns-in-Err-clause-writes g c = λ told.
    let there = (goal.at.returns-in-Err-clause-writes g c).After-close_hint in
    record {
      main = tt;
      hint = λ settled honest.
          let first = stays_settled _ _ (c.copy_rest.ensures.hint told) settled in
          joined_on _ _ _ (until_closed g there told settled honest) (closed_stays _ _ (c.in_ok-close_hint.ensures.closed told) (c.in_ok-close_hint.ensures.settled told first) (c.switch.ensures.hint told));
      closed = λ settled. tt;
      unclosed = tt;
    }
