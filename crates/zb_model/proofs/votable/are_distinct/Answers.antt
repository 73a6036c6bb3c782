use Rattle.std.proofs.Common.{◌+◌, ◌-◌, length, take, drop, ap, refl, sym}
use Rattle.std.proofs.lemmas.List.{take_rest}
use Rattle.zb_model.specs.declared.new_transaction.NewChange.{NewChange}
use Rattle.zb_model.proofs.Distinct.{behind, distinct_behind, distinct_end, distinct_from, seen_behind, unnamed_behind}
use Rattle.zb_model.proofs.votable.are_distinct.Goals as goal

pub returns-then-not-is_unnamed : goal.returns-then-not-is_unnamed
returns-then-not-is_unnamed c =
    let changes = c.args.changes.now in
    let i = c.loop-place.place in
    let this = c.index-changes-place.result in (
      λ never. absurd cc,
      λ distinct. rw (sym c.if-not-is_unnamed.true) (c.is_unnamed.ensures.1
          (seen_behind changes i this _ (take (length changes - (i + 1)) (drop (i + 1) changes)) (sym (ap (λ (d : NewChange). d.oid) c.index-changes-place.is)) (take_rest changes (i + 1))
          (unnamed_behind changes i this c.loop-place-test.true c.index-changes-place.is (c.loop-place.invariant.down distinct)))),
    )

pub loop-place-preserved : goal.loop-place-preserved
loop-place-preserved c =
    let changes = c.args.changes.now in
    let i = c.loop-place.place in
    let this = c.index-changes-place.result in
    record {
      up = λ distinct. c.loop-place.invariant.up (distinct_from changes i this c.loop-place-test.true c.index-changes-place.is
          (behind changes i this _ (take (length changes - (i + 1)) (drop (i + 1) changes)) (sym (ap (λ (d : NewChange). d.oid) c.index-changes-place.is)) (take_rest changes (i + 1))
          (c.is_unnamed.ensures.0 c.if-not-is_unnamed.false)) distinct);
      down = λ distinct. distinct_behind changes i this c.loop-place-test.true c.index-changes-place.is (c.loop-place.invariant.down distinct);
    }

pub returns : goal.returns
returns c = (λ _. c.loop-place.invariant.up (distinct_end c.args.changes.now c.loop-place.place c.loop-place-test.false), λ _. refl)
