-- One object of a level after another.
use Rattle.std.proofs.Common.{length, refl}
use Rattle.std.proofs.lemmas.Option.{slice_get_read}
use Rattle.tree_attempts.specs.Ahead.{IsMet}
use Rattle.tree_attempts.specs.Calls.{contents_of}
use Rattle.tree_attempts.proofs.Looking.{met_of_level}
use Rattle.tree_attempts.proofs.ahead.open_level.Goals as goal

pub returns-then-not-branch-clause-met : goal.returns-then-not-branch-clause-met
returns-then-not-branch-clause-met c = λ objects root room agrees is within all ahead.
    let there = slice_get_read c.args.level.now (length c.args.level.now) c.loop-oid.oid-index c.oid-item.result refl c.loop-oid-test.true c.oid-item.is in
    c.in_ok-open_at.ensures.met objects root room agrees is within
    (met_of_level (IsMet (contents_of objects) root c.args.span.now room) c.args.level.now c.loop-oid.oid-index c.oid-item.result all there)
    (c.loop-oid.invariant.met objects root room agrees is within all ahead)

pub loop-oid-preserved : goal.loop-oid-preserved
loop-oid-preserved c = record {
  unknown = c.in_ok-open_at.ensures.unknown;
  met = λ objects root room agrees is within all ahead.
      let there = slice_get_read c.args.level.now (length c.args.level.now) c.loop-oid.oid-index c.oid-item.result refl c.loop-oid-test.true c.oid-item.is in
      c.in_ok-open_at.ensures.met objects root room agrees is within
      (met_of_level (IsMet (contents_of objects) root c.args.span.now room) c.args.level.now c.loop-oid.oid-index c.oid-item.result all there)
      (c.loop-oid.invariant.met objects root room agrees is within all ahead);
}
