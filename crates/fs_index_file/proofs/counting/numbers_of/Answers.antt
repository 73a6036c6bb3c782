use Rattle.std.proofs.Common.{ℕ, false, ap, ◌∙◌, arith}
use Rattle.std.specs.Prelude.{slice_get, unwrap_or}
use Rattle.fs_index_file.proofs.Totals.{counts_all, counts_next}
use Rattle.fs_index_file.proofs.counting.numbers_of.Goals as goal

pub each-init : goal.each-init
each-init c = record { number = omega arith; so_far = λ list tids packs counts. c.new-numbers.ensures }

pub each-preserved : goal.each-preserved
each-preserved c =
    let at = c.each.invariant.number in
    record {
      number = omega (arith, at);
      so_far = counts_next c.args.starts.now c.args.packed.now c.args.counted.now c.each.start-index c.each.numbers c.add_counted.new.self c.start-item.result c.packed_at.result c.counted_at.result c.each-test.true c.start-item.is
          (c.packed_at.ensures ∙ ap (λ (n : ℕ). unwrap_or (slice_get c.args.packed.now n) false) at)
          (λ x is. c.counted_at.ensures x (ap (slice_get c.args.counted.now) at ∙ is)) c.in_ok-add_counted.ensures.ok c.each.invariant.so_far;
    }

pub returns : goal.returns
returns c = counts_all c.args.starts.now c.args.packed.now c.args.counted.now c.each.start-index c.each.numbers c.each-test.false c.each.invariant.so_far
