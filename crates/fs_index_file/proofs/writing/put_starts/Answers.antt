use Rattle.std.proofs.Common.{ℕ, Bool, false, ◌++◌, ap, ◌∙◌, arith}
use Rattle.std.specs.Prelude.{slice_get}
use Rattle.std.specs.Option.{option_map_or}
use Rattle.fs_index_file.specs.Hints.{start_text}
use Rattle.fs_index_file.specs.Honest.{status_of}
use Rattle.fs_index_file.proofs.Texts.{all_starts_small, starts_put, starts_small}
use Rattle.fs_index_file.proofs.writing.put_starts.Goals as goal

pub each-preserved : goal.each-preserved
each-preserved c =
    let packed = c.is_packed_at.ensures ∙ ap (λ (n : ℕ). option_map_or (λ x. x.packed) (slice_get c.args.numbers.now.tallies n) false) c.each.invariant.number in
    record {
      number = omega (arith, c.each.invariant.number);
      small = starts_small c.args.places.now c.args.numbers.now.tallies c.each.place-index c.place-item.result c.each-test.true c.place-item.is c.in_ok-put_start.ensures.small c.each.invariant.small;
      so_far = starts_put c.args.text.now.items c.each.text.items c.put_start.new.text.items c.args.places.now c.args.numbers.now.tallies c.each.place-index c.place-item.result c.each-test.true c.place-item.is
          (c.in_ok-put_start.ensures.text ∙ ap (λ (b : Bool). c.each.text.items ++ start_text (record { place = c.place-item.result; status = status_of b })) packed) c.each.invariant.so_far;
    }

pub returns-clause-small : goal.returns-clause-small
returns-clause-small c = all_starts_small c.args.places.now c.args.numbers.now.tallies c.each.place-index c.each-test.false c.each.invariant.small
