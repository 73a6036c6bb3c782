use Rattle.std.proofs.Common.{◌≡◌, ℕ, List, ◌++◌, length, refl, ap, subst, sym, ◌∙◌, arith}
use Rattle.std.specs.List.{AllByRecursion, flat_map}
use Rattle.fs_index.specs.declared.place.Place.{Place}
use Rattle.fs_index.specs.declared.place.Placed.{Placed}
use Rattle.fs_records.specs.Numbers.{number}
use Rattle.fs_index_file.specs.Hints.{IsSmallRecord, IsSmallStart, record_text, rest_text, start_text}
use Rattle.fs_index_file.specs.Honest.{starts_for}
use Rattle.fs_index_file.proofs.Texts.{assembled, length-starts_for}
use Rattle.fs_index_file.proofs.writing.rest_of.Goals as goal

pub returns : goal.returns
unfolding rest_text
returns c =
    let places = c.args.index.now.transactions in
    let starts = starts_for places c.args.numbers.now.tallies in
    let records = c.in_ok-records.records.items in
    let count : length c.transactions-starts.result.now ≡ length starts = ap (λ (ps : List Place). length ps) c.transactions-starts.ensures.value ∙ sym (length-starts_for places c.args.numbers.now.tallies) in (
      record { end = c.args.end; starts = starts; records = records },
      record { end_is = refl; starts_are = refl; records_are = c.in_ok-records.ensures },
      record {
        end = c.ranges.end.fits;
        count_starts = omega (arith, c.put_number-2.ensures.small, count);
        count_records = omega (arith, c.put_number-3.ensures.small, ap (λ (rs : List Placed). length rs) c.as_slice-entries.ensures.value);
        starts = subst (λ (ps : List Place). AllByRecursion IsSmallStart (starts_for ps c.args.numbers.now.tallies)) c.transactions-starts.ensures.value c.in_ok-put_starts.ensures.small;
        records = subst (λ (rs : List Placed). AllByRecursion IsSmallRecord rs) c.as_slice-entries.ensures.value c.in_ok-put_records.ensures.small;
      },
      assembled (number 8 c.args.end) (number 8 (length starts)) (number 8 (length records)) (flat_map start_text starts) (flat_map record_text records)
          c.new-text.result.items c.put_number.new.text.items c.put_number-2.new.text.items c.put_number-3.new.text.items c.put_starts.new.text.items c.put_records.new.text.items
          c.new-text.ensures.items c.in_ok-put_number.ensures.text
          (c.in_ok-put_number-2.ensures.text ∙ ap (λ (n : ℕ). c.put_number.new.text.items ++ number 8 n) count)
          (c.in_ok-put_number-3.ensures.text ∙ ap (λ (rs : List Placed). c.put_number-2.new.text.items ++ number 8 (length rs)) c.as_slice-entries.ensures.value)
          (c.in_ok-put_starts.ensures.text ∙ ap (λ (ps : List Place). c.put_number-3.new.text.items ++ flat_map start_text (starts_for ps c.args.numbers.now.tallies)) c.transactions-starts.ensures.value)
          (c.in_ok-put_records.ensures.text ∙ ap (λ (rs : List Placed). c.put_starts.new.text.items ++ flat_map record_text rs) c.as_slice-entries.ensures.value),
    )
