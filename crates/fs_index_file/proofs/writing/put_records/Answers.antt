use Rattle.std.proofs.Common.{List, ◌++◌, sym, ap, ◌∙◌}
use Rattle.std.specs.List.{flat_map}
use Rattle.std.proofs.lemmas.List.{append-nil, take_all}
use Rattle.fs_index.specs.declared.place.Placed.{Placed}
use Rattle.fs_index_file.specs.Hints.{record_text}
use Rattle.fs_index_file.proofs.Texts.{all_records_small, records_put, records_small}
use Rattle.fs_index_file.proofs.writing.put_records.Goals as goal

pub each-init : goal.each-init
each-init c = record { small = λ all. all; so_far = sym (append-nil c.args.text.now.items) }

pub each-preserved : goal.each-preserved
each-preserved c = record {
  small = records_small c.args.records.now c.each.entry-index c.entry-item.result c.each-test.true c.entry-item.is c.in_ok-put_record.ensures.small c.each.invariant.small;
  so_far = records_put c.args.text.now.items c.each.text.items c.put_record.new.text.items c.args.records.now c.each.entry-index c.entry-item.result c.each-test.true c.entry-item.is c.in_ok-put_record.ensures.text c.each.invariant.so_far;
}

pub returns-clause-text : goal.returns-clause-text
returns-clause-text c = c.each.invariant.so_far ∙ ap (λ (rs : List Placed). c.args.text.now.items ++ flat_map record_text rs) (take_all c.each.entry-index c.args.records.now c.each-test.false)

pub returns-clause-small : goal.returns-clause-small
returns-clause-small c = all_records_small c.args.records.now c.each.entry-index c.each-test.false c.each.invariant.small
