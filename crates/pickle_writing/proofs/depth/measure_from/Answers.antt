use Rattle.std.proofs.Common.{◌∙◌, ap}
use Rattle.pickle_writing.specs.Numbers.{with_edge}
use Rattle.pickle_writing.proofs.Heights.{all_reached}
use Rattle.pickle_writing.proofs.depth.measure_from.Goals as goal

pub returns-clause-ok : goal.returns-clause-ok
returns-clause-ok c = record {
  heights = c.measure.new.measured.heights;
  reach = all_reached c.args.nodes.now c.new-2.result _ _ _ c.new-2.ensures c.in_ok-measure.ensures.ok;
  counted = c.in_ok-count.ensures ∙ ap (with_edge c.args.root) c.in_ok-measure.ensures.counted;
}
