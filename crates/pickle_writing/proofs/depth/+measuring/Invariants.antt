use Rattle.std.proofs.Common.{◌+◌, ◌*◌, take, length, ◌≡◌}
use Rattle.pickle_graph.specs.Parts.{items_in, parts_of}
use Rattle.pickle_writing.specs.Numbers.{MeasuresAll, IsMeasuredSince, counted_for}
use Rattle.pickle_writing.proofs.depth.+measuring.Given as goal

abbrev pub decreases-measure_items : goal.decreases-measure_items
decreases-measure_items l = 3 * l.levels

abbrev pub decreases-measure_new : goal.decreases-measure_new
decreases-measure_new l = 3 * l.levels + 1

abbrev pub decreases-measure : goal.decreases-measure
decreases-measure l = 3 * l.levels + 2

-- the items so far were measured
abbrev pub invariant-measure_items-loop-index : goal.invariant-measure_items-loop-index
invariant-measure_items-loop-index l = record {
  all : MeasuresAll l.nodes l.levels l.fn.measured.heights (items_in (take l.index (parts_of l.node))) l.measured.heights l.height;
  end : l.index-end ≡ length (parts_of l.node);
  settled : IsMeasuredSince l.fn.measured.begun l.measured.begun l.measured.heights;
  counted : l.measured.counts ≡ counted_for l.nodes l.measured.heights;
}
