use Rattle.std.proofs.Common.{◌≡◌, drop, length}
use Rattle.pickle_graph.specs.Parts.{items_in, parts_of}
use Rattle.pickle_writing.specs.Numbers.{with_edges, held_among}
use Rattle.pickle_writing.proofs.shared.count_items.Given as goal

-- what is left to count gives what all of it gives
abbrev pub invariant-loop-index : goal.invariant-loop-index
invariant-loop-index l = record {
  all : with_edges (held_among l.nodes (items_in (drop l.index (parts_of l.node)))) l.counts ≡ with_edges (held_among l.fn.nodes (items_in (parts_of l.fn.node))) l.fn.counts;
  end : l.index-end ≡ length (parts_of l.node);
}
