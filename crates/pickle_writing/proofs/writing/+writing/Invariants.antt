use Rattle.std.proofs.Common.{◌≡◌, ◌+◌, ◌*◌, drop, length}
use Rattle.pickle_writing.specs.Numbers.{is_many}
use Rattle.pickle_graph.specs.Parts.{parts_of}
use Rattle.pickle_writing.specs.Spelling.{parts_piece, piece_of}
use Rattle.pickle_writing.specs.Writing.{with_piece}
use Rattle.pickle_writing.proofs.writing.+writing.Given as goal

abbrev pub decreases-write_parts : goal.decreases-write_parts
decreases-write_parts l = 3 * l.levels + 1

abbrev pub decreases-write_held : goal.decreases-write_held
decreases-write_held l = 3 * l.levels + 2

abbrev pub decreases-write_node : goal.decreases-write_node
decreases-write_node l = 3 * l.levels

-- the parts that are left, behind what is written, are all of them behind what was
abbrev pub invariant-write_parts-loop-index : goal.invariant-write_parts-loop-index
invariant-write_parts-loop-index l = record {
  all :
      with_piece l.writing (parts_piece (piece_of l.levels l.nodes (is_many l.counts)) (drop l.index (parts_of l.node)) l.writing.puts)
      ≡ with_piece l.fn.writing (parts_piece (piece_of l.fn.levels l.fn.nodes (is_many l.fn.counts)) (parts_of l.fn.node) l.fn.writing.puts);
  end : l.index-end ≡ length (parts_of l.node);
}
