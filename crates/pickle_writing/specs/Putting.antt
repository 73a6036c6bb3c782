-- Which nodes the writer puts. Own.
use Rattle.std.specs.Prelude.{ℕ, ◌+◌, List, Ok, Err, if◌then◌else◌}
use Rattle.pickle_graph.specs.declared.node.Node.{Node}
use Rattle.pickle_writing.specs.declared.depth.TheConstants.{WALK_LIMIT}
use Rattle.pickle_writing.specs.declared.error.WriteError.TheVariants as errors
use Rattle.pickle_writing.specs.Spelling.{Spelled, root_piece}
use Rattle.pickle_graph.specs.Walks.{has_walk}

-- the nodes that are put where a node is written as root, the newest first, so that `place_of` gives the number of each;
-- or none where a walk of more edges than the limit starts there
abbrev pub puts_of : List Node → ℕ → Spelled
puts_of ns m = if has_walk (WALK_LIMIT + 1) ns m then Err errors.TooDeep else Ok (root_piece ns m).puts
