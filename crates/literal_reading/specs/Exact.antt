-- Which graph bytes are the literal of, as a function of the bytes. Own.
use Rattle.std.specs.Prelude.{◌≡◌, ℕ, ◌+◌, List, Option, Some}
use Rattle.zb_ids.specs.Hex.{◌>>=◌}
use Rattle.pickle_graph.specs.Graph.{Graph}
use Rattle.pickle_writing.specs.declared.depth.TheConstants.{WALK_LIMIT}
use Rattle.zb_literals.specs.Graphs.{last_of}
use Rattle.literal_reading.specs.Literals.{IsLiteral}
use Rattle.literal_reading.specs.Reading.{literal_at}

-- the graph of the value that the bytes spell
unfoldable pub graph_spelled : List ℕ → Option Graph
graph_spelled bytes = do
  nodes ← literal_at (WALK_LIMIT + 1) bytes
  Some (record { nodes = nodes; root = last_of nodes })

abbrev pub SpelledIsLiteral : Type 0
SpelledIsLiteral = (bytes : List ℕ) (graph : Graph) → graph_spelled bytes ≡ Some graph → IsLiteral bytes graph

abbrev pub LiteralIsSpelled : Type 0
LiteralIsSpelled = (bytes : List ℕ) (graph : Graph) → IsLiteral bytes graph → graph_spelled bytes ≡ Some graph
