-- What script literals are. Own.
use Rattle.std.specs.Prelude.{◌≡◌, ℕ, ◌+◌, List}
use Rattle.pickle_graph.specs.Graph.{Graph}
use Rattle.pickle_writing.specs.declared.depth.TheConstants.{WALK_LIMIT}
use Rattle.zb_literals.specs.Values.{Value, literal_text, IsValue}
use Rattle.zb_literals.specs.Graphs.{graph_of}

-- The bytes are the literal of a value from which no walk has more edges than the limit, and the value stands for the graph.
pub record IsLiteral (bytes : List ℕ) (graph : Graph) : Type 0 where
  pub tree : Value
  pub each : IsValue (WALK_LIMIT + 1) tree
  pub text : bytes ≡ literal_text tree
  pub stands : graph ≡ graph_of tree
