-- The graph for which a tree stands. Own.
use Rattle.std.specs.Prelude.{ℕ, ◌-◌, List, [], ◌∷◌, ◌++◌, length}
use Rattle.pickle_graph.specs.declared.node.Node.{Node}
use Rattle.pickle_graph.specs.declared.node.Node.TheVariants as kinds
use Rattle.pickle_graph.specs.Graph.{Graph}
use Rattle.zb_literals.specs.Values.{Value, leaf, tuple, list, dict, reference, Values, no_values, value, Pairs, no_pairs, pair}

-- the number of the last node
abbrev pub last_of : List Node → ℕ
last_of nodes = length nodes - 1

-- Nodes, and behind them those of a value: first those of its items, in order, and then its own. So the value is the last
-- node, and each node is named once.
abbrev mutual
  pub with_value : List Node → Value → List Node
  with_value nodes (leaf node) = nodes ++ node ∷ []
  with_value nodes (tuple vs) = with_values nodes vs ++ kinds.Tuple (named_values nodes vs) ∷ []
  with_value nodes (list vs) = with_values nodes vs ++ kinds.List (named_values nodes vs) ∷ []
  with_value nodes (dict ps) = with_pairs nodes ps ++ kinds.Dict (named_pairs nodes ps) ∷ []
  with_value nodes (reference v) = with_value nodes v ++ kinds.Reference (last_of (with_value nodes v)) ∷ []

  pub with_values : List Node → Values → List Node
  with_values nodes no_values = nodes
  with_values nodes (value v vs) = with_values (with_value nodes v) vs

  pub with_pairs : List Node → Pairs → List Node
  with_pairs nodes no_pairs = nodes
  with_pairs nodes (pair k v ps) = with_pairs (with_value (with_value nodes k) v) ps

  -- the numbers of values behind these nodes
  pub named_values : List Node → Values → List ℕ
  named_values nodes no_values = []
  named_values nodes (value v vs) = last_of (with_value nodes v) ∷ named_values (with_value nodes v) vs

  pub named_pairs : List Node → Pairs → List (ℕ × ℕ)
  named_pairs nodes no_pairs = []
  named_pairs nodes (pair k v ps) =
      (last_of (with_value nodes k), last_of (with_value (with_value nodes k) v)) ∷ named_pairs (with_value (with_value nodes k) v) ps

abbrev pub graph_of : Value → Graph
graph_of v = record { nodes = with_value [] v; root = last_of (with_value [] v) }
