-- Which nodes are shared: those to which more than one edge leads. From: the memo of Python's pickles; which nodes are put is own.
use Rattle.std.specs.Prelude.{ℕ, ◌+◌, Bool, List, [], ◌∷◌, ◌++◌, Some, nat_lt, ◌==◌, if◌then◌else◌}
use Rattle.pickle_graph.specs.declared.node.Node.{Node}
use Rattle.pickle_writing.specs.declared.depth.TheConstants.{WALK_LIMIT}
use Rattle.pickle_graph.specs.Parts.{items_of}
use Rattle.pickle_graph.specs.Walks.{leads}

-- how often a number stands in a list
abbrev pub times : ℕ → List ℕ → ℕ
times m [] = 0
times m (x ∷ xs) = (if x == m then 1 else 0) + times m xs

-- the ends of the edges that start at those of these nodes that are chosen; the first node has the number i
abbrev pub ends_from : (ℕ → Bool) → ℕ → List Node → List ℕ
ends_from chosen i [] = []
ends_from chosen i (node ∷ rest) = (if chosen i then items_of (Some node) else []) ++ ends_from chosen (i + 1) rest

-- the ends of the edges that start at nodes that the root reaches, and the root once more
abbrev pub ends_of : List Node → ℕ → List ℕ
ends_of ns root = root ∷ ends_from (leads WALK_LIMIT ns root) 0 ns

-- more than one edge leads to a node
abbrev pub is_shared : List Node → ℕ → ℕ → Bool
is_shared ns root m = nat_lt 1 (times m (ends_of ns root))
