-- Laws of writing.
use Rattle.std.specs.Prelude.{ℕ, ◌+◌, ◌≡◌, true, List}
use Rattle.pickle_graph.specs.declared.node.Node.{Node}
use Rattle.pickle_graph.specs.Walks.{IsCyclic, has_walk}
use Rattle.pickle_writing.specs.declared.depth.TheConstants.{WALK_LIMIT}

-- in a cyclic graph a walk of more edges than the limit starts at the root
abbrev pub CyclicIsTooDeep : Type 0
CyclicIsTooDeep = (ns : List Node) (root : ℕ) → IsCyclic ns root → has_walk (WALK_LIMIT + 1) ns root ≡ true
