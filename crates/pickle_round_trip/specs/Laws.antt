-- Laws of reading what was written.
use Rattle.std.specs.Prelude.{ℕ, ◌+◌, ◌++◌, ◌≤◌, ◌<◌, ◌≡◌, List, length, Some, Ok, Err}
use Rattle.pickle_reading.specs.declared.error.PickleError.TheVariants.{TooLarge}
use Rattle.pickle_reading.specs.declared.reading.TheConstants.{NODE_LIMIT}
use Rattle.pickle_graph.specs.declared.node.Node.{Node}
use Rattle.pickle_graph.specs.Graph.{Graph, IsGraph}
use Rattle.pickle_reading.specs.Reading.{graph_at, graph_behind}
use Rattle.pickle_references.specs.Named.{oids_of, oids_behind}
use Rattle.pickle_graph.specs.Same.{IsSame, AreSame}
use Rattle.pickle_writing.specs.Spelling.{root_piece, pickle_text}

-- the text reads, to its end, as the same graph
pub record ReadsSame (g : Graph) (text : List ℕ) : Type 0 where
  pub copy : Graph
  pub reads : graph_at NODE_LIMIT 0 text ≡ Ok (copy, length text)
  pub same : IsSame g copy

-- the text is refused at some place, as it makes too many nodes
pub record ReadsTooLarge (text : List ℕ) : Type 0 where
  pub place : ℕ
  pub refused : graph_at NODE_LIMIT 0 text ≡ Err (TooLarge place)

-- what is written reads back as the same graph, where it makes no more nodes than the limit; else as too large
pub record ReadsBack (g : Graph) (text : List ℕ) : Type 0 where
  pub within : (root_piece g.nodes g.root).made ≤ NODE_LIMIT → ReadsSame g text
  pub beyond : NODE_LIMIT < (root_piece g.nodes g.root).made → ReadsTooLarge text

-- each graph that is written reads back
abbrev pub WrittenReadsBack : Type 0
WrittenReadsBack = (g : Graph) (text : List ℕ) → IsGraph g.nodes g.root → pickle_text g ≡ Ok text → ReadsBack g text

-- the text reads as the same graph at each place, whatever follows
pub record ReadsAnywhere (g : Graph) (text : List ℕ) : Type 0 where
  pub copy : Graph
  pub reads : (at : ℕ) (tail : List ℕ) → graph_at NODE_LIMIT at (text ++ tail) ≡ Ok (copy, at + length text)
  pub same : IsSame g copy
  pub few : length copy.nodes ≤ NODE_LIMIT

abbrev pub WrittenReadsAnywhere : Type 0
WrittenReadsAnywhere =
    (g : Graph) (text : List ℕ) → IsGraph g.nodes g.root → pickle_text g ≡ Ok text → (root_piece g.nodes g.root).made ≤ NODE_LIMIT → ReadsAnywhere g text

-- Behind a pickle that left these nodes and this memo, the text reads as the same graph at each place, whatever follows; and
-- where all references of the graph name something, so do those that were read.
pub record ReadsBehind (nodes : List Node) (memo : List (ℕ × ℕ)) (g : Graph) (text : List ℕ) : Type 0 where
  pub copy : Graph
  pub reads : (at : ℕ) (tail : List ℕ) → graph_behind nodes memo at (text ++ tail) ≡ Ok (copy, at + length text)
  pub same : AreSame g copy
  pub named : (oids : List ℕ) → oids_of g ≡ Some oids → (told : List ℕ) × (oids_behind (length nodes) copy ≡ Some told)

-- there the text is refused at some place, as it makes too many nodes
abbrev pub RefusedBehind : List Node → List (ℕ × ℕ) → List ℕ → Type 0
RefusedBehind nodes memo text = (at : ℕ) (tail : List ℕ) → (place : ℕ) × (graph_behind nodes memo at (text ++ tail) ≡ Err (TooLarge place))

-- what is written gets nothing that it did not put, so it reads back the same behind another pickle
pub record ReadsBackBehind (nodes : List Node) (memo : List (ℕ × ℕ)) (g : Graph) (text : List ℕ) : Type 0 where
  pub within : (root_piece g.nodes g.root).made ≤ NODE_LIMIT → ReadsBehind nodes memo g text
  pub beyond : NODE_LIMIT < (root_piece g.nodes g.root).made → RefusedBehind nodes memo text

abbrev pub WrittenReadsBehind : Type 0
WrittenReadsBehind =
    (before g : Graph) (copy : Graph) (memo : List (ℕ × ℕ)) (text : List ℕ) → IsSame before copy → length copy.nodes ≤ NODE_LIMIT →
    IsGraph g.nodes g.root → pickle_text g ≡ Ok text → ReadsBackBehind copy.nodes memo g text
