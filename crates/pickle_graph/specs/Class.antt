-- What may be the class of a record. From: the records of ZODB.
use Rattle.std.specs.Prelude.{ℕ, Bool, true, false, List, [], ◌∷◌, Option, Some, slice_get}
use Rattle.pickle_graph.specs.declared.node.Node.{Node}
use Rattle.pickle_graph.specs.declared.node.Node.TheVariants as kinds
use Rattle.pickle_graph.specs.Graph.{Graph}

abbrev pub is_global : Option Node → Bool
is_global (Some (kinds.Global module_line name_line)) = true
is_global _ = false

abbrev pub begins_with_global : List Node → List ℕ → Bool
begins_with_global ns [] = false
begins_with_global ns (first ∷ rest) = is_global (slice_get ns first)

abbrev pub is_class_node : List Node → Option Node → Bool
is_class_node ns (Some (kinds.Tuple items)) = begins_with_global ns items
is_class_node ns node = is_global node

-- a global, or a tuple that begins with one
abbrev pub is_class : Graph → Bool
is_class g = is_class_node g.nodes (slice_get g.nodes g.root)
