-- The classes of records. From: the BTrees package.
use Rattle.std.specs.Prelude.{ℕ, Bool, false, List, [], ◌∷◌, Option, Some, None, slice_get}
use Rattle.pickle_graph.specs.declared.node.Node.{Node}
use Rattle.pickle_graph.specs.declared.node.Node.TheVariants as nodes
use Rattle.pickle_graph.specs.Graph.{Graph}
use Rattle.btree_family.specs.Classes.{Class, class_in, classes, is_known_as}

-- the first item of a tuple, where it has one
abbrev pub first_node : List Node → List ℕ → Option Node
first_node ns [] = None
first_node ns (first ∷ rest) = slice_get ns first

abbrev pub naming_node : List Node → Option Node → Option Node
naming_node ns (Some (nodes.Tuple items)) = first_node ns items
naming_node ns node = node

-- the node that names the class: the root, or the first item where the root is a tuple
abbrev pub class_node : Graph → Option Node
class_node g = naming_node g.nodes (slice_get g.nodes g.root)

abbrev pub class_named_in : Option Node → Option Class
class_named_in (Some (nodes.Global module_name class_name)) = class_in classes module_name class_name
class_named_in _ = None

-- the class of BTrees that a record's class is, if it is one
abbrev pub class_named : Graph → Option Class
class_named class = class_named_in (class_node class)

abbrev pub is_named_in : Class → Option Node → Bool
is_named_in class (Some (nodes.Global module_name class_name)) = is_known_as module_name class_name class
is_named_in class _ = false

-- a record's class is this one: its module and its name are
abbrev pub is_class_of : Class → Graph → Bool
is_class_of class g = is_named_in class (class_node g)
