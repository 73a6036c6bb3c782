-- The classes that have a rule of merging. From: the BTrees package and its Length.
use Rattle.std.specs.Prelude.{ℕ, Bool, false, List, [], ◌∷◌, codes, Option, Some, None, slice_get, eqb, ◌&&◌, if◌then◌else◌}
use Rattle.std.specs.Option.{option_map}
use Rattle.std.specs.Cmp.Lexicographic.{pointwise}
use Rattle.pickle_graph.specs.declared.node.Node.{Node}
use Rattle.pickle_graph.specs.declared.node.Node.TheVariants as nodes
use Rattle.pickle_graph.specs.Graph.{Graph, IsGlobal}
use Rattle.btree_family.specs.Classes.{Class, class_seen, class_in, classes, is_known_as}
use Rattle.zb_resolve.specs.declared.rule.Rule.{Rule}
use Rattle.zb_resolve.specs.declared.rule.Rule.TheVariants as rules

-- what the objects of a class are merged by: as those of a class of BTrees, or as counters
pub data ClassRule : Type 0 where
  Family : Class → ClassRule
  Counter : ClassRule

-- the rule that the program's one says
abbrev pub rule_seen : Rule → ClassRule
rule_seen (rules.Family row) = Family (class_seen row.now)
rule_seen rules.Counter = Counter

-- module and name are lines that a global can have
abbrev pub IsGlobalRule : Rule → Type 0
IsGlobalRule (rules.Family row) = IsGlobal row.now.«module».now row.now.name.now
IsGlobalRule rules.Counter = Unit {0}

-- the class of counters
abbrev pub is_counter : List ℕ → List ℕ → Bool
is_counter module_name class_name = pointwise eqb (codes "BTrees.Length") module_name && pointwise eqb (codes "Length") class_name

-- the rule of the class that is known by a module and a name, if it has one
abbrev pub rule_named : List ℕ → List ℕ → Option ClassRule
rule_named module_name class_name =
    if is_counter module_name class_name then Some Counter else option_map Family (class_in classes module_name class_name)

-- the class of this rule is known by this module and this name
abbrev pub is_named : ClassRule → List ℕ → List ℕ → Bool
is_named (Family class) module_name class_name = is_known_as module_name class_name class
is_named Counter module_name class_name = is_counter module_name class_name

-- the first item of a tuple, where it has one
abbrev pub first_node : List Node → List ℕ → Option Node
first_node ns [] = None
first_node ns (first ∷ rest) = slice_get ns first

abbrev pub naming_node : List Node → Option Node → Option Node
naming_node ns (Some (nodes.Tuple items)) = first_node ns items
naming_node ns node = node

-- the node that names the class: the root, or the first item where the root is a tuple
abbrev pub class_node : Graph → Option Node
class_node g = naming_node g.nodes (slice_get g.nodes g.root)

abbrev pub rule_in : Option Node → Option ClassRule
rule_in (Some (nodes.Global module_name class_name)) = rule_named module_name class_name
rule_in _ = None

-- the rule of a record's class, if it has one
abbrev pub rule_of : Graph → Option ClassRule
rule_of class = rule_in (class_node class)

abbrev pub is_named_in : ClassRule → Option Node → Bool
is_named_in rule (Some (nodes.Global module_name class_name)) = is_named rule module_name class_name
is_named_in rule _ = false

-- a record's class is the one of this rule: its module and its name are
abbrev pub is_class_of : ClassRule → Graph → Bool
is_class_of rule class = is_named_in rule (class_node class)
