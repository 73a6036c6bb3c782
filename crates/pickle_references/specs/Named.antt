-- What the nodes of a graph refer to.
use Rattle.std.specs.Prelude.{ℕ, List, [], ◌∷◌, Option, Some, None, Ok, length, drop, ◌≡◌, slice_get}
use Rattle.pickle_graph.specs.declared.node.Node.{Node}
use Rattle.pickle_graph.specs.declared.node.Node.TheVariants as kinds
use Rattle.pickle_references.specs.declared.part.Part.{Part}
use Rattle.pickle_references.specs.declared.references.Named.{Named}
use Rattle.pickle_references.specs.declared.references.Named.TheVariants.{Strong, Weak, Bad}
use Rattle.pickle_graph.specs.Graph.{Graph}
use Rattle.pickle_reading.specs.Reading.{graph_behind}
use Rattle.pickle_references.specs.References.{named_by, part_at}
use Rattle.pickle_graph.specs.Same.{IsSame}
use Rattle.pickle_reading.specs.Sound.{MemoBelow, TuplesBelow}

-- the oids with what one more persistent id names; none where it has no form
abbrev pub with_name : Named → Option (List ℕ) → Option (List ℕ)
with_name named None = None
with_name (Strong oid) (Some oids) = Some (oid ∷ oids)
with_name Weak (Some oids) = Some oids
with_name Bad (Some oids) = None

-- the oids that the references among these nodes of a graph name, in order; none where an id has no form
abbrev pub named_in : List Node → List Node → Option (List ℕ)
named_in ns [] = Some []
named_in ns (kinds.Reference id ∷ rest) = with_name (named_by ns (slice_get ns id)) (named_in ns rest)
named_in ns (_ ∷ rest) = named_in ns rest

-- the oids that the references of a graph name, in the order of their numbers
abbrev pub oids_of : Graph → Option (List ℕ)
oids_of g = named_in g.nodes g.nodes

-- the oids that the references name which a graph has behind so many nodes
abbrev pub oids_behind : ℕ → Graph → Option (List ℕ)
oids_behind n g = named_in g.nodes (drop n g.nodes)

-- what a pickle says is its graph, and its oids are those that the references among its own nodes name
pub record IsTold (nodes : List Node) (memo : List (ℕ × ℕ)) (at : ℕ) (bytes : List ℕ) (part : Part) : Type 0 where
  pub reads : graph_behind nodes memo at bytes ≡ Ok (part.pickle, part.behind)
  pub named : oids_behind (length nodes) part.pickle ≡ Some part.oids

abbrev pub ToldIsNamed : Type 0
ToldIsNamed =
    (nodes : List Node) (memo : List (ℕ × ℕ)) (at : ℕ) (bytes : List ℕ) (part : Part) (left : List (ℕ × ℕ)) →
    part_at nodes memo at bytes ≡ Ok (part, left) → IsTold nodes memo at bytes part

-- what a pickle may leave: a memo of nodes, of which tuples have nodes alone
pub record IsLeft (nodes : List Node) (memo : List (ℕ × ℕ)) : Type 0 where
  pub tuples : TuplesBelow (length nodes) nodes
  pub puts : MemoBelow (length nodes) memo

-- the graph of a pickle with its oids, and some memo
abbrev pub IsPart : List Node → List (ℕ × ℕ) → ℕ → List ℕ → Part → Type 0
IsPart nodes memo at bytes part = (left : List (ℕ × ℕ)) × (part_at nodes memo at bytes ≡ Ok (part, left))

-- where a graph is read and its own references all name something, that is what the pickle says
abbrev pub NamedIsTold : Type 0
NamedIsTold =
    (nodes : List Node) (memo : List (ℕ × ℕ)) (at : ℕ) (bytes : List ℕ) (graph : Graph) (next : ℕ) (oids : List ℕ) → IsLeft nodes memo →
    graph_behind nodes memo at bytes ≡ Ok (graph, next) → oids_behind (length nodes) graph ≡ Some oids →
    IsPart nodes memo at bytes (record { pickle = graph; oids = oids; behind = next })

-- what a pickle leaves is what one may leave
abbrev pub PartIsLeft : Type 0
PartIsLeft =
    (nodes : List Node) (memo : List (ℕ × ℕ)) (at : ℕ) (bytes : List ℕ) (part : Part) (left : List (ℕ × ℕ)) → IsLeft nodes memo →
    part_at nodes memo at bytes ≡ Ok (part, left) → IsLeft part.pickle.nodes left

-- where the references of a graph all name something, so do those of one that is the same
abbrev pub CopiesAreNamed : Type 0
CopiesAreNamed = (g copy : Graph) (oids : List ℕ) → IsSame g copy → oids_of g ≡ Some oids → (told : List ℕ) × (oids_of copy ≡ Some told)
