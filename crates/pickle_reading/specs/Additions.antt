-- What a token adds to a node that stands already.
use Rattle.std.specs.Prelude.{ℕ, List, [], ◌∷◌, ◌++◌, Option, Some, None}
use Rattle.pickle_graph.specs.declared.node.Act.{Act}
use Rattle.pickle_graph.specs.declared.node.Act.TheVariants.{Append, Set, Build}
use Rattle.pickle_graph.specs.declared.node.Node.{Node}
use Rattle.pickle_graph.specs.declared.node.Node.TheVariants as kinds
use Rattle.pickle_reading.specs.declared.additions.Addition.{Addition}
use Rattle.pickle_reading.specs.declared.additions.Addition.TheVariants as additions

-- a pair before the others, if there are any that go in pairs
abbrev pub with_pair : ℕ × ℕ → Option (List (ℕ × ℕ)) → Option (List (ℕ × ℕ))
with_pair pair None = None
with_pair pair (Some pairs) = Some (pair ∷ pairs)

-- the values as keys and values, one after the other; none may be left over
abbrev pub pairs_of : List ℕ → Option (List (ℕ × ℕ))
pairs_of [] = Some []
pairs_of (key ∷ []) = None
pairs_of (key ∷ value ∷ rest) = with_pair (key, value) (pairs_of rest)

-- each value is appended
abbrev pub append_acts : List ℕ → List Act
append_acts [] = []
append_acts (value ∷ values) = Append value ∷ append_acts values

-- each key is set to its value
abbrev pub set_acts : List (ℕ × ℕ) → List Act
set_acts [] = []
set_acts (pair ∷ pairs) = Set pair.0 pair.1 ∷ set_acts pairs

-- the acts of an object with the addition
abbrev pub acts_with : Addition → List Act → List Act
acts_with (additions.Values values) acts = acts ++ append_acts values
acts_with (additions.Pairs pairs) acts = acts ++ set_acts pairs
acts_with (additions.State state) acts = acts ++ Build state ∷ []

-- the node with the addition, where it takes one of that kind
abbrev pub added : Addition → Option Node → Option Node
added addition (Some (kinds.Object callee arguments by_new acts)) =
    Some (kinds.Object callee arguments by_new (acts_with addition acts))
added (additions.Values values) (Some (kinds.List items)) = Some (kinds.List (items ++ values))
added (additions.Pairs new) (Some (kinds.Dict pairs)) = Some (kinds.Dict (pairs ++ new))
added _ _ = None
