-- When two graphs are the same, up to the numbers of nodes and to leaves that stand apart. Own.
use Rattle.std.specs.Prelude.{ℕ, ◌≡◌, true, false, Bool, List, [], ◌∷◌, Option, Some, None, slice_get, ◌==◌, if◌then◌else◌}
use Rattle.pickle_graph.specs.declared.node.Act.{Act}
use Rattle.pickle_graph.specs.declared.node.Act.TheVariants.{Append, Set, Build}
use Rattle.pickle_graph.specs.declared.node.Node.{Node}
use Rattle.pickle_graph.specs.declared.node.Node.TheVariants as kinds
use Rattle.pickle_graph.specs.Graph.{Graph}
use Rattle.pickle_graph.specs.Parts.{is_held}

-- The origins are a list: for each node of the copy, the number of the node for which it stands.
abbrev pub HasOrigin : List ℕ → ℕ → ℕ → Type 0
HasOrigin origin n m = slice_get origin n ≡ Some m

-- these nodes of the copy stand for those of the graph, one by one
abbrev pub HaveOrigins : List ℕ → List ℕ → List ℕ → Type 0
HaveOrigins origin [] [] = Unit {0}
HaveOrigins origin (n ∷ ns) (m ∷ ms) = HasOrigin origin n m × HaveOrigins origin ns ms
HaveOrigins origin _ _ = ⊥

-- keys and values stand for keys and values, one by one
abbrev pub PairsStandFor : List ℕ → List (ℕ × ℕ) → List (ℕ × ℕ) → Type 0
PairsStandFor origin [] [] = Unit {0}
PairsStandFor origin (n ∷ ns) (m ∷ ms) = HasOrigin origin n.0 m.0 × HasOrigin origin n.1 m.1 × PairsStandFor origin ns ms
PairsStandFor origin _ _ = ⊥

-- an act stands for one of its kind, and what it names for what that one names
abbrev pub ActStandsFor : List ℕ → Act → Act → Type 0
ActStandsFor origin (Append n) (Append m) = HasOrigin origin n m
ActStandsFor origin (Set key value) (Set old_key old_value) = HasOrigin origin key old_key × HasOrigin origin value old_value
ActStandsFor origin (Build n) (Build m) = HasOrigin origin n m
ActStandsFor origin _ _ = ⊥

-- acts stand for acts, one by one
abbrev pub ActsStandFor : List ℕ → List Act → List Act → Type 0
ActsStandFor origin [] [] = Unit {0}
ActsStandFor origin (n ∷ ns) (m ∷ ms) = ActStandsFor origin n m × ActsStandFor origin ns ms
ActsStandFor origin _ _ = ⊥

-- two objects: made alike, of parts that stand for each other's
pub record ObjectsAlike (origin : List ℕ) (callee arguments : ℕ) (by_new : Bool) (acts : List Act) (old_callee old_arguments : ℕ) (old_by_new : Bool) (old_acts : List Act) : Type 0 where
  pub called : HasOrigin origin callee old_callee
  pub taken : HasOrigin origin arguments old_arguments
  pub made : by_new ≡ old_by_new
  pub done : ActsStandFor origin acts old_acts

-- a node and the one for which it stands: of one kind, with the same content, and their items stand for each other's
abbrev pub IsCopy : List ℕ → Node → Option Node → Type 0
IsCopy origin kinds.None (Some kinds.None) = Unit {0}
IsCopy origin (kinds.Bool x) (Some (kinds.Bool y)) = x ≡ y
IsCopy origin (kinds.Number x) (Some (kinds.Number y)) = x ≡ y
IsCopy origin (kinds.Wide x) (Some (kinds.Wide y)) = x ≡ y
IsCopy origin (kinds.Float x) (Some (kinds.Float y)) = x ≡ y
IsCopy origin (kinds.Bytes x) (Some (kinds.Bytes y)) = x ≡ y
IsCopy origin (kinds.OldText x) (Some (kinds.OldText y)) = x ≡ y
IsCopy origin (kinds.Text x) (Some (kinds.Text y)) = x ≡ y
IsCopy origin (kinds.Tuple ns) (Some (kinds.Tuple ms)) = HaveOrigins origin ns ms
IsCopy origin (kinds.List ns) (Some (kinds.List ms)) = HaveOrigins origin ns ms
IsCopy origin (kinds.Dict ns) (Some (kinds.Dict ms)) = PairsStandFor origin ns ms
IsCopy origin (kinds.Global a b) (Some (kinds.Global c d)) = (a ≡ c) × (b ≡ d)
IsCopy origin (kinds.Reference n) (Some (kinds.Reference m)) = HasOrigin origin n m
IsCopy origin (kinds.Object callee arguments by_new acts) (Some (kinds.Object old_callee old_arguments old_by_new old_acts)) =
    ObjectsAlike origin callee arguments by_new acts old_callee old_arguments old_by_new old_acts
IsCopy origin _ _ = ⊥

-- these nodes, one by one, are copies of those of the graph with these numbers
abbrev pub AllCopies : List ℕ → List Node → List Node → List ℕ → Type 0
AllCopies origin ns [] [] = Unit {0}
AllCopies origin ns (node ∷ rest) (m ∷ ms) = IsCopy origin node (slice_get ns m) × AllCopies origin ns rest ms
AllCopies origin ns _ _ = ⊥

-- the number is in the list
abbrev pub has : ℕ → List ℕ → Bool
has m [] = false
has m (x ∷ xs) = if x == m then true else has m xs

-- a node with items, if there is one
abbrev pub holds_items : Option Node → Bool
holds_items None = false
holds_items (Some node) = is_held node

-- the node of a number has items
abbrev pub is_held_at : List Node → ℕ → Bool
is_held_at ns m = holds_items (slice_get ns m)

-- no node with items stands twice
abbrev pub StandOnce : List Node → List ℕ → Type 0
StandOnce ns [] = Unit {0}
StandOnce ns (m ∷ ms) = (is_held_at ns m ≡ true → has m ms ≡ false) × StandOnce ns ms

-- The copy is the same graph: each of its nodes stands for one of the graph, and its root for the root; and no node with
-- items stands twice, so such nodes are shared as they were.
pub record IsSame (g copy : Graph) : Type 0 where
  pub origin : List ℕ
  pub each : AllCopies origin g.nodes copy.nodes origin
  pub root : HasOrigin origin copy.root g.root
  pub once : StandOnce g.nodes origin

-- Two graphs are the same where both are copies of one: so each may have nodes that its root does not reach.
pub record AreSame (g other : Graph) : Type 0 where
  pub whole : Graph
  pub first : IsSame whole g
  pub second : IsSame whole other
