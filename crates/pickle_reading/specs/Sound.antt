-- What a reader keeps is sound: its numbers are those of nodes.
use Rattle.std.specs.Prelude.{ℕ, ◌<◌, ◌≤◌, List, [], ◌∷◌, length}
use Rattle.pickle_graph.specs.declared.node.Node.{Node}
use Rattle.pickle_graph.specs.declared.node.Node.TheVariants as kinds
use Rattle.pickle_reading.specs.declared.state.Item.{Item}
use Rattle.pickle_reading.specs.declared.state.Item.TheVariants.{Value, Mark}
use Rattle.pickle_reading.specs.Nodes.{State}
use Rattle.pickle_graph.specs.Graph.{AllBelow, AreNodes}

-- the values of the stack are numbers of nodes
abbrev pub StackBelow : ℕ → List Item → Type 0
StackBelow n [] = Unit {0}
StackBelow n (Value v ∷ below) = (v < n) × StackBelow n below
StackBelow n (Mark ∷ below) = StackBelow n below

-- the memo keeps numbers of nodes
abbrev pub MemoBelow : ℕ → List (ℕ × ℕ) → Type 0
MemoBelow n [] = Unit {0}
MemoBelow n (pair ∷ pairs) = (pair.1 < n) × MemoBelow n pairs

-- the items of a tuple are numbers of nodes
abbrev pub TupleBelow : ℕ → Node → Type 0
TupleBelow n (kinds.Tuple items) = AllBelow n items
TupleBelow n _ = Unit {0}

abbrev pub TuplesBelow : ℕ → List Node → Type 0
TuplesBelow n [] = Unit {0}
TuplesBelow n (x ∷ xs) = TupleBelow n x × TuplesBelow n xs

-- nodes, stack and memo name nodes alone, and there are no more nodes than the limit
pub record IsSoundState (s : State) : Type 0 where
  pub nodes : AreNodes s.nodes s.nodes
  pub values : StackBelow (length s.nodes) s.stack
  pub puts : MemoBelow (length s.nodes) s.memo
  pub few : length s.nodes ≤ s.limit
