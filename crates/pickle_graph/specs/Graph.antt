-- Graphs: nodes that name each other by number, counted from 0, and a root.
use Rattle.std.specs.Prelude.{ℕ, ℤ, pos, negsuc, Bool, true, false, List, [], ◌∷◌, Option, Some, length, slice_get, ◌-◌, ◌^◌, ◌<◌, ◌≤ℤ◌, ◌<ℤ◌, ◌≡◌}
use Rattle.pickle_ops.specs.Grammar.{IsGlobalLine}
use Rattle.pickle_ops.specs.Fits.{IsShortText}
use Rattle.pickle_graph.specs.declared.node.Act.{Act}
use Rattle.pickle_graph.specs.declared.node.Act.TheVariants.{Append, Set, Build}
use Rattle.pickle_graph.specs.declared.node.Node.{Node}
use Rattle.pickle_graph.specs.declared.node.Node.TheVariants as kinds

-- nodes, and the number of the one that stands for the whole
pub record Graph : Type 0 where
  pub nodes : List Node
  pub root : ℕ

-- numbers of nodes
abbrev pub AllBelow : ℕ → List ℕ → Type 0
AllBelow n [] = Unit {0}
AllBelow n (x ∷ xs) = (x < n) × AllBelow n xs

-- keys and values are numbers of nodes
abbrev pub PairsBelow : ℕ → List (ℕ × ℕ) → Type 0
PairsBelow n [] = Unit {0}
PairsBelow n (pair ∷ pairs) = (pair.0 < n) × (pair.1 < n) × PairsBelow n pairs

-- what an act names are numbers of nodes
abbrev pub ActBelow : ℕ → Act → Type 0
ActBelow n (Append value) = value < n
ActBelow n (Set key value) = (key < n) × (value < n)
ActBelow n (Build state) = state < n

-- what these acts name are numbers of nodes
abbrev pub ActsBelow : ℕ → List Act → Type 0
ActsBelow n [] = Unit {0}
ActsBelow n (act ∷ acts) = ActBelow n act × ActsBelow n acts

-- there is a node, and it is a tuple
abbrev pub is_tuple : Option Node → Bool
is_tuple (Some (kinds.Tuple items)) = true
is_tuple _ = false

-- a signed number of 128 bits
pub record IsSigned128 (number : ℤ) : Type 0 where
  pub low : negsuc (2 ^ 127 - 1) ≤ℤ number
  pub high : number <ℤ pos (2 ^ 127)

-- more bytes than a number has, and not more than the longest token says
pub record IsWide (bytes : List ℕ) : Type 0 where
  pub long : 16 < length bytes
  pub short : length bytes < 2 ^ 31

-- a module and a name, each of one line
pub record IsGlobal (module_line name_line : List ℕ) : Type 0 where
  pub first : IsGlobalLine module_line
  pub second : IsGlobalLine name_line

-- a callee, arguments and acts among the nodes, of which the arguments are a tuple
pub record IsObject (ns : List Node) (callee arguments : ℕ) (acts : List Act) : Type 0 where
  pub called : callee < length ns
  pub taken : is_tuple (slice_get ns arguments) ≡ true
  pub done : ActsBelow (length ns) acts

-- a node holds what its kind says, and names only nodes of the graph
abbrev pub IsNode : List Node → Node → Type 0
IsNode ns kinds.None = Unit {0}
IsNode ns (kinds.Bool b) = Unit {0}
IsNode ns (kinds.Number number) = IsSigned128 number
IsNode ns (kinds.Wide bytes) = IsWide bytes
IsNode ns (kinds.Float bytes) = length bytes ≡ 8
IsNode ns (kinds.Bytes bytes) = length bytes < 2 ^ 32
IsNode ns (kinds.OldText bytes) = length bytes < 2 ^ 31
IsNode ns (kinds.Text bytes) = IsShortText bytes
IsNode ns (kinds.Tuple items) = AllBelow (length ns) items
IsNode ns (kinds.List items) = AllBelow (length ns) items
IsNode ns (kinds.Dict pairs) = PairsBelow (length ns) pairs
IsNode ns (kinds.Global module_line name_line) = IsGlobal module_line name_line
IsNode ns (kinds.Reference id) = id < length ns
IsNode ns (kinds.Object callee arguments by_new acts) = IsObject ns callee arguments acts

-- these are nodes of a graph
abbrev pub AreNodes : List Node → List Node → Type 0
AreNodes ns [] = Unit {0}
AreNodes ns (node ∷ rest) = IsNode ns node × AreNodes ns rest

-- each node holds what its kind says, and the root is one of them
pub record IsGraph (ns : List Node) (root : ℕ) : Type 0 where
  pub each : AreNodes ns ns
  pub rooted : root < length ns
