-- Graphs in which nothing is shared and no object stands. Own.
use Rattle.std.specs.Prelude.{ℕ, zero, suc, ◌+◌, ◌≡◌, List, [], ◌∷◌, Option, Some, None, Ok, slice_get}
use Rattle.std.specs.List.{AllByRecursion}
use Rattle.zb_ids.specs.Hex.{◌>>=◌}
use Rattle.pickle_graph.specs.declared.node.Node.{Node}
use Rattle.pickle_graph.specs.declared.node.Node.TheVariants as kinds
use Rattle.pickle_writing.specs.declared.depth.TheConstants.{WALK_LIMIT}
use Rattle.pickle_graph.specs.Graph.{Graph, AreNodes}
use Rattle.pickle_writing.specs.Putting.{puts_of}
use Rattle.zb_literals.specs.Values.{Value, leaf, tuple, list, dict, reference, Values, no_values, value, Pairs, no_pairs, pair, AreAllSmall, IsValue, literal_text}
use Rattle.zb_literals.specs.Graphs.{graph_of}
use Rattle.zb_literals.specs.Printing.{literal_of}

abbrev pub values_of : (ℕ → Option Value) → List ℕ → Option Values
values_of piece [] = Some no_values
values_of piece (x ∷ xs) = piece x >>= λ v. values_of piece xs >>= λ vs. Some (value v vs)

abbrev pub pairs_in_tree : (ℕ → Option Value) → List (ℕ × ℕ) → Option Pairs
pairs_in_tree piece [] = Some no_pairs
pairs_in_tree piece (x ∷ xs) = piece x.0 >>= λ k. piece x.1 >>= λ v. pairs_in_tree piece xs >>= λ ps. Some (pair k v ps)

abbrev pub node_tree : (ℕ → Option Value) → Option Node → Option Value
node_tree piece None = None
node_tree piece (Some (kinds.Tuple items)) = values_of piece items >>= λ vs. Some (tuple vs)
node_tree piece (Some (kinds.List items)) = values_of piece items >>= λ vs. Some (list vs)
node_tree piece (Some (kinds.Dict items)) = pairs_in_tree piece items >>= λ ps. Some (dict ps)
node_tree piece (Some (kinds.Reference id)) = piece id >>= λ v. Some (reference v)
node_tree piece (Some (kinds.Object callee arguments by_new acts)) = None
node_tree piece (Some x) = Some (leaf x)

-- the tree into which a node unfolds, where no object stands and each walk has fewer edges than there are levels
unfoldable pub tree_of : ℕ → List Node → ℕ → Option Value
tree_of zero ns m = None
tree_of (suc levels) ns m = node_tree (tree_of levels ns) (slice_get ns m)

-- The bytes that nodes hold are bytes, as they are in every graph that a program holds.
abbrev pub HoldsBytes : Node → Type 0
HoldsBytes (kinds.Wide bytes) = AreAllSmall bytes
HoldsBytes (kinds.Float bytes) = AreAllSmall bytes
HoldsBytes (kinds.Bytes bytes) = AreAllSmall bytes
HoldsBytes (kinds.OldText bytes) = AreAllSmall bytes
HoldsBytes (kinds.Global module_line name_line) = AreAllSmall module_line × AreAllSmall name_line
HoldsBytes _ = Unit {0}

-- a graph that unfolds into a tree and in which the writer puts nothing
pub record IsPlain (g : Graph) (tree : Value) : Type 0 where
  pub nodes : AreNodes g.nodes g.nodes
  pub held : AllByRecursion HoldsBytes g.nodes
  pub unfolds : tree_of (WALK_LIMIT + 1) g.nodes g.root ≡ Some tree
  pub unshared : puts_of g.nodes g.root ≡ Ok []

-- its literal is the script literal of that tree
pub record IsScriptLiteral (g : Graph) (tree : Value) : Type 0 where
  pub is : IsValue (WALK_LIMIT + 1) tree
  pub text : literal_of g.nodes g.root ≡ Ok (literal_text tree)

abbrev pub PlainIsScriptLiteral : Type 0
PlainIsScriptLiteral = (g : Graph) (tree : Value) → IsPlain g tree → IsScriptLiteral g tree

abbrev pub TreesUnfoldAgain : Type 0
TreesUnfoldAgain = (levels : ℕ) (v : Value) → IsValue levels v → tree_of levels (graph_of v).nodes (graph_of v).root ≡ Some v
