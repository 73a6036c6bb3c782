-- What reading a literal answers.
use Rattle.std.proofs.Common.{◌≡◌, ℕ, ◌+◌, false, List, [], Some, sym, ap, subst, ◌∙◌}
use Rattle.std.proofs.lemmas.Option.{same_Some}
use Rattle.pickle_graph.specs.declared.node.Node.{Node}
use Rattle.pickle_writing.specs.declared.depth.TheConstants.{WALK_LIMIT}
use Rattle.pickle_graph.specs.Graph.{Graph, IsGraph}
use Rattle.pickle_graph.specs.Walks.{has_walk}
use Rattle.zb_literals.specs.Values.{Value, IsValue, literal_text}
use Rattle.zb_literals.specs.Graphs.{last_of, with_value, graph_of}
use Rattle.literal_reading.specs.Literals.{IsLiteral}
use Rattle.literal_reading.specs.Reading.{literal_at}
use Rattle.literal_reading.proofs.AgainLaws.{literal_takes, literal_again}
use Rattle.zb_literals.specs.GraphLaws.{value_graph, value_shallow}

-- the nodes that were read, as a graph
pub read_graph : (levels : ℕ) (bytes : List ℕ) (nodes : List Node) (root : ℕ) → literal_at levels bytes ≡ Some nodes → root ≡ last_of nodes → IsGraph nodes root
read_graph levels bytes nodes root e r =
    let t = literal_takes levels bytes nodes e in
    let at_root : IsGraph nodes (last_of nodes) = subst (λ (ns : List Node). IsGraph ns (last_of ns)) (sym t.nodes_are) (value_graph levels t.tree t.is) in
    subst (IsGraph nodes) (sym r) at_root

graph_is : (g : Graph) (nodes : List Node) (root : ℕ) → g.nodes ≡ nodes → g.root ≡ root → root ≡ last_of nodes → (v : Value) → nodes ≡ with_value [] v → g ≡ graph_of v
graph_is g nodes root ns r is v from =
    ap (λ (x : List Node). make x g.root) (ns ∙ from) ∙ ap (make (with_value [] v)) (r ∙ is ∙ ap last_of from)
  where
    make : List Node → ℕ → Graph
    make xs m = record { nodes = xs; root = m }

pub read_literal_is : (bytes : List ℕ) (g : Graph) (nodes : List Node) (root : ℕ) → literal_at (WALK_LIMIT + 1) bytes ≡ Some nodes → root ≡ last_of nodes → g.nodes ≡ nodes → g.root ≡ root → IsLiteral bytes g
read_literal_is bytes g nodes root e is ns r =
    let t = literal_takes (WALK_LIMIT + 1) bytes nodes e in
    record { tree = t.tree; each = t.is; text = t.text; stands = graph_is g nodes root ns r is t.tree t.nodes_are }

-- each tree that is spelled so stands for that graph
pub read_only : (bytes : List ℕ) (g : Graph) (nodes : List Node) (root : ℕ) → literal_at (WALK_LIMIT + 1) bytes ≡ Some nodes → root ≡ last_of nodes → g.nodes ≡ nodes → g.root ≡ root
    → (tree : Value) → IsValue (WALK_LIMIT + 1) tree → bytes ≡ literal_text tree → graph_of tree ≡ g
read_only bytes g nodes root e is ns r tree each text =
    let again : literal_at (WALK_LIMIT + 1) bytes ≡ Some (with_value [] tree) = ap (literal_at (WALK_LIMIT + 1)) text ∙ literal_again (WALK_LIMIT + 1) tree each in
    sym (graph_is g nodes root ns r is tree (same_Some nodes (with_value [] tree) (sym e ∙ again)))

pub read_again : (bytes : List ℕ) (tree : Value) → IsValue (WALK_LIMIT + 1) tree → bytes ≡ literal_text tree → literal_at (WALK_LIMIT + 1) bytes ≡ Some (with_value [] tree)
read_again bytes tree each text = ap (literal_at (WALK_LIMIT + 1)) text ∙ literal_again (WALK_LIMIT + 1) tree each

pub read_shallow : (bytes : List ℕ) (g : Graph) (nodes : List Node) (root : ℕ) → literal_at (WALK_LIMIT + 1) bytes ≡ Some nodes → root ≡ last_of nodes → g.nodes ≡ nodes → g.root ≡ root → has_walk (WALK_LIMIT + 1) g.nodes g.root ≡ false
read_shallow bytes g nodes root e is ns r =
    let t = literal_takes (WALK_LIMIT + 1) bytes nodes e in
    ap (λ (xs : List Node). has_walk (WALK_LIMIT + 1) xs g.root) (ns ∙ t.nodes_are)
    ∙ ap (has_walk (WALK_LIMIT + 1) (with_value [] t.tree)) (r ∙ is ∙ ap last_of t.nodes_are) ∙ value_shallow (WALK_LIMIT + 1) t.tree t.is
