-- What is alike to a graph is one.
use Rattle.std.proofs.Common.{ℕ, ◌<◌, ◌^◌, List, [], ◌∷◌, length, inl, inr, sym, ◌∙◌, subst, arith}
use Rattle.std.specs.Prelude.{slice_get}
use Rattle.pickle_graph.specs.declared.node.Node.{Node}
use Rattle.pickle_graph.specs.declared.node.Node.TheVariants as kinds
use Rattle.pickle_graph.specs.Graph.{Graph, IsGraph, IsNode, AreNodes, AllBelow, PairsBelow, ActsBelow}
use Rattle.zb_record.specs.Alike.{NodeAlike, NodesAlike, GraphsAlike}
use Rattle.zb_record.proofs.Pieces.{as_many, get_alike}
use Rattle.zb_record.proofs.Steps.{tuple_alike}

module _ (ns ms : List Node) (alike : NodesAlike ns ms) where
  node_sound : (x : Node) → IsNode ns x → IsNode ms x
  node_sound (kinds.Tuple items) h = subst (λ (n : ℕ). AllBelow n items) (as_many ns ms alike) h
  node_sound (kinds.List items) h = subst (λ (n : ℕ). AllBelow n items) (as_many ns ms alike) h
  node_sound (kinds.Dict pairs) h = subst (λ (n : ℕ). PairsBelow n pairs) (as_many ns ms alike) h
  node_sound (kinds.Reference id) h = subst (λ (n : ℕ). id < n) (as_many ns ms alike) h
  node_sound (kinds.Object callee arguments by_new acts) h = record {
    called = subst (λ (n : ℕ). callee < n) (as_many ns ms alike) h.called;
    taken = sym (tuple_alike (slice_get ns arguments) (slice_get ms arguments) (get_alike ns ms arguments alike)) ∙ h.taken;
    done = subst (λ (n : ℕ). ActsBelow n acts) (as_many ns ms alike) h.done;
  }
  node_sound kinds.None h = tt
  node_sound (kinds.Bool b) h = tt
  node_sound (kinds.Number n) h = h
  node_sound (kinds.Wide bytes) h = h
  node_sound (kinds.Float bytes) h = h
  node_sound (kinds.Bytes bytes) h = h
  node_sound (kinds.OldText bytes) h = h
  node_sound (kinds.Text bytes) h = h
  node_sound (kinds.Global a b) h = h

  alike_sound : (x y : Node) → NodeAlike x y → IsNode ns x → IsNode ms y
  alike_sound x y (inl e) h = subst (IsNode ms) e (node_sound x h)
  alike_sound x y (inr e) h = let short : length e.other < 2 ^ 32 = omega (arith, e.second_long) in subst (IsNode ms) (sym e.second) short

  nodes_sound : (xs ys : List Node) → NodesAlike xs ys → AreNodes ns xs → AreNodes ms ys
  nodes_sound [] [] h k = tt
  nodes_sound (x ∷ xs) (y ∷ ys) h k = (alike_sound x y h.0 k.0, nodes_sound xs ys h.1 k.1)
  nodes_sound [] (y ∷ ys) h k = absurd h
  nodes_sound (x ∷ xs) [] h k = absurd h

pub alike_graph : (g other : Graph) → IsGraph g.nodes g.root → GraphsAlike g other → IsGraph other.nodes other.root
alike_graph g other is h = record {
  each = nodes_sound g.nodes other.nodes h.nodes g.nodes other.nodes h.nodes is.each;
  rooted = let many = as_many g.nodes other.nodes h.nodes in omega (arith, is.rooted, many, h.root);
}
