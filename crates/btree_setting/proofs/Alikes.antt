-- What is alike to a put of a graph is one of a graph.
use Rattle.std.proofs.Common.{◌≡◌, ℕ, zero, ◌<◌, ◌^◌, Bool, List, [], ◌∷◌, Some, length, ap, inl, inr, sym, ◌∙◌, subst, arith, suc, refl}
use Rattle.std.specs.Prelude.{slice_get}
use Rattle.pickle_graph.specs.declared.node.Node.{Node as ValueNode}
use Rattle.pickle_graph.specs.declared.node.Node.TheVariants as kinds
use Rattle.pickle_graph.specs.Graph.{Graph, IsGraph, IsNode, AreNodes, AllBelow, PairsBelow, ActsBelow, is_tuple}
use Rattle.btree_family.specs.Buckets.{BucketContents, AreValues}
use Rattle.btree_family.specs.Classes.{Class}
use Rattle.bucket_state.specs.Written.{embedded_graph}
use Rattle.zb_record.specs.Alike.{NodeAlike, NodesAlike, GraphsAlike}
use Rattle.btree_shapes.specs.declared.node.Node.{Node}
use Rattle.btree_shapes.specs.declared.node.Node.TheVariants as node
use Rattle.btree_putting.specs.declared.puts.Put.{Put}
use Rattle.btree_putting.specs.Puts.{IsSoundPut, AreSound}
use Rattle.btree_putting.specs.Writing.{child_class, node_graph, AreNodeValues}
use Rattle.btree_setting.proofs.Graphed.{as_many, graph_same, bucket_alike, inner_alike}
use Rattle.btree_setting.proofs.Numbered.{PutAlike, PutsAlike, NodeAlike as PutNodeAlike}

-- ---- graphs

tuple_here : (x y : ValueNode) → NodeAlike x y → is_tuple (Some x) ≡ is_tuple (Some y)
tuple_here x y (inl e) = ap (λ z. is_tuple (Some z)) e
tuple_here x y (inr e) = ap (λ z. is_tuple (Some z)) e.first ∙ sym (ap (λ z. is_tuple (Some z)) e.second)

tuple_at : (ns ms : List ValueNode) (i : ℕ) → NodesAlike ns ms → is_tuple (slice_get ns i) ≡ is_tuple (slice_get ms i)
tuple_at [] [] i h = refl
tuple_at (x ∷ xs) (y ∷ ys) zero h = tuple_here x y h.0
tuple_at (x ∷ xs) (y ∷ ys) (suc i) h = tuple_at xs ys i h.1
tuple_at [] (y ∷ ys) i h = absurd h
tuple_at (x ∷ xs) [] i h = absurd h

module _ (ns ms : List ValueNode) (alike : NodesAlike ns ms) where
  node_sound : (x : ValueNode) → IsNode ns x → IsNode ms x
  node_sound (kinds.Tuple items) h = subst (λ (n : ℕ). AllBelow n items) (as_many ns ms alike) h
  node_sound (kinds.List items) h = subst (λ (n : ℕ). AllBelow n items) (as_many ns ms alike) h
  node_sound (kinds.Dict pairs) h = subst (λ (n : ℕ). PairsBelow n pairs) (as_many ns ms alike) h
  node_sound (kinds.Reference id) h = subst (λ (n : ℕ). id < n) (as_many ns ms alike) h
  node_sound (kinds.Object callee arguments by_new acts) h = record {
    called = subst (λ (n : ℕ). callee < n) (as_many ns ms alike) h.called;
    taken = sym (tuple_at ns ms arguments alike) ∙ h.taken;
    done = subst (λ (n : ℕ). ActsBelow n acts) (as_many ns ms alike) h.done;
  }
  node_sound kinds.None h = tt
  node_sound (kinds.Bool b) h = tt
  node_sound (kinds.Number n) h = h
  node_sound (kinds.Wide bytes) h = h
  node_sound (kinds.Float bytes) h = h
  node_sound (kinds.Bytes bytes) h = h
  node_sound (kinds.OldText bytes) h = h
  node_sound (kinds.Text bytes) h = h
  node_sound (kinds.Global a b) h = h

  alike_sound : (x y : ValueNode) → NodeAlike x y → IsNode ns x → IsNode ms y
  alike_sound x y (inl e) h = subst (IsNode ms) e (node_sound x h)
  alike_sound x y (inr e) h = let short : length e.other < 2 ^ 32 = omega (arith, e.second_long) in subst (IsNode ms) (sym e.second) short

  nodes_sound : (xs ys : List ValueNode) → NodesAlike xs ys → AreNodes ns xs → AreNodes ms ys
  nodes_sound [] [] h k = tt
  nodes_sound (x ∷ xs) (y ∷ ys) h k = (alike_sound x y h.0 k.0, nodes_sound xs ys h.1 k.1)
  nodes_sound [] (y ∷ ys) h k = absurd h
  nodes_sound (x ∷ xs) [] h k = absurd h

alike_graph : (g other : Graph) → IsGraph g.nodes g.root → GraphsAlike g other → IsGraph other.nodes other.root
alike_graph g other is h = record {
  each = nodes_sound g.nodes other.nodes h.nodes g.nodes other.nodes h.nodes is.each;
  rooted = let many = as_many g.nodes other.nodes h.nodes in omega (arith, is.rooted, many, h.root);
}

-- ---- puts

states_alike : (class leaf : Class) (leaves : Bool) (n m : Node) → PutNodeAlike n m → GraphsAlike (node_graph class leaf leaves n) (node_graph class leaf leaves m)
states_alike class leaf leaves (node.Lone a) (node.Lone b) h = graph_same (embedded_graph a.items) (embedded_graph b.items) (ap (λ (x : BucketContents). embedded_graph x.items) h)
states_alike class leaf leaves (node.Leaf a) (node.Leaf b) h = bucket_alike leaf a b h.0 h.1
states_alike class leaf leaves (node.Inner a) (node.Inner b) h = inner_alike (child_class class leaf leaves) leaf a b h.1
states_alike class leaf leaves (node.Lone a) (node.Leaf b) h = absurd h
states_alike class leaf leaves (node.Lone a) (node.Inner b) h = absurd h
states_alike class leaf leaves (node.Leaf a) (node.Lone b) h = absurd h
states_alike class leaf leaves (node.Leaf a) (node.Inner b) h = absurd h
states_alike class leaf leaves (node.Inner a) (node.Lone b) h = absurd h
states_alike class leaf leaves (node.Inner a) (node.Leaf b) h = absurd h

same_values : (n m : Node) → PutNodeAlike n m → AreNodeValues n → AreNodeValues m
same_values (node.Lone a) (node.Lone b) h v = subst (λ (x : BucketContents). AreValues x.items) h v
same_values (node.Leaf a) (node.Leaf b) h v = subst AreValues h.0 v
same_values (node.Inner a) (node.Inner b) h v = tt
same_values (node.Lone a) (node.Leaf b) h v = absurd h
same_values (node.Lone a) (node.Inner b) h v = absurd h
same_values (node.Leaf a) (node.Lone b) h v = absurd h
same_values (node.Leaf a) (node.Inner b) h v = absurd h
same_values (node.Inner a) (node.Lone b) h v = absurd h
same_values (node.Inner a) (node.Leaf b) h v = absurd h

put_sound : (class leaf : Class) (p q : Put) → PutAlike p q → IsSoundPut class leaf p → IsSoundPut class leaf q
put_sound class leaf p q h s = record {
  class_graph = subst (λ (g : Graph). IsGraph g.nodes g.root) h.class s.class_graph;
  state_graph = subst (λ (b : Bool). IsGraph (node_graph class leaf b q.node).nodes (node_graph class leaf b q.node).root) h.leaves
      (alike_graph (node_graph class leaf p.leaves p.node) (node_graph class leaf p.leaves q.node) s.state_graph (states_alike class leaf p.leaves p.node q.node h.node));
  values = same_values p.node q.node h.node s.values;
}

pub puts_sound : (class leaf : Class) (ps qs : List Put) → PutsAlike ps qs → AreSound class leaf ps → AreSound class leaf qs
puts_sound class leaf [] [] h s = tt
puts_sound class leaf (p ∷ ps) (q ∷ qs) h s = (put_sound class leaf p q h.0 s.0, puts_sound class leaf ps qs h.1 s.1)
puts_sound class leaf [] (q ∷ qs) h s = absurd h
puts_sound class leaf (p ∷ ps) [] h s = absurd h
