-- The states of nodes that are the same but for numbers are alike.
use Rattle.std.proofs.Common.{◌≡◌, ℕ, ◌+◌, Bool, true, false, List, [], ◌∷◌, ◌++◌, map, Option, Some, None, ◌⊎◌, inl, inr, refl, sym, ◌∙◌, ap, subst, length, suc}
use Rattle.byteorder.specs.Endian.{big_bytes}
use Rattle.pickle_graph.specs.declared.node.Node.{Node as ValueNode}
use Rattle.pickle_graph.specs.declared.node.Node.TheVariants as nodes
use Rattle.pickle_graph.specs.Graph.{Graph}
use Rattle.btree_family.specs.declared.key.Key.{Key}
use Rattle.btree_family.specs.declared.bucket.Item.{Item}
use Rattle.btree_family.specs.Classes.{Class}
use Rattle.btree_family.specs.Buckets.{BucketContents, keys_of}
use Rattle.bucket_state.specs.declared.tree.Branch.{Branch}
use Rattle.bucket_state.specs.declared.tree.Inner.{Inner}
use Rattle.bucket_state.specs.Trees.{separators_of}
use Rattle.bucket_state.specs.Written.{shifted, Laid, no_graphs, laid_on, laid_all, closed, tuple_graph, key_graph, link_graph, item_graphs, next_graphs, bucket_graph, child_graphs, inner_graph}
use Rattle.zb_record.specs.Alike.{AreEight, NodeAlike, NodesAlike, GraphsAlike}
use Rattle.btree_shapes.specs.declared.node.Node.{Node}
use Rattle.btree_shapes.specs.declared.node.Node.TheVariants as node
use Rattle.btree_putting.specs.Writing.{are_writable, child_class, node_writable, node_graph}
use Rattle.btree_setting.proofs.Numbered.{LinkAlike, BranchesAlike, same_separators, NodeAlike as PutNodeAlike}

nodes_same : (ns : List ValueNode) → NodesAlike ns ns
nodes_same [] = tt
nodes_same (x ∷ xs) = (inl refl, nodes_same xs)

pub graph_same : (g other : Graph) → g ≡ other → GraphsAlike g other
graph_same g other e = subst (GraphsAlike g) e (record { nodes = nodes_same g.nodes; root = refl })

pub as_many : (ns ms : List ValueNode) → NodesAlike ns ms → length ns ≡ length ms
as_many [] [] h = refl
as_many (x ∷ xs) (y ∷ ys) h = ap suc (as_many xs ys h.1)
as_many [] (y ∷ ys) h = absurd h
as_many (x ∷ xs) [] h = absurd h

nodes_append : (ns ms xs ys : List ValueNode) → NodesAlike ns ms → NodesAlike xs ys → NodesAlike (ns ++ xs) (ms ++ ys)
nodes_append [] [] xs ys h g = g
nodes_append (n ∷ ns) (m ∷ ms) xs ys h g = (h.0, nodes_append ns ms xs ys h.1 g)
nodes_append [] (m ∷ ms) xs ys h g = absurd h
nodes_append (n ∷ ns) [] xs ys h g = absurd h

shifted_alike : (by : ℕ) (x y : ValueNode) → NodeAlike x y → NodeAlike (shifted by x) (shifted by y)
shifted_alike by x y (inl e) = inl (ap (shifted by) e)
shifted_alike by x y (inr e) = inr (record { one = e.one; other = e.other; first = ap (shifted by) e.first; second = ap (shifted by) e.second; first_long = e.first_long; second_long = e.second_long })

all_shifted : (by : ℕ) (xs ys : List ValueNode) → NodesAlike xs ys → NodesAlike (map (shifted by) xs) (map (shifted by) ys)
all_shifted by [] [] h = tt
all_shifted by (x ∷ xs) (y ∷ ys) h = (shifted_alike by x y h.0, all_shifted by xs ys h.1)
all_shifted by [] (y ∷ ys) h = absurd h
all_shifted by (x ∷ xs) [] h = absurd h

-- ---- graphs side by side

record LaidAlike (a b : Laid) : Type 0 where
  nodes : NodesAlike a.nodes b.nodes
  roots : a.roots ≡ b.roots

abbrev AllAlike : List Graph → List Graph → Type 0
AllAlike [] [] = Unit {0}
AllAlike (g ∷ gs) (h ∷ hs) = GraphsAlike g h × AllAlike gs hs
AllAlike _ _ = ⊥

laid_alike : (a b : Laid) (g h : Graph) → LaidAlike a b → GraphsAlike g h → LaidAlike (laid_on a g) (laid_on b h)
laid_alike a b g h l k =
    let many = as_many a.nodes b.nodes l.nodes in
    let moved : NodesAlike (map (shifted (length a.nodes)) g.nodes) (map (shifted (length b.nodes)) h.nodes) =
    subst (λ (n : ℕ). NodesAlike (map (shifted (length a.nodes)) g.nodes) (map (shifted n) h.nodes)) many (all_shifted (length a.nodes) g.nodes h.nodes k.nodes) in
    record {
      nodes = nodes_append a.nodes b.nodes (map (shifted (length a.nodes)) g.nodes) (map (shifted (length b.nodes)) h.nodes) l.nodes moved;
      roots = λ i. l.roots i ++ (many i + k.root i) ∷ [];
    }

all_laid : (a b : Laid) (gs hs : List Graph) → LaidAlike a b → AllAlike gs hs → LaidAlike (laid_all a gs) (laid_all b hs)
all_laid a b [] [] l k = l
all_laid a b (g ∷ gs) (h ∷ hs) l k = all_laid (laid_on a g) (laid_on b h) gs hs (laid_alike a b g h l k.0) k.1
all_laid a b [] (h ∷ hs) l k = absurd k
all_laid a b (g ∷ gs) [] l k = absurd k

tuple_alike : (gs hs : List Graph) → AllAlike gs hs → GraphsAlike (tuple_graph gs) (tuple_graph hs)
tuple_alike gs hs k =
    let l = all_laid no_graphs no_graphs gs hs (record { nodes = tt; roots = refl }) k in
    record {
      nodes = nodes_append (laid_all no_graphs gs).nodes (laid_all no_graphs hs).nodes (nodes.Tuple (laid_all no_graphs gs).roots ∷ []) (nodes.Tuple (laid_all no_graphs hs).roots ∷ []) l.nodes (inl (ap nodes.Tuple l.roots), tt);
      root = as_many (laid_all no_graphs gs).nodes (laid_all no_graphs hs).nodes l.nodes;
    }

-- ---- links and children

eight : (oid : ℕ) → length (big_bytes 8 oid) ≡ 8
eight oid = refl

link_alike : (a b : ℕ) (m n : List ℕ) → GraphsAlike (link_graph a m n) (link_graph b m n)
unfolding link_graph
link_alike a b m n = record {
  nodes = (
    inr (record { one = big_bytes 8 a; other = big_bytes 8 b; first = refl; second = refl; first_long = eight a; second_long = eight b }),
    (inl refl, (inl refl, (inl refl, tt))),
  );
  root = refl;
}

children_alike : (child : Class) (xs ys : List Branch) → BranchesAlike xs ys → AllAlike (child_graphs child xs) (child_graphs child ys)
children_alike child [] [] h = tt
children_alike child (x ∷ xs) (y ∷ ys) h =
    (graph_same (key_graph x.key) (key_graph y.key) (ap key_graph h.0.key), (link_alike x.child y.child child.module_name child.class_name, children_alike child xs ys h.1))
children_alike child [] (y ∷ ys) h = absurd h
children_alike child (x ∷ xs) [] h = absurd h

next_alike : (leaf : Class) (a b : Option ℕ) → LinkAlike a b → AllAlike (next_graphs leaf a) (next_graphs leaf b)
next_alike leaf None None h = tt
next_alike leaf (Some a) (Some b) h = (link_alike a b leaf.module_name leaf.class_name, tt)
next_alike leaf None (Some b) h = absurd h
next_alike leaf (Some a) None h = absurd h

pub bucket_alike : (leaf : Class) (a b : BucketContents) → a.items ≡ b.items → LinkAlike a.next b.next → GraphsAlike (bucket_graph leaf a) (bucket_graph leaf b)
bucket_alike leaf a b e h =
    tuple_alike (tuple_graph (item_graphs a.items) ∷ next_graphs leaf a.next) (tuple_graph (item_graphs b.items) ∷ next_graphs leaf b.next)
    (graph_same (tuple_graph (item_graphs a.items)) (tuple_graph (item_graphs b.items)) (ap (λ (is : List Item). tuple_graph (item_graphs is)) e), next_alike leaf a.next b.next h)

pub inner_alike : (child leaf : Class) (a b : Inner) → BranchesAlike a.tail b.tail → GraphsAlike (inner_graph child leaf a) (inner_graph child leaf b)
inner_alike child leaf a b h =
    let link : GraphsAlike (link_graph a.head child.module_name child.class_name) (link_graph b.head child.module_name child.class_name) = link_alike a.head b.head child.module_name child.class_name in
    let first : GraphsAlike (link_graph a.first leaf.module_name leaf.class_name) (link_graph b.first leaf.module_name leaf.class_name) = link_alike a.first b.first leaf.module_name leaf.class_name in
    tuple_alike
    (tuple_graph (link_graph a.head child.module_name child.class_name ∷ child_graphs child a.tail) ∷ link_graph a.first leaf.module_name leaf.class_name ∷ [])
    (tuple_graph (link_graph b.head child.module_name child.class_name ∷ child_graphs child b.tail) ∷ link_graph b.first leaf.module_name leaf.class_name ∷ [])
    (tuple_alike (link_graph a.head child.module_name child.class_name ∷ child_graphs child a.tail) (link_graph b.head child.module_name child.class_name ∷ child_graphs child b.tail) (link, children_alike child a.tail b.tail h), (first, tt))

pub same_writable : (a b : Node) → PutNodeAlike a b → node_writable a ≡ node_writable b
same_writable (node.Lone a) (node.Lone b) h = ap (λ (x : BucketContents). are_writable (keys_of x.items)) h
same_writable (node.Leaf a) (node.Leaf b) h = ap (λ (is : List Item). are_writable (keys_of is)) h.0
same_writable (node.Inner a) (node.Inner b) h = ap are_writable (same_separators a.tail b.tail h.1)
same_writable (node.Lone a) (node.Leaf b) h = absurd h
same_writable (node.Lone a) (node.Inner b) h = absurd h
same_writable (node.Leaf a) (node.Lone b) h = absurd h
same_writable (node.Leaf a) (node.Inner b) h = absurd h
same_writable (node.Inner a) (node.Lone b) h = absurd h
same_writable (node.Inner a) (node.Leaf b) h = absurd h
