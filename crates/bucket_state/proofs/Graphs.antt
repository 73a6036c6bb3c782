-- Graphs that are laid side by side make a graph.
use Rattle.std.proofs.Common.{◌≡◌, ℕ, zero, suc, ◌+◌, ◌<◌, ◌≤◌, true, List, [], ◌∷◌, ◌++◌, map, length, Option, Some, None, refl, ◌∙◌, ap, arith, length-append}
use Rattle.std.specs.Prelude.{slice_get}
use Rattle.std.specs.Option.{option_map}
use Rattle.pickle_graph.specs.declared.node.Node.{Node}
use Rattle.pickle_graph.specs.declared.node.Node.TheVariants as nodes
use Rattle.pickle_graph.specs.declared.node.Act.{Act}
use Rattle.pickle_graph.specs.declared.node.Act.TheVariants.{Append, Set, Build}
use Rattle.pickle_graph.specs.Graph.{IsGraph, IsNode, AreNodes, AllBelow, PairsBelow, ActBelow, ActsBelow, is_tuple}
use Rattle.bucket_state.specs.Written.{shifted, shifted_act, shifted_pair, IsLaid}

-- ---- numbers below a bound

pub below_more : (n m : ℕ) (xs : List ℕ) → n ≤ m → AllBelow n xs → AllBelow m xs
below_more n m [] l h = tt
below_more n m (x ∷ xs) l h = (omega (arith, h.0), below_more n m xs l h.1)

pub pairs_more : (n m : ℕ) (xs : List (ℕ × ℕ)) → n ≤ m → PairsBelow n xs → PairsBelow m xs
pairs_more n m [] l h = tt
pairs_more n m (x ∷ xs) l h = (omega (arith, h.0), omega (arith, h.1), pairs_more n m xs l h.2)

act_more : (n m : ℕ) (act : Act) → n ≤ m → ActBelow n act → ActBelow m act
act_more n m (Append value) l h = omega arith
act_more n m (Set key value) l h = (omega (arith, h.0), omega (arith, h.1))
act_more n m (Build state) l h = omega arith

pub acts_more : (n m : ℕ) (xs : List Act) → n ≤ m → ActsBelow n xs → ActsBelow m xs
acts_more n m [] l h = tt
acts_more n m (x ∷ xs) l h = (act_more n m x l h.0, acts_more n m xs l h.1)

pub below_shifted : (by n : ℕ) (xs : List ℕ) → AllBelow n xs → AllBelow (by + n) (map (λ k. by + k) xs)
below_shifted by n [] h = tt
below_shifted by n (x ∷ xs) h = (omega (arith, h.0), below_shifted by n xs h.1)

pub pairs_shifted : (by n : ℕ) (xs : List (ℕ × ℕ)) → PairsBelow n xs → PairsBelow (by + n) (map (shifted_pair by) xs)
pairs_shifted by n [] h = tt
pairs_shifted by n (x ∷ xs) h = (omega (arith, h.0), omega (arith, h.1), pairs_shifted by n xs h.2)

act_shifted : (by n : ℕ) (act : Act) → ActBelow n act → ActBelow (by + n) (shifted_act by act)
act_shifted by n (Append value) h = omega arith
act_shifted by n (Set key value) h = (omega (arith, h.0), omega (arith, h.1))
act_shifted by n (Build state) h = omega arith

pub acts_shifted : (by n : ℕ) (xs : List Act) → ActsBelow n xs → ActsBelow (by + n) (map (shifted_act by) xs)
acts_shifted by n [] h = tt
acts_shifted by n (x ∷ xs) h = (act_shifted by n x h.0, acts_shifted by n xs h.1)

-- ---- nodes of a longer list

pub get_front : {X : Type 0} (xs ys : List X) (n : ℕ) (x : X) → slice_get xs n ≡ Some x → slice_get (xs ++ ys) n ≡ Some x
get_front [] ys n x h = cc
get_front (y ∷ xs) ys zero x h = h
get_front (y ∷ xs) ys (suc n) x h = get_front xs ys n x h

pub get_behind : {X : Type 0} (xs ys : List X) (n : ℕ) → slice_get (xs ++ ys) (length xs + n) ≡ slice_get ys n
get_behind [] ys n = let e : 0 + n ≡ n = omega arith in ap (slice_get ys) e
get_behind (x ∷ xs) ys n =
    let e : length (x ∷ xs) + n ≡ suc (length xs + n) = omega arith in
    ap (λ (k : ℕ). slice_get (x ∷ (xs ++ ys)) k) e ∙ get_behind xs ys n

pub get_map : {X Y : Type 0} (f : X → Y) (xs : List X) (n : ℕ) → slice_get (map f xs) n ≡ option_map f (slice_get xs n)
get_map f [] n = refl
get_map f (x ∷ xs) zero = refl
get_map f (x ∷ xs) (suc n) = get_map f xs n

tuple_front : (xs ys : List Node) (n : ℕ) → is_tuple (slice_get xs n) ≡ true → is_tuple (slice_get (xs ++ ys) n) ≡ true
tuple_front [] ys n h = cc
tuple_front (y ∷ xs) ys zero h = h
tuple_front (y ∷ xs) ys (suc n) h = tuple_front xs ys n h

tuple_shifted : (by : ℕ) (o : Option Node) → is_tuple o ≡ true → is_tuple (option_map (shifted by) o) ≡ true
tuple_shifted by None h = cc
tuple_shifted by (Some (nodes.Tuple items)) h = refl
tuple_shifted by (Some nodes.None) h = cc
tuple_shifted by (Some (nodes.Bool b)) h = cc
tuple_shifted by (Some (nodes.Number n)) h = cc
tuple_shifted by (Some (nodes.Wide b)) h = cc
tuple_shifted by (Some (nodes.Float b)) h = cc
tuple_shifted by (Some (nodes.Bytes b)) h = cc
tuple_shifted by (Some (nodes.OldText b)) h = cc
tuple_shifted by (Some (nodes.Text b)) h = cc
tuple_shifted by (Some (nodes.List items)) h = cc
tuple_shifted by (Some (nodes.Dict pairs)) h = cc
tuple_shifted by (Some (nodes.Global a b)) h = cc
tuple_shifted by (Some (nodes.Reference id)) h = cc
tuple_shifted by (Some (nodes.Object a b c d)) h = cc

pub longer : (xs ys : List Node) → length xs ≤ length (xs ++ ys)
longer xs ys = simp length-append (omega arith)

node_more : (ns more : List Node) (node : Node) → IsNode ns node → IsNode (ns ++ more) node
node_more ns more nodes.None h = tt
node_more ns more (nodes.Bool b) h = tt
node_more ns more (nodes.Number n) h = h
node_more ns more (nodes.Wide b) h = h
node_more ns more (nodes.Float b) h = h
node_more ns more (nodes.Bytes b) h = h
node_more ns more (nodes.OldText b) h = h
node_more ns more (nodes.Text b) h = h
node_more ns more (nodes.Tuple items) h = below_more (length ns) (length (ns ++ more)) items (longer ns more) h
node_more ns more (nodes.List items) h = below_more (length ns) (length (ns ++ more)) items (longer ns more) h
node_more ns more (nodes.Dict pairs) h = pairs_more (length ns) (length (ns ++ more)) pairs (longer ns more) h
node_more ns more (nodes.Global a b) h = h
node_more ns more (nodes.Reference id) h = omega (arith, longer ns more)
node_more ns more (nodes.Object callee arguments by_new acts) h =
    record { called = omega (arith, longer ns more, h.called); taken = tuple_front ns more arguments h.taken; done = acts_more (length ns) (length (ns ++ more)) acts (longer ns more) h.done }

nodes_more : (ns more rest : List Node) → AreNodes ns rest → AreNodes (ns ++ more) rest
nodes_more ns more [] h = tt
nodes_more ns more (node ∷ rest) h = (node_more ns more node h.0, nodes_more ns more rest h.1)

nodes_append : (ns xs ys : List Node) → AreNodes ns xs → AreNodes ns ys → AreNodes ns (xs ++ ys)
nodes_append ns [] ys h g = g
nodes_append ns (x ∷ xs) ys h g = (h.0, nodes_append ns xs ys h.1 g)

length_map : {X Y : Type 0} (f : X → Y) (xs : List X) → length (map f xs) ≡ length xs
length_map f [] = refl
length_map f (x ∷ xs) = ap suc (length_map f xs)

-- a graph's nodes behind others
pub length_laid : (ns g : List Node) → length (ns ++ map (shifted (length ns)) g) ≡ length ns + length g
length_laid ns g = length-append ns (map (shifted (length ns)) g) ∙ ap (λ (n : ℕ). length ns + n) (length_map (shifted (length ns)) g)

node_behind : (ns g : List Node) (node : Node) → IsNode g node → IsNode (ns ++ map (shifted (length ns)) g) (shifted (length ns) node)
node_behind ns g nodes.None h = tt
node_behind ns g (nodes.Bool b) h = tt
node_behind ns g (nodes.Number n) h = h
node_behind ns g (nodes.Wide b) h = h
node_behind ns g (nodes.Float b) h = h
node_behind ns g (nodes.Bytes b) h = h
node_behind ns g (nodes.OldText b) h = h
node_behind ns g (nodes.Text b) h = h
node_behind ns g (nodes.Tuple items) h = rw (length_laid ns g) (below_shifted (length ns) (length g) items h)
node_behind ns g (nodes.List items) h = rw (length_laid ns g) (below_shifted (length ns) (length g) items h)
node_behind ns g (nodes.Dict pairs) h = rw (length_laid ns g) (pairs_shifted (length ns) (length g) pairs h)
node_behind ns g (nodes.Global a b) h = h
node_behind ns g (nodes.Reference id) h = omega (arith, length_laid ns g)
node_behind ns g (nodes.Object callee arguments by_new acts) h =
    let place = get_behind ns (map (shifted (length ns)) g) arguments ∙ get_map (shifted (length ns)) g arguments in
    record {
      called = omega (arith, length_laid ns g, h.called);
      taken = ap is_tuple place ∙ tuple_shifted (length ns) (slice_get g arguments) h.taken;
      done = rw (length_laid ns g) (acts_shifted (length ns) (length g) acts h.done);
    }

nodes_behind : (ns g rest : List Node) → AreNodes g rest → AreNodes (ns ++ map (shifted (length ns)) g) (map (shifted (length ns)) rest)
nodes_behind ns g [] h = tt
nodes_behind ns g (node ∷ rest) h = (node_behind ns g node h.0, nodes_behind ns g rest h.1)

pub below_append : (n : ℕ) (xs : List ℕ) (x : ℕ) → AllBelow n xs → x < n → AllBelow n (xs ++ x ∷ [])
below_append n [] x h l = (l, tt)
below_append n (y ∷ ys) x h l = (h.0, below_append n ys x h.1 l)

-- graphs, and one more
pub laid_sound : (ns g : List Node) (roots : List ℕ) (root : ℕ) → IsLaid ns roots → IsGraph g root → IsLaid (ns ++ map (shifted (length ns)) g) (roots ++ (length ns + root) ∷ [])
laid_sound ns g roots root laid graph =
    let all : List Node = ns ++ map (shifted (length ns)) g in
    let long : length ns ≤ length all = longer ns (map (shifted (length ns)) g) in
    let last : length ns + root < length all = omega (arith, length_laid ns g, graph.rooted) in
    record {
      each = nodes_append all ns (map (shifted (length ns)) g) (nodes_more ns (map (shifted (length ns)) g) ns laid.each) (nodes_behind ns g g graph.each);
      rooted = below_append (length all) roots (length ns + root) (below_more (length ns) (length all) roots long laid.rooted) last;
    }

-- the tuple of graphs
pub closed_sound : (ns : List Node) (roots : List ℕ) → IsLaid ns roots → IsGraph (ns ++ nodes.Tuple roots ∷ []) (length ns)
closed_sound ns roots laid =
    let all : List Node = ns ++ nodes.Tuple roots ∷ [] in
    let size : length all ≡ length ns + 1 = length-append ns (nodes.Tuple roots ∷ []) in
    record {
      each = nodes_append all ns (nodes.Tuple roots ∷ []) (nodes_more ns (nodes.Tuple roots ∷ []) ns laid.each) (below_more (length ns) (length all) roots (omega arith) laid.rooted, tt);
      rooted = omega arith;
    }
