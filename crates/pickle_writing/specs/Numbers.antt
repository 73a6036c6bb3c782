-- Numbers kept by node, the newest first; how the writer measures and counts. Own.
use Rattle.std.specs.Prelude.{ℕ, zero, suc, ◌≡◌, ◌≤◌, ◌⊎◌, Bool, true, false, List, [], ◌∷◌, ◌++◌, Option, Some, None, is_some, length, slice_get, nat_lt, ◌==◌, if◌then◌else◌}
use Rattle.std.specs.Ordering.{nat_cmp}
use Rattle.std.specs.BTreeMap.{get}
use Rattle.pickle_graph.specs.declared.node.Node.{Node}
use Rattle.pickle_writing.specs.declared.node_map.Found.{Found}
use Rattle.pickle_writing.specs.declared.node_map.Found.TheVariants.{Few, Many}
use Rattle.pickle_writing.specs.declared.depth.TheConstants.{WALK_LIMIT}
use Rattle.pickle_graph.specs.Parts.{items_at, held_in}
use Rattle.pickle_graph.specs.Walks.{some_item, has_walk, has_way, leads}
use Rattle.pickle_graph.specs.Same.{has}

-- the number kept last for a node
abbrev pub number_of : ℕ → List (ℕ × ℕ) → Option ℕ
number_of m [] = None
number_of m (pair ∷ pairs) = if pair.0 == m then Some pair.1 else number_of m pairs

-- the number in a place of a table
abbrev pub number_in : List (Option ℕ) → ℕ → Option ℕ
number_in [] m = None
number_in (x ∷ xs) zero = x
number_in (x ∷ xs) (suc m) = number_in xs m

-- the number that is found for a node
abbrev pub kept : Found → ℕ → Option ℕ
kept (Few few) m = get nat_cmp few m
kept (Many table) m = number_in table.items m

-- a number is kept for a node
abbrev pub has_number : List (ℕ × ℕ) → ℕ → Bool
has_number pairs m = is_some (number_of m pairs)

-- each node stands once
abbrev pub AllFresh : List (ℕ × ℕ) → Type 0
AllFresh [] = Unit {0}
AllFresh (pair ∷ pairs) = (has_number pairs pair.0 ≡ false) × AllFresh pairs

-- ---- heights

-- the longest walk from a node has so many edges
pub record IsHeight (ns : List Node) (m h : ℕ) : Type 0 where
  pub walk : has_walk h ns m ≡ true
  pub last : has_walk (suc h) ns m ≡ false

-- there are no items
abbrev pub is_end : List ℕ → Bool
is_end [] = true
is_end (item ∷ items) = false

-- a height is known, or no edge starts at the node
abbrev pub is_done : List Node → List (ℕ × ℕ) → ℕ → Bool
is_done ns heights m = if has_number heights m then true else is_end (items_at ns m)

-- heights of nodes are known together with those of their items, of which those without edges have none
pub record IsMeasured (ns : List Node) (heights : List (ℕ × ℕ)) : Type 0 where
  pub right : (m h : ℕ) → number_of m heights ≡ Some h → IsHeight ns m h
  pub closed : (m c : ℕ) → has_number heights m ≡ true → has c (items_at ns m) ≡ true → is_done ns heights c ≡ true
  pub fresh : AllFresh heights

-- a walk of one edge or more leads to a node from each that was begun and isn't measured
abbrev pub IsOpen : List Node → List (ℕ × ℕ) → List (ℕ × ℕ) → ℕ → Type 0
IsOpen ns begun heights m = (b : ℕ) → has_number begun b ≡ true → has_number heights b ≡ false → (j : ℕ) × (has_way (suc j) ns b m ≡ true)

-- each of these is open
abbrev pub AllOpen : List Node → List (ℕ × ℕ) → List (ℕ × ℕ) → List ℕ → Type 0
AllOpen ns begun heights items = (c : ℕ) → has c items ≡ true → IsOpen ns begun heights c

-- what came to be begun is measured
abbrev pub IsMeasuredSince : List (ℕ × ℕ) → List (ℕ × ℕ) → List (ℕ × ℕ) → Type 0
IsMeasuredSince begun later heights = (b : ℕ) → has_number later b ≡ true → (has_number begun b ≡ true) ⊎ (has_number heights b ≡ true)

-- a node was measured: what came to be known is led to from it
pub record Measures (ns : List Node) (levels : ℕ) (old : List (ℕ × ℕ)) (m : ℕ) (new : List (ℕ × ℕ)) (h : ℕ) : Type 0 where
  pub measured : IsMeasured ns new
  pub height : IsHeight ns m h
  pub low : h ≤ levels
  pub kept : (k : ℕ) → has_number old k ≡ true → has_number new k ≡ true
  pub here : is_done ns new m ≡ true
  pub led : (k : ℕ) → has_number new k ≡ true → (has_number old k ≡ true) ⊎ (leads levels ns m k ≡ true)

-- a walk of so many edges, of which the first leads to one of these
abbrev pub walks_in : ℕ → List Node → List ℕ → Bool
walks_in zero ns items = true
walks_in (suc n) ns items = some_item (has_walk n ns) items

-- a walk of at most so many edges, of which the first leads to one of these
abbrev pub leads_in : ℕ → List Node → List ℕ → ℕ → Bool
leads_in zero ns items k = false
leads_in (suc n) ns items k = some_item (λ m. leads n ns m k) items

-- the longest walk whose first edge leads to one of these has so many edges
pub record IsTop (ns : List Node) (items : List ℕ) (h : ℕ) : Type 0 where
  pub walk : walks_in h ns items ≡ true
  pub last : walks_in (suc h) ns items ≡ false

-- the items of a node were measured
pub record MeasuresAll (ns : List Node) (levels : ℕ) (old : List (ℕ × ℕ)) (items : List ℕ) (new : List (ℕ × ℕ)) (h : ℕ) : Type 0 where
  pub measured : IsMeasured ns new
  pub height : IsTop ns items h
  pub low : h ≤ levels
  pub kept : (k : ℕ) → has_number old k ≡ true → has_number new k ≡ true
  pub each : (c : ℕ) → has c items ≡ true → is_done ns new c ≡ true
  pub led : (k : ℕ) → has_number new k ≡ true → (has_number old k ≡ true) ⊎ (leads_in levels ns items k ≡ true)

-- the nodes that the root reaches and at which edges start are known, each once, and no walk is too long
pub record IsReach (ns : List Node) (root : ℕ) (heights : List (ℕ × ℕ)) : Type 0 where
  pub known : (k : ℕ) → is_end (items_at ns k) ≡ false → has_number heights k ≡ leads WALK_LIMIT ns root k
  pub fresh : AllFresh heights
  pub short : has_walk (suc WALK_LIMIT) ns root ≡ false

-- ---- counts

-- the counts with one edge more to a node for which so many were counted
abbrev pub one_edge_more : ℕ → List (ℕ × ℕ) → Option ℕ → List (ℕ × ℕ)
one_edge_more m counts None = (m, 1) ∷ counts
one_edge_more m counts (Some n) = if nat_lt n 2 then (m, 2) ∷ counts else counts

-- one more edge leads to a node; beyond two none is counted
abbrev pub with_edge : ℕ → List (ℕ × ℕ) → List (ℕ × ℕ)
with_edge m counts = one_edge_more m counts (number_of m counts)

-- one more edge leads to each of these nodes
abbrev pub with_edges : List ℕ → List (ℕ × ℕ) → List (ℕ × ℕ)
with_edges [] counts = counts
with_edges (m ∷ ms) counts = with_edges ms (with_edge m counts)

-- the ends of the edges from these nodes
abbrev pub known_ends : List Node → List (ℕ × ℕ) → List ℕ
known_ends ns [] = []
known_ends ns (pair ∷ pairs) = items_at ns pair.0 ++ known_ends ns pairs

-- those of these nodes that stand once, whichever edges lead to them
abbrev pub held_among : List Node → List ℕ → List ℕ
held_among ns [] = []
held_among ns (m ∷ ms) = if held_in (slice_get ns m) then m ∷ held_among ns ms else held_among ns ms

-- what is counted of the edges from these nodes to those that stand once, each node when its height came to be known
abbrev pub counted_for : List Node → List (ℕ × ℕ) → List (ℕ × ℕ)
counted_for ns [] = []
counted_for ns (pair ∷ heights) = with_edges (held_among ns (items_at ns pair.0)) (counted_for ns heights)

-- the edges from the nodes that the root reaches were counted, and one more to the root
pub record IsTally (ns : List Node) (root : ℕ) (counts : List (ℕ × ℕ)) : Type 0 where
  pub heights : List (ℕ × ℕ)
  pub reach : IsReach ns root heights
  pub counted : counts ≡ with_edge root (counted_for ns heights)

-- more than one was counted
abbrev pub above_one : Option ℕ → Bool
above_one None = false
above_one (Some n) = nat_lt 1 n

-- more than one edge to a node was counted
abbrev pub is_many : List (ℕ × ℕ) → ℕ → Bool
is_many counts m = above_one (number_of m counts)

-- ---- puts

-- each put node with its number
abbrev pub numbered : List ℕ → List (ℕ × ℕ)
numbered [] = []
numbered (m ∷ puts) = (m, length puts) ∷ numbered puts

-- the nodes for which numbers are kept
abbrev pub nodes_of : List (ℕ × ℕ) → List ℕ
nodes_of [] = []
nodes_of (pair ∷ pairs) = pair.0 ∷ nodes_of pairs
