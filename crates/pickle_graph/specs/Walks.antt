-- Walks along the edges of a graph. Own.
use Rattle.std.specs.Prelude.{ℕ, zero, suc, Bool, true, false, List, [], ◌∷◌, ◌==◌, ◌≡◌, if◌then◌else◌}
use Rattle.pickle_graph.specs.declared.node.Node.{Node}
use Rattle.pickle_graph.specs.Parts.{items_at}

-- the test passes one of these
abbrev pub some_item : (ℕ → Bool) → List ℕ → Bool
some_item test [] = false
some_item test (m ∷ ms) = if test m then true else some_item test ms

-- a walk of so many edges starts at a node: it has an item from which a walk of one edge less starts
unfoldable pub has_walk : ℕ → List Node → ℕ → Bool
has_walk zero ns m = true
has_walk (suc n) ns m = some_item (has_walk n ns) (items_at ns m)

-- a walk of so many edges leads from a node to another
unfoldable pub has_way : ℕ → List Node → ℕ → ℕ → Bool
has_way zero ns from to = from == to
has_way (suc n) ns from to = some_item (λ m. has_way n ns m to) (items_at ns from)

-- a walk of at most so many edges leads from a node to another
unfoldable pub leads : ℕ → List Node → ℕ → ℕ → Bool
leads zero ns from to = from == to
leads (suc n) ns from to = if from == to then true else some_item (λ m. leads n ns m to) (items_at ns from)

-- from the root a walk leads to a node that another walk, of one edge or more, leads back to
pub record IsCyclic (ns : List Node) (root : ℕ) : Type 0 where
  pub node : ℕ
  pub before : ℕ
  pub round : ℕ
  pub reached : has_way before ns root node ≡ true
  pub back : has_way (suc round) ns node node ≡ true
