-- Walks whose first edge leads to one of several nodes.
use Rattle.std.proofs.Common.{◌≡◌, ℕ, zero, suc, ◌+◌, true, List, refl, arith, eqb, inl, inr}
use Rattle.pickle_graph.specs.declared.node.Node.{Node}
use Rattle.pickle_graph.specs.Parts.{items_at}
use Rattle.pickle_graph.specs.Walks.{has_walk, has_way, leads, IsCyclic}
use Rattle.pickle_graph.specs.WalkLaws.{cases_bool, some-find, some-has, walk-less, way-walk, round-walk, leads-way}
use Rattle.pickle_writing.specs.declared.depth.TheConstants.{WALK_LIMIT}
use Rattle.pickle_writing.specs.Numbers.{walks_in, leads_in}

-- a node's walks are those of its items
pub walk-in : (n : ℕ) (ns : List Node) (m : ℕ) → has_walk n ns m ≡ walks_in n ns (items_at ns m)
unfolding has_walk
walk-in zero ns m = refl
walk-in (suc n) ns m = refl

-- where items lead back, walks never end
pub back-walk : (levels n : ℕ) (ns : List Node) (m : ℕ) → leads_in levels ns (items_at ns m) m ≡ true → has_walk n ns m ≡ true
unfolding has_way
back-walk zero n ns m h = absurd cc
back-walk (suc levels) n ns m h =
    let f = some-find (λ c. leads levels ns c m) (items_at ns m) h in
    let w = leads-way levels ns f.0 m f.2 in
    round-walk w.0 n ns m (some-has (λ c. has_way w.0 ns c m) f.0 (items_at ns m) f.1 w.1)

-- what the items lead to, the node leads to
pub leads-on : (n : ℕ) (ns : List Node) (m k : ℕ) → leads_in n ns (items_at ns m) k ≡ true → leads n ns m k ≡ true
unfolding leads
leads-on zero ns m k h = absurd cc
leads-on (suc n) ns m k h = elim (cases_bool (eqb m k)) [ inl e ↦ rw e refl | inr e ↦ rw e h ]

-- Each cyclic graph is too deep.
pub cyclic-deep : (ns : List Node) (root : ℕ) → IsCyclic ns root → has_walk (WALK_LIMIT + 1) ns root ≡ true
cyclic-deep ns root c =
    walk-less (c.before + (WALK_LIMIT + 1)) (WALK_LIMIT + 1) ns root (omega arith)
    (way-walk c.before (WALK_LIMIT + 1) ns root c.node c.reached (round-walk c.round (WALK_LIMIT + 1) ns c.node c.back))
