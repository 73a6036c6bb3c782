-- Numbers for new objects of a tree. Own.
use Rattle.std.specs.Prelude.{◌≡◌, ℕ, zero, suc, false, List, [], ◌∷◌, ◌++◌}
use Rattle.btree_shapes.specs.declared.space.Call.{Call}
use Rattle.btree_shapes.specs.declared.space.Call.TheVariants.{Read, Drew, Wrote}
use Rattle.btree_shapes.specs.Nodes.{Held}
use Rattle.btree_shapes.specs.Ways.{stands_in}
use Rattle.btree_shapes.specs.Shapes.{Shape, EachChild, nodes_in, IsSound}

-- none of these numbers stands twice
abbrev pub Differ : List ℕ → Type 0
Differ [] = Unit {0}
Differ (oid ∷ oids) = (stands_in oids oid ≡ false) × Differ oids

-- no object of the shape has one of these numbers
abbrev pub HasNone : List ℕ → (h : ℕ) → Shape h → Type 0
HasNone oids zero s = stands_in oids s.oid ≡ false
HasNone oids (suc h) s = (stands_in oids s.oid ≡ false) × HasNone oids h s.head × EachChild (HasNone oids h) s.tail

-- these numbers differ from each other, and are of no object of the tree
pub record AreNew (objects : ℕ → Held) (root : ℕ) (oids : List ℕ) : Type 0 where
  pub differ : Differ oids
  pub root_apart : stands_in oids root ≡ false
  pub apart : (kind h : ℕ) (s : Shape h) → IsSound (nodes_in objects) root kind h s → HasNone oids h s

-- the numbers that calls gave for new objects, in their order
abbrev pub drawn_in : List Call → List ℕ
drawn_in [] = []
drawn_in (Read oid ∷ calls) = drawn_in calls
drawn_in (Drew oid ∷ calls) = oid ∷ drawn_in calls
drawn_in (Wrote oid ∷ calls) = drawn_in calls

-- the numbers that were drawn between these logs are new to the tree
abbrev pub DrawsNew : (ℕ → Held) → ℕ → List Call → List Call → Type 0
DrawsNew objects root before after = (oids : List ℕ) → drawn_in after ≡ drawn_in before ++ oids → AreNew objects root oids
