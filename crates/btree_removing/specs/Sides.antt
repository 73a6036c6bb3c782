-- The children besides the way to a leaf that leaves its tree. From: the BTrees package.
use Rattle.std.specs.Prelude.{ℕ, Bool, List, [], ◌∷◌, ◌++◌, Option, Some, None, if◌then◌else◌}
use Rattle.btree_family.specs.declared.key.Key.{Key}
use Rattle.bucket_state.specs.declared.tree.Branch.{Branch}
use Rattle.btree_family.specs.Keys.{is_below}
use Rattle.btree_removing.specs.declared.rung.Rung.{Rung}
use Rattle.btree_removing.specs.declared.sides.Start.{Start}
use Rattle.btree_removing.specs.declared.sides.Sides.{Sides}

-- the child before the last one whose separator isn't above the key
abbrev pub left_child : Option ℕ → ℕ → List Branch → Key → Option ℕ
left_child left child [] key = left
left_child left child (branch ∷ branches) key = if is_below key branch.key then left else left_child (Some child) branch.child branches key

-- The second child, where the way goes to the first, and the second one's first leaf isn't known: it is no leaf itself.
abbrev pub head_child : Bool → List Branch → Key → Option ℕ
head_child leaves [] key = None
head_child leaves (branch ∷ branches) key = if leaves then None else (if is_below key branch.key then Some branch.child else None)

abbrev pub start_at : List ℕ → Option ℕ → Option Start
start_at above None = None
start_at above (Some child) = Some (record { above = above; child = child })

abbrev pub or_start : Option Start → Option Start → Option Start
or_start None other = other
or_start (Some start) other = Some start

-- an object with one child alone goes with it, and so it is the one above that gets another first child
abbrev pub head_start : List Branch → Option Start → Option Start → Option Start
head_start [] start above = above
head_start (branch ∷ branches) start above = start

-- one object further down
abbrev pub side : List ℕ → Key → Sides → Rung → Sides
side above key found rung = record {
  left = or_start (start_at above (left_child None rung.inner.head rung.inner.tail key)) found.left;
  head = head_start rung.inner.tail (start_at above (head_child rung.leaves rung.inner.tail key)) found.head;
}

-- What is found at these objects, below others. The lowest child to the left of the way counts; and of the objects that have
-- more than one child, the lowest, whether or not the child that leaves it is its first.
abbrev pub sides_from : List ℕ → Key → Sides → List Rung → Sides
sides_from above key found [] = found
sides_from above key found (rung ∷ rungs) = sides_from (above ++ rung.oid ∷ []) key (side (above ++ rung.oid ∷ []) key found rung) rungs

abbrev pub no_sides : Sides
no_sides = record { left = None; head = None }

-- the nearest child to the left of the way, and the child that has to be read since it is the first now
abbrev pub sides_of : Key → List Rung → Sides
sides_of key rungs = sides_from [] key no_sides rungs
