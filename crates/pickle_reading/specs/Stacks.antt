-- The stack and the memo of a reader.
use Rattle.std.specs.Prelude.{ℕ, zero, suc, ◌+◌, List, [], ◌∷◌, Option, Some, None}
use Rattle.std.specs.Ordering.{nat_cmp}
use Rattle.std.specs.BTreeMap.{is_at, insert_entry}
use Rattle.std.specs.Map.{lookup}
use Rattle.pickle_reading.specs.declared.state.Item.{Item}
use Rattle.pickle_reading.specs.declared.state.Item.TheVariants.{Value, Mark}
use Rattle.pickle_reading.specs.declared.state.Extent.{Extent}
use Rattle.pickle_reading.specs.declared.state.Extent.TheVariants.{Marked, Top}

-- the top of the stack
abbrev pub top_of : List Item → Option Item
top_of [] = None
top_of (item ∷ below) = Some item

-- values, the lowest first, and what lies below them; or there are none to take
abbrev pub TakenValues : Type 0
TakenValues = Option (List ℕ × List Item)

-- the values above the last mark, in front of these; the mark is gone
abbrev pub above_mark : List Item → List ℕ → TakenValues
above_mark [] values = None
above_mark (Mark ∷ below) values = Some (values, below)
above_mark (Value v ∷ below) values = above_mark below (v ∷ values)

-- so many values from the top, in front of these, with no mark among them
abbrev pub top_values : ℕ → List Item → List ℕ → TakenValues
top_values zero stack values = Some (values, stack)
top_values (suc n) (Value v ∷ below) values = top_values n below (v ∷ values)
top_values (suc n) _ values = None

-- the values that a token takes
abbrev pub values_taken : Extent → List Item → TakenValues
values_taken Marked stack = above_mark stack []
values_taken (Top count) stack = top_values count stack []

-- nodes under the numbers from i on
abbrev pub numbered_from : ℕ → List ℕ → List (ℕ × ℕ)
numbered_from i [] = []
numbered_from i (node ∷ nodes) = (i, node) ∷ numbered_from (i + 1) nodes

-- the memo with a node put under a number, where it replaces what was put there before
abbrev pub put_at : List (ℕ × ℕ) → ℕ → ℕ → List (ℕ × ℕ)
put_at memo number node = insert_entry nat_cmp memo number node

-- the node that was put under a number last
abbrev pub node_at : List (ℕ × ℕ) → ℕ → Option ℕ
node_at memo number = lookup (is_at (nat_cmp number)) memo
