-- What a walk over the leaves gives, on every tree. Own.
use Rattle.std.specs.Prelude.{◌≡◌, ℕ, zero, suc, ◌+◌, ◌-◌, ◌^◌, Bool, true, List, [], ◌∷◌, ◌++◌, map, length, take, drop, Option, Result, Ok, Err, not, ◌&&◌, if◌then◌else◌}
use Rattle.btree_family.specs.declared.key.Key.{Key}
use Rattle.btree_family.specs.declared.bucket.Item.{Item}
use Rattle.bucket_state.specs.declared.tree.Branch.{Branch}
use Rattle.btree_shapes.specs.declared.error.TreeError.{TreeError}
use Rattle.btree_shapes.specs.declared.error.TreeError.TheVariants.{NotATree, NodeMissing, BadKey}
use Rattle.btree_shapes.specs.declared.node.Node.{Node}
use Rattle.btree_shapes.specs.declared.node.Node.TheVariants as node
use Rattle.btree_maps.specs.declared.span.Span.{Span}
use Rattle.btree_maps.specs.declared.span.Span.TheVariants.{All, Within}
use Rattle.btree_maps.specs.declared.walk.Walk.{Walk}
use Rattle.btree_family.specs.Keys.{is_below}
use Rattle.btree_shapes.specs.Nodes.{Held, Nothing, Foreign, Holds, node_suits, place_for, class_held, objects_of}
use Rattle.btree_shapes.specs.Ways.{stands_in, family_key}

-- ---- what is taken

-- the ends are of the kind of the node's keys
abbrev pub ends_suit : Span → Node → Bool
ends_suit All node = true
ends_suit (Within low high) node = node_suits low node && node_suits high node

-- the key is from the lower end on and up to the upper end
abbrev pub takes : Span → Key → Bool
takes All key = true
takes (Within low high) key = not (is_below key low) && not (is_below high key)

-- the items whose keys are taken
abbrev pub items_within : Span → List Item → List Item
items_within span [] = []
items_within span (item ∷ items) = if takes span item.key then item ∷ items_within span items else items_within span items

abbrev pub child_of : Branch → ℕ
child_of branch = branch.child

-- all children, or those from the one for the lower end to the one for the upper end
abbrev pub children_within : Span → ℕ → List Branch → List ℕ
children_within All head tail = head ∷ map child_of tail
children_within (Within low high) head tail = drop (place_for tail low) (take (place_for tail high + 1) (head ∷ map child_of tail))

-- ---- the walk

-- the items of one part and then another's, or the first refusal
abbrev pub and_then : Result (List Item) TreeError → Result (List Item) TreeError → Result (List Item) TreeError
and_then (Ok xs) (Ok ys) = Ok (xs ++ ys)
and_then (Ok xs) (Err e) = Err e
and_then (Err e) r = Err e

-- what objects give, one after another
abbrev pub in_turn : (ℕ → Result (List Item) TreeError) → List ℕ → Result (List Item) TreeError
in_turn each [] = Ok []
in_turn each (oid ∷ oids) = and_then (each oid) (in_turn each oids)

abbrev pub visit_node : Span → (ℕ → Result (List Item) TreeError) → Node → Result (List Item) TreeError
visit_node span each (node.Lone bucket) = Ok (items_within span bucket.items)
visit_node span each (node.Leaf bucket) = Ok (items_within span bucket.items)
visit_node span each (node.Inner inner) = in_turn each (children_within span inner.head inner.tail)

-- The first of three refusals that holds decides: the object is missing, it is no object of the tree, or an end isn't of
-- its kind or not of the family.
abbrev pub visit_held : Bool → Span → (ℕ → Result (List Item) TreeError) → ℕ → Held → Result (List Item) TreeError
visit_held fits span each oid Nothing = Err (NodeMissing oid)
visit_held fits span each oid Foreign = Err (NotATree oid)
visit_held fits span each oid (Holds class node) = if fits && ends_suit span node then visit_node span each node else Err BadKey

-- The items below an object, which stands below others, the newest first. No way has more objects than there are numbers.
unfoldable pub visit : Bool → Span → ℕ → (ℕ → Held) → List ℕ → ℕ → Result (List Item) TreeError
visit fits span zero objects above oid = Err (NotATree oid)
visit fits span (suc room) objects above oid =
    if stands_in above oid then Err (NotATree oid) else visit_held fits span (visit fits span room objects (oid ∷ above)) oid (objects oid)

-- the items of a tree
abbrev pub visited : Bool → Span → (ℕ → Held) → ℕ → Result (List Item) TreeError
visited fits span objects root = visit fits span (2 ^ 64) objects [] root

-- ---- answers

-- all items
abbrev pub items_under : (ℕ → Option (List ℕ)) → ℕ → Result (List Item) TreeError
items_under contents root = visited true All (objects_of contents root) root

-- the items from one key to another, both included
abbrev pub range_under : (ℕ → Option (List ℕ)) → ℕ → Key → Key → Result (List Item) TreeError
range_under contents root low high =
    visited (family_key (class_held (contents root)) low && family_key (class_held (contents root)) high) (Within low high) (objects_of contents root) root

-- ---- what is met

-- what is met at objects, one after another
abbrev pub met_in_turn : (ℕ → List ℕ) → List ℕ → List ℕ
met_in_turn each [] = []
met_in_turn each (oid ∷ oids) = each oid ++ met_in_turn each oids

abbrev pub children_in : Span → Held → List ℕ
children_in span Nothing = []
children_in span Foreign = []
children_in span (Holds class (node.Lone bucket)) = []
children_in span (Holds class (node.Leaf bucket)) = []
children_in span (Holds class (node.Inner inner)) = children_within span inner.head inner.tail

-- The objects that a walk comes to at an object, which stands below others, the newest first: itself, and then what it comes to
-- at its children. One that would stand twice on one way down isn't read.
unfoldable pub met_at : Span → ℕ → (ℕ → Held) → List ℕ → ℕ → List ℕ
met_at span zero objects above oid = []
met_at span (suc room) objects above oid =
    if stands_in above oid then [] else oid ∷ met_in_turn (met_at span room objects (oid ∷ above)) (children_in span (objects oid))

-- the objects of a tree that a walk comes to, as if it were refused at none
abbrev pub met_by : Span → (ℕ → Held) → ℕ → List ℕ
met_by span objects root = met_at span (2 ^ 64) objects [] root

abbrev pub items_met : (ℕ → Option (List ℕ)) → ℕ → List ℕ
items_met contents root = met_by All (objects_of contents root) root

abbrev pub range_met : (ℕ → Option (List ℕ)) → ℕ → Key → Key → List ℕ
range_met contents root low high = met_by (Within low high) (objects_of contents root) root

-- ---- a walk under way

-- what is left to be met where these objects are open, the newest first, and these children of each are left
abbrev pub met_left : Span → (ℕ → Held) → List ℕ → List (List ℕ) → List ℕ
met_left span objects [] lefts = []
met_left span objects (oid ∷ way) [] = []
met_left span objects (oid ∷ way) (left ∷ lefts) =
    met_in_turn (met_at span (2 ^ 64 - length (oid ∷ way)) objects (oid ∷ way)) left ++ met_left span objects way lefts

-- and where one more object is to be visited first
abbrev pub met_entering : Span → (ℕ → Held) → List ℕ → List (List ℕ) → ℕ → List ℕ
met_entering span objects way lefts oid = met_at span (2 ^ 64 - length way) objects way oid ++ met_left span objects way lefts

-- what is left of the walk where these objects are open, the newest first, and these children of each are left
abbrev pub rest_of : Bool → Span → (ℕ → Held) → List ℕ → List (List ℕ) → Result (List Item) TreeError
rest_of fits span objects [] lefts = Ok []
rest_of fits span objects (oid ∷ way) [] = Ok []
rest_of fits span objects (oid ∷ way) (left ∷ lefts) =
    and_then (in_turn (visit fits span (2 ^ 64 - length (oid ∷ way)) objects (oid ∷ way)) left) (rest_of fits span objects way lefts)

-- what a walk comes to
abbrev pub left_of : Bool → Span → (ℕ → Held) → Walk → Result (List Item) TreeError
left_of fits span objects walk = and_then (Ok walk.items) (rest_of fits span objects walk.way walk.lefts)

-- what it comes to, where one more object is to be visited first
abbrev pub entering : Bool → Span → (ℕ → Held) → Walk → ℕ → Result (List Item) TreeError
entering fits span objects walk oid =
    and_then (Ok walk.items) (and_then (visit fits span (2 ^ 64 - length walk.way) objects walk.way oid) (rest_of fits span objects walk.way walk.lefts))

-- the walk after one more node was visited
abbrev pub entered : Span → ℕ → Walk → Node → Walk
entered span oid walk (node.Lone bucket) = record { way = walk.way; lefts = walk.lefts; items = walk.items ++ items_within span bucket.items }
entered span oid walk (node.Leaf bucket) = record { way = walk.way; lefts = walk.lefts; items = walk.items ++ items_within span bucket.items }
entered span oid walk (node.Inner inner) = record { way = oid ∷ walk.way; lefts = children_within span inner.head inner.tail ∷ walk.lefts; items = walk.items }

abbrev pub total : (ℕ → ℕ) → List ℕ → ℕ
total each [] = 0
total each (x ∷ xs) = each x + total each xs

-- how many steps a walk below an object takes at most
unfoldable pub cost : Span → ℕ → (ℕ → Held) → ℕ → ℕ
cost span zero objects oid = 1
cost span (suc room) objects oid = 2 + total (cost span room objects) (children_in span (objects oid))

abbrev pub cost_of : Span → (ℕ → Held) → List ℕ → List (List ℕ) → ℕ
cost_of span objects [] lefts = 0
cost_of span objects (oid ∷ way) [] = 0
cost_of span objects (oid ∷ way) (left ∷ lefts) = 1 + total (cost span (2 ^ 64 - length (oid ∷ way)) objects) left + cost_of span objects way lefts

-- as many open objects as lists of what is left
abbrev pub SameLength : List ℕ → List (List ℕ) → Type 0
SameLength way lefts = length way ≡ length lefts
