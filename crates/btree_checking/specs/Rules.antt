-- The rules that a walk tests at each object of a tree. From: the BTrees package; the order of the tests is own.
use Rattle.std.specs.Prelude.{ℕ, ◌+◌, Bool, true, false, List, [], ◌∷◌, ◌++◌, length, Option, Some, None, nat_eq, not, ◌==◌, ◌&&◌, ◌||◌, if◌then◌else◌}
use Rattle.btree_family.specs.declared.key.Key.{Key}
use Rattle.btree_family.specs.Keys.{rank_of, is_below}
use Rattle.btree_family.specs.Buckets.{keys_of}
use Rattle.bucket_state.specs.declared.tree.Branch.{Branch}
use Rattle.bucket_state.specs.Trees.{separators_of}
use Rattle.btree_shapes.specs.declared.node.Node.{Node}
use Rattle.btree_shapes.specs.declared.node.Node.TheVariants.{Lone, Leaf, Inner}
use Rattle.btree_shapes.specs.Nodes.{items_in}
use Rattle.btree_checking.specs.declared.place.Place.{Place}
use Rattle.btree_checking.specs.declared.links.Pointer.{Pointer}
use Rattle.btree_checking.specs.declared.links.Pointer.TheVariants.{First, Next}
use Rattle.btree_checking.specs.declared.verdict.Rule.{Rule}
use Rattle.btree_checking.specs.declared.verdict.Rule.TheVariants.{NotATree, Keys, Bounds, Depth}

-- ---- a walk so far

-- What was visited, in the order of the walk, each object with the leaf that it names; the place of the kind of keys, where
-- one was met; how many objects stand above the first leaf, where one was met; and how many items were met.
pub record Tour : Type 0 where
  pub visits : List (ℕ × Pointer)
  pub kind : Option ℕ
  pub depth : Option ℕ
  pub items : ℕ

-- the object was visited
abbrev pub was_visited : List (ℕ × Pointer) → ℕ → Bool
was_visited [] oid = false
was_visited (visit ∷ visits) oid = nat_eq oid visit.0 || was_visited visits oid

-- ---- the rules on what an object holds

-- the keys or the separators of an object
abbrev pub keys_in : Node → List Key
keys_in (Lone bucket) = keys_of bucket.items
keys_in (Leaf bucket) = keys_of bucket.items
keys_in (Inner inner) = separators_of inner.tail

-- a tree without items, or with a leaf that is no object of its own, stands below no other object
abbrev pub may_stand : ℕ → Node → Bool
may_stand level (Lone bucket) = level == 0
may_stand level (Leaf bucket) = true
may_stand level (Inner inner) = true

abbrev pub are_of_kind : ℕ → List Key → Bool
are_of_kind kind [] = true
are_of_kind kind (key ∷ keys) = (rank_of key == kind) && are_of_kind kind keys

-- keys are of the kind of those that were met before
abbrev pub suit_kind : Option ℕ → List Key → Bool
suit_kind None keys = true
suit_kind (Some kind) keys = are_of_kind kind keys

-- the key is not below a bound, if there is one
abbrev pub is_from : Option Key → Key → Bool
is_from None key = true
is_from (Some low) key = not (is_below key low)

-- the key is below a bound, if there is one
abbrev pub is_up_to : Option Key → Key → Bool
is_up_to None key = true
is_up_to (Some high) key = is_below key high

-- all keys stand from one bound on and below the other
abbrev pub are_within : Option Key → Option Key → List Key → Bool
are_within low high [] = true
are_within low high (key ∷ keys) = (is_from low key && is_up_to high key) && are_within low high keys

-- a leaf is as deep as the first one
abbrev pub suits_depth : Option ℕ → ℕ → Node → Bool
suits_depth (Some depth) level (Lone bucket) = depth == level
suits_depth (Some depth) level (Leaf bucket) = depth == level
suits_depth (Some depth) level (Inner inner) = true
suits_depth None level node = true

-- the first rule on what it holds that an object breaks, if it breaks one
abbrev pub rule_broken : Place → Tour → Node → Option Rule
rule_broken place tour node =
    if not (may_stand place.level node) then Some NotATree
    else if not (suit_kind tour.kind (keys_in node)) then Some Keys
    else if not (are_within place.low place.high (keys_in node)) then Some Bounds
    else if not (suits_depth tour.depth place.level node) then Some Depth
    else None

-- ---- one more object was visited

-- the leaf that an object names
abbrev pub pointer_of : Node → Pointer
pointer_of (Lone bucket) = Next bucket.next
pointer_of (Leaf bucket) = Next bucket.next
pointer_of (Inner inner) = First inner.first

-- the kind of the first key that was met
abbrev pub kind_with : Option ℕ → List Key → Option ℕ
kind_with (Some kind) keys = Some kind
kind_with None [] = None
kind_with None (key ∷ keys) = Some (rank_of key)

-- the depth of the first leaf that was met
abbrev pub depth_with : Option ℕ → ℕ → Node → Option ℕ
depth_with (Some depth) level node = Some depth
depth_with None level (Lone bucket) = Some level
depth_with None level (Leaf bucket) = Some level
depth_with None level (Inner inner) = None

abbrev pub with_visit : Place → Tour → Node → Tour
with_visit place tour node = record {
  visits = tour.visits ++ (place.oid, pointer_of node) ∷ [];
  kind = kind_with tour.kind (keys_in node);
  depth = depth_with tour.depth place.level node;
  items = tour.items + length (items_in node);
}

-- ---- where the children of an object stand

-- a child and those behind it: each between the separators beside it, the first and the last within the bounds
abbrev pub places_from : ℕ → Option Key → Option Key → ℕ → List Branch → List Place
places_from level low high child [] = record { oid = child; low = low; high = high; level = level } ∷ []
places_from level low high child (branch ∷ branches) =
    record { oid = child; low = low; high = Some branch.key; level = level } ∷ places_from level (Some branch.key) high branch.child branches

-- the children of an object, from left to right
abbrev pub places_below : Place → Node → List Place
places_below place (Lone bucket) = []
places_below place (Leaf bucket) = []
places_below place (Inner inner) = places_from (place.level + 1) place.low place.high inner.head inner.tail
