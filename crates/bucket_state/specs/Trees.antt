-- The states of trees. From: the BTrees package, whose objects give and take these states.
use Rattle.std.specs.Prelude.{ℕ, List, [], ◌∷◌, map, Option, Some, None, slice_get, if◌then◌else◌}
use Rattle.std.specs.Option.{option_and_then}
use Rattle.pickle_graph.specs.declared.node.Node.{Node}
use Rattle.pickle_graph.specs.declared.node.Node.TheVariants as nodes
use Rattle.pickle_graph.specs.Graph.{Graph}
use Rattle.btree_family.specs.declared.key.Key.{Key}
use Rattle.btree_family.specs.declared.table.KeyKind.{KeyKind}
use Rattle.btree_family.specs.Classes.{Class}
use Rattle.btree_family.specs.Buckets.{BucketContents}
use Rattle.bucket_state.specs.declared.entries.Entry.{Entry}
use Rattle.bucket_state.specs.declared.tree.Branch.{Branch}
use Rattle.bucket_state.specs.declared.tree.TreeState.{TreeState}
use Rattle.bucket_state.specs.declared.tree.TreeState.TheVariants.{Empty, Leaf, Children}
use Rattle.bucket_state.specs.States.{found_both, found_all, members_at, key_at, pair_entries, stand_in_row, link_at, bucket_in}

-- the keys of branches, in their order
abbrev pub separators_of : List Branch → List Key
separators_of branches = map (λ branch. branch.key) branches

-- a child, if it is given
abbrev pub child_at : List Node → Option ℕ → Option ℕ
child_at ns None = None
child_at ns (Some n) = link_at ns n

-- a separator, and the child behind it
abbrev pub branch_at : KeyKind → List Node → Entry → Option Branch
branch_at kind ns entry = found_both (λ key child. record { key = key; child = child }) (key_at kind ns entry.key) (child_at ns entry.value)

-- branches whose separators rise strictly and are of one kind
abbrev pub standing_branches : List Branch → Option (List Branch)
standing_branches branches = if stand_in_row None (separators_of branches) then Some branches else None

abbrev pub branches_in : KeyKind → List Node → List ℕ → Option (List Branch)
branches_in kind ns members = option_and_then standing_branches (option_and_then (found_all (branch_at kind ns)) (pair_entries members))

-- the first child, and the branches behind it
abbrev pub children_in : KeyKind → List Node → List ℕ → Option (ℕ × List Branch)
children_in kind ns [] = None
children_in kind ns (head ∷ rest) = found_both (λ oid branches. (oid, branches)) (link_at ns head) (branches_in kind ns rest)

-- children, and the first leaf
abbrev pub inner_in : KeyKind → List Node → ℕ → ℕ → Option TreeState
inner_in kind ns children first =
    found_both (λ found oid. Children (record { head = found.0; tail = found.1; first = oid })) (option_and_then (children_in kind ns) (members_at ns children)) (link_at ns first)

-- a leaf that is no object of its own has no next one
abbrev pub leaf_before : Option ℕ → BucketContents → Option TreeState
leaf_before None found = Some (Leaf found)
leaf_before (Some oid) found = None

abbrev pub lone_leaf : BucketContents → Option TreeState
lone_leaf found = leaf_before found.next found

-- the state of a leaf, in a tuple of its own
abbrev pub embedded_in : Class → List Node → List ℕ → Option TreeState
embedded_in class ns (leaf ∷ []) = option_and_then lone_leaf (option_and_then (bucket_in class ns) (members_at ns leaf))
embedded_in class ns _ = None

abbrev pub tree_members : Class → List Node → List ℕ → Option TreeState
tree_members class ns (embedded ∷ []) = option_and_then (embedded_in class ns) (members_at ns embedded)
tree_members class ns (children ∷ first ∷ []) = inner_in class.key ns children first
tree_members class ns _ = None

-- nothing, a leaf, or children
abbrev pub tree_in : Class → List Node → Option Node → Option TreeState
tree_in class ns (Some nodes.None) = Some Empty
tree_in class ns (Some (nodes.Tuple members)) = tree_members class ns members
tree_in class ns _ = None

-- the state of a tree that a graph is, if it is one
abbrev pub tree_state_of : Class → Graph → Option TreeState
tree_state_of class g = tree_in class g.nodes (slice_get g.nodes g.root)
