-- The states that are merged.
use Rattle.std.specs.Prelude.{ℕ, ℤ, Bool, true, false, List, [], ◌∷◌, Option, Some, None, Result, Ok, Err, slice_get, ◌==◌, ◌&&◌, if◌then◌else◌}
use Rattle.std.specs.Option.{option_map}
use Rattle.pickle_graph.specs.declared.node.Node.{Node}
use Rattle.pickle_graph.specs.declared.node.Node.TheVariants as nodes
use Rattle.pickle_graph.specs.Graph.{Graph}
use Rattle.pickle_writing.specs.Spelling.{Spelled}
use Rattle.btree_family.specs.declared.key.Key.{Key}
use Rattle.btree_family.specs.declared.table.Kind.{Kind}
use Rattle.btree_family.specs.declared.table.Kind.TheVariants as kinds
use Rattle.btree_family.specs.Keys.{rank_of}
use Rattle.btree_family.specs.Classes.{Class}
use Rattle.btree_family.specs.Buckets.{BucketContents, keys_of}
use Rattle.bucket_state.specs.declared.tree.TreeState.{TreeState}
use Rattle.bucket_state.specs.declared.tree.TreeState.TheVariants as trees
use Rattle.bucket_state.specs.States.{bucket_of}
use Rattle.bucket_state.specs.Trees.{separators_of, tree_state_of}
use Rattle.bucket_state.specs.Writable.{AreWritable}
use Rattle.bucket_state.specs.Depths.{AreShallow, bucket_depth, leaf_depth}
use Rattle.zb_record.specs.declared.error.RecordError.{RecordError}
use Rattle.zb_record.specs.Records.{record_of, object_text}
use Rattle.zb_resolve.specs.declared.state.State.{State}
use Rattle.zb_resolve.specs.declared.state.State.TheVariants.{Leaf, Inner, Count}
use Rattle.zb_resolve.specs.Classes.{ClassRule, Family, Counter, is_class_of}

abbrev pub empty_leaf : BucketContents
empty_leaf = record { items = []; next = None }

-- a tree without items is an empty leaf
abbrev pub leaf_or_inner : TreeState → State
leaf_or_inner trees.Empty = Leaf empty_leaf
leaf_or_inner (trees.Leaf leaf) = Leaf leaf
leaf_or_inner (trees.Children inner) = Inner inner

-- the objects of such a class are trees
abbrev pub is_tree : Kind → Bool
is_tree kinds.Bucket = false
is_tree kinds.Set = false
is_tree kinds.Tree = true
is_tree kinds.TreeSet = true

-- the state of a bucket, a set or a tree that a graph is, if it is one
abbrev pub family_state : Class → Graph → Option State
family_state class g =
    if is_tree class.kind then option_map leaf_or_inner (tree_state_of class g) else option_map Leaf (bucket_of class g)

-- a counter's state is a number
abbrev pub number_state : Option Node → Option State
number_state (Some (nodes.Number n)) = Some (Count n)
number_state _ = None

-- the state of an object of the rule's class that a graph is, if it is one
abbrev pub state_of : ClassRule → Graph → Option State
state_of (Family class) g = family_state class g
state_of Counter g = number_state (slice_get g.nodes g.root)

-- it has a text, and so is not too deep to write
abbrev pub is_written : Spelled → Bool
is_written (Ok text) = true
is_written (Err e) = false

abbrev pub state_in : ClassRule → Result (Graph × Graph) RecordError → Option State
state_in rule (Err e) = None
state_in rule (Ok object) =
    if is_class_of rule object.0 then if is_written (object_text object.0 object.1) then state_of rule object.1 else None else None

-- the state that bytes hold, where they are a record of the rule's class that can be written, with a state of it
abbrev pub readable : ClassRule → List ℕ → Option State
readable rule bytes = state_in rule (record_of bytes)

-- a leaf, or a count, where the state is one
abbrev pub leaf_in : State → Option BucketContents
leaf_in (Leaf leaf) = Some leaf
leaf_in (Inner inner) = None
leaf_in (Count n) = None

abbrev pub count_in : State → Option ℤ
count_in (Leaf leaf) = None
count_in (Inner inner) = None
count_in (Count n) = Some n

-- ---- kinds of keys

-- the keys of a state; separators are keys
abbrev pub keys_in : State → List Key
keys_in (Leaf leaf) = keys_of leaf.items
keys_in (Inner inner) = separators_of inner.tail
keys_in (Count n) = []

-- the kind of keys that are all of one kind, if there are any
abbrev pub kind_of : List Key → Option ℕ
kind_of [] = None
kind_of (key ∷ keys) = Some (rank_of key)

-- the kind of a key, if there is one
abbrev pub kind_of_first : Option Key → Option ℕ
kind_of_first None = None
kind_of_first (Some key) = Some (rank_of key)

-- where both have keys, they are of one kind
abbrev pub kinds_agree : Option ℕ → Option ℕ → Bool
kinds_agree None other = true
kinds_agree (Some kind) None = true
kinds_agree (Some kind) (Some other) = kind == other

-- the keys of all three are of one kind
abbrev pub are_alike : State → State → State → Bool
are_alike old committed stored =
    kinds_agree (kind_of (keys_in old)) (kind_of (keys_in committed))
    && (kinds_agree (kind_of (keys_in old)) (kind_of (keys_in stored)) && kinds_agree (kind_of (keys_in committed)) (kind_of (keys_in stored)))

-- how deep the values of a leaf may be, by what it is the state of
abbrev pub depth_of : Kind → ℕ
depth_of kind = if is_tree kind then leaf_depth else bucket_depth

abbrev pub depth_for : ClassRule → ℕ
depth_for (Family class) = depth_of class.kind
depth_for Counter = 0

-- the values of a leaf are no deeper
abbrev pub IsShallowState : ℕ → State → Type 0
IsShallowState n (Leaf leaf) = AreShallow n leaf.items
IsShallowState n (Inner inner) = Unit {0}
IsShallowState n (Count count) = Unit {0}

abbrev pub IsShallowTree : TreeState → Type 0
IsShallowTree trees.Empty = Unit {0}
IsShallowTree (trees.Leaf leaf) = AreShallow leaf_depth leaf.items
IsShallowTree (trees.Children inner) = Unit {0}

-- the keys of a leaf can be written
abbrev pub IsWritableState : State → Type 0
IsWritableState (Leaf leaf) = AreWritable (keys_of leaf.items)
IsWritableState (Inner inner) = Unit {0}
IsWritableState (Count n) = Unit {0}
