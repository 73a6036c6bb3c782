-- The first leaf below an object, and whether a way is at its end. Own.
use Rattle.std.specs.Prelude.{ℕ, Bool, true, false, List, [], ◌∷◌, Result, Ok, Err, ◌==◌, ◌&&◌, if◌then◌else◌}
use Rattle.btree_family.specs.declared.key.Key.{Key}
use Rattle.bucket_state.specs.declared.tree.Inner.{Inner}
use Rattle.btree_shapes.specs.declared.error.TreeError.{TreeError}
use Rattle.btree_shapes.specs.declared.error.TreeError.TheVariants.{NotATree, NodeMissing, BadKey}
use Rattle.btree_shapes.specs.declared.node.Node.{Node}
use Rattle.btree_shapes.specs.declared.node.Node.TheVariants as node
use Rattle.btree_shapes.specs.declared.path.Step.{Step}
use Rattle.btree_shapes.specs.Nodes.{Held, Nothing, Foreign, Holds, node_suits}

-- the first leaf below an object, which a leaf is itself
abbrev pub first_of : ℕ → Node → ℕ
first_of oid (node.Inner inner) = inner.first
first_of oid (node.Lone bucket) = oid
first_of oid (node.Leaf bucket) = oid

-- the refusals of an object that is read, in the order in which they are tested
abbrev pub first_held : Bool → Key → ℕ → Held → Result ℕ TreeError
first_held fits key oid Nothing = Err (NodeMissing oid)
first_held fits key oid Foreign = Err (NotATree oid)
first_held fits key oid (Holds class node) = if fits && node_suits key node then Ok (first_of oid node) else Err BadKey

-- no object stands on the way any more
abbrev pub is_none : List Step → Bool
is_none [] = true
is_none (step ∷ below) = false
