-- The last leaf below an object. Own.
use Rattle.std.specs.Prelude.{ℕ, zero, suc, ◌-◌, ◌^◌, Bool, true, List, [], ◌∷◌, ◌++◌, length, drop, Option, Some, None, Result, Ok, Err, ◌&&◌, if◌then◌else◌}
use Rattle.pickle_graph.specs.Graph.{Graph}
use Rattle.btree_family.specs.declared.key.Key.{Key}
use Rattle.bucket_state.specs.declared.tree.Branch.{Branch}
use Rattle.btree_shapes.specs.declared.error.TreeError.{TreeError}
use Rattle.btree_shapes.specs.declared.error.TreeError.TheVariants.{NotATree, NodeMissing, BadKey}
use Rattle.btree_shapes.specs.declared.node.Node.{Node}
use Rattle.btree_shapes.specs.declared.node.Node.TheVariants as node
use Rattle.btree_shapes.specs.Nodes.{Held, Nothing, Foreign, Holds, node_suits}
use Rattle.btree_shapes.specs.Ways.{stands_in}
use Rattle.btree_putting.specs.declared.puts.Put.{Put}
use Rattle.btree_putting.specs.Puts.{same_link}
use Rattle.btree_removing.specs.declared.last.Last.{Last}
use Rattle.btree_removing.specs.declared.sides.Start.{Start}
use Rattle.btree_removing.specs.Bottoms.{put_leaf}

-- ---- the way

abbrev pub last_child : ℕ → List Branch → ℕ
last_child child [] = child
last_child child (branch ∷ branches) = last_child branch.child branches

abbrev pub last_node : (ℕ → Result Last TreeError) → List ℕ → ℕ → Graph → Node → Result Last TreeError
last_node below above oid class (node.Inner inner) = below (last_child inner.head inner.tail)
last_node below above oid class (node.Lone leaf) = Ok (record { above = above; oid = oid; class = class; node = node.Lone leaf })
last_node below above oid class (node.Leaf leaf) = Ok (record { above = above; oid = oid; class = class; node = node.Leaf leaf })

-- the refusals of an object that is read, in the order in which they are tested
abbrev pub last_held : (ℕ → Result Last TreeError) → Key → List ℕ → ℕ → Held → Result Last TreeError
last_held below key above oid Nothing = Err (NodeMissing oid)
last_held below key above oid Foreign = Err (NotATree oid)
last_held below key above oid (Holds class node) = if node_suits key node then last_node below above oid class node else Err BadKey

-- The way from an object on by last children, below the objects that stand above it. No way has more objects than there are
-- numbers, since an object that stands twice on it is none of the tree.
unfoldable pub last_from : Key → (ℕ → Held) → ℕ → List ℕ → ℕ → Result Last TreeError
last_from key objects zero above oid = Err (NotATree oid)
last_from key objects (suc room) above oid =
    if stands_in above oid then Err (NotATree oid) else last_held (last_from key objects room (above ++ oid ∷ [])) key above oid (objects oid)

abbrev pub last_below : Key → (ℕ → Held) → Start → Result Last TreeError
last_below key objects start = last_from key objects (2 ^ 64 - length start.above) start.above start.child

-- ---- what is read

abbrev pub oids_to : List ℕ → Result Last TreeError → List ℕ
oids_to above (Ok last) = drop (length above) last.above ++ last.oid ∷ []
oids_to above (Err e) = []

-- the objects of the way, each read once
abbrev pub last_oids : Key → (ℕ → Held) → Option Start → List ℕ
last_oids key objects None = []
last_oids key objects (Some start) = oids_to start.above (last_below key objects start)

-- ---- what is met

abbrev pub met_last_below : (ℕ → List ℕ) → Held → List ℕ
met_last_below below Nothing = []
met_last_below below Foreign = []
met_last_below below (Holds class (node.Inner inner)) = below (last_child inner.head inner.tail)
met_last_below below (Holds class (node.Lone leaf)) = []
met_last_below below (Holds class (node.Leaf leaf)) = []

-- The objects on the way by last children from an object on, below those that stand above it, as far as it goes: each is met
-- once.
unfoldable pub met_last : (ℕ → Held) → ℕ → List ℕ → ℕ → List ℕ
met_last objects zero above oid = []
met_last objects (suc room) above oid = if stands_in above oid then [] else oid ∷ met_last_below (met_last objects room (above ++ oid ∷ [])) (objects oid)

abbrev pub met_lasts : (ℕ → Held) → Option Start → List ℕ
met_lasts objects None = []
met_lasts objects (Some start) = met_last objects (2 ^ 64 - length start.above) start.above start.child

-- ---- the link

-- an object with this link, where it is a leaf that has another one
abbrev pub relinked : ℕ → Graph → Node → Option ℕ → List Put
relinked oid class (node.Lone leaf) next = []
relinked oid class (node.Leaf leaf) next = if same_link leaf.next next then [] else put_leaf oid class (node.Leaf (record { items = leaf.items; next = next })) ∷ []
relinked oid class (node.Inner inner) next = []

abbrev pub relink : Option ℕ → Result Last TreeError → Result (List Put) TreeError
relink next (Ok last) = Ok (relinked last.oid last.class last.node next)
relink next (Err e) = Err e

-- the leaf before takes over a link, where there is one before
abbrev pub link_before : Key → (ℕ → Held) → Option ℕ → Option Start → Result (List Put) TreeError
link_before key objects next None = Ok []
link_before key objects next (Some start) = relink next (last_below key objects start)
