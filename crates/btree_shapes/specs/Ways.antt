-- The ways of calls on a tree, sound or not. Own.
use Rattle.std.specs.Prelude.{◌≡◌, ℕ, zero, suc, ◌^◌, Bool, true, List, [], ◌∷◌, ◌++◌, map, length, Option, Some, None, Result, Ok, Err, nat_eq, if◌then◌else◌, ◌&&◌}
use Rattle.std.specs.List.{list_any}
use Rattle.pickle_graph.specs.Graph.{Graph}
use Rattle.btree_family.specs.declared.key.Key.{Key}
use Rattle.btree_family.specs.Classes.{Class}
use Rattle.btree_family.specs.Families.{key_fits}
use Rattle.btree_shapes.specs.declared.error.TreeError.{TreeError}
use Rattle.btree_shapes.specs.declared.error.TreeError.TheVariants.{NotATree, NodeMissing, BadKey, Refused, Memory}
use Rattle.btree_shapes.specs.declared.node.Node.{Node}
use Rattle.btree_shapes.specs.declared.node.Node.TheVariants as node
use Rattle.btree_shapes.specs.declared.path.Step.{Step}
use Rattle.btree_shapes.specs.declared.way.Found.{Found}
use Rattle.btree_shapes.specs.declared.space.Call.{Call}
use Rattle.btree_shapes.specs.declared.space.Call.TheVariants.{Read}
use Rattle.btree_shapes.specs.Nodes.{Held, Nothing, Foreign, Holds, node_suits, child_for, items_in, value_in, class_held, objects_of}

-- whether the number stands in the list
abbrev pub stands_in : List ℕ → ℕ → Bool
stands_in oids oid = list_any (λ other. nat_eq other oid) oids

abbrev pub step_oid : Step → ℕ
step_oid step = step.oid

-- ---- the way for a key

-- a step, and what stands below it
abbrev pub below_step : Step → Result Found TreeError → Result Found TreeError
below_step step (Ok found) = Ok (record { path = step ∷ found.path; oid = found.oid; class = found.class; node = found.node })
below_step step (Err e) = Err e

abbrev pub down_node : (ℕ → Result Found TreeError) → Key → ℕ → Graph → Node → Result Found TreeError
down_node below key oid class (node.Inner inner) =
    below_step (record { oid = oid; class = class; inner = inner }) (below (child_for inner.head inner.tail key))
down_node below key oid class (node.Lone bucket) = Ok (record { path = []; oid = oid; class = class; node = node.Lone bucket })
down_node below key oid class (node.Leaf bucket) = Ok (record { path = []; oid = oid; class = class; node = node.Leaf bucket })

-- The first of three refusals that holds decides: the object is missing, it is no object of the tree, or the key isn't of
-- its kind or not of the family.
abbrev pub down_held : (ℕ → Result Found TreeError) → Bool → Key → ℕ → Held → Result Found TreeError
down_held below fits key oid Nothing = Err (NodeMissing oid)
down_held below fits key oid Foreign = Err (NotATree oid)
down_held below fits key oid (Holds class node) = if fits && node_suits key node then down_node below key oid class node else Err BadKey

-- The way for a key from an object on, below the objects that stand above it. No way has more objects than there are
-- numbers, since an object that stands twice on it is none of the tree.
unfoldable pub way_from : Bool → Key → (ℕ → Held) → ℕ → List ℕ → ℕ → Result Found TreeError
way_from fits key objects zero above oid = Err (NotATree oid)
way_from fits key objects (suc room) above oid =
    if stands_in above oid then Err (NotATree oid) else down_held (way_from fits key objects room (above ++ oid ∷ [])) fits key oid (objects oid)

-- the way for a key from the root on
abbrev pub way_for : Bool → Key → (ℕ → Held) → ℕ → Result Found TreeError
way_for fits key objects root = way_from fits key objects (2 ^ 64) [] root

-- some steps, and then what stands below them
abbrev pub below_path : List Step → Result Found TreeError → Result Found TreeError
below_path steps (Ok found) = Ok (record { path = steps ++ found.path; oid = found.oid; class = found.class; node = found.node })
below_path steps (Err e) = Err e

-- ---- answers

-- want of memory, and a refusal of the space, may come at any time; every other refusal is the one of the definition
abbrev pub IsRefusal : {Y : Type 0} → TreeError → Result Y TreeError → Type 0
IsRefusal (NotATree oid) defined = defined ≡ Err (NotATree oid)
IsRefusal (NodeMissing oid) defined = defined ≡ Err (NodeMissing oid)
IsRefusal BadKey defined = defined ≡ Err BadKey
IsRefusal (Refused refusal) defined = Unit {0}
IsRefusal Memory defined = Unit {0}

-- the answer is the one of the definition
abbrev pub Answers : {Y : Type 0} → Result Y TreeError → Result Y TreeError → Type 0
Answers (Ok y) defined = defined ≡ Ok y
Answers (Err e) defined = IsRefusal e defined

-- ---- looking up

-- whether a key is one of the family, where the root has a class
abbrev pub family_key : Option Class → Key → Bool
family_key None key = true
family_key (Some class) key = key_fits class.key key

-- what a call that goes by the way for a key begins with
abbrev pub key_way : (ℕ → Option (List ℕ)) → ℕ → Key → Result Found TreeError
key_way contents root key = way_for (family_key (class_held (contents root)) key) key (objects_of contents root) root

abbrev pub value_found : Key → Result Found TreeError → Result (Option (List ℕ)) TreeError
value_found key (Ok found) = Ok (value_in (items_in found.node) key)
value_found key (Err e) = Err e

-- what stands under a key
abbrev pub value_under : (ℕ → Option (List ℕ)) → ℕ → Key → Result (Option (List ℕ)) TreeError
value_under contents root key = value_found key (key_way contents root key)

-- the objects of a way, each read once, from the root on
abbrev pub reads : List ℕ → List Call
reads oids = map Read oids

abbrev pub reads_of : Result Found TreeError → List Call
reads_of (Ok found) = reads (map step_oid found.path ++ found.oid ∷ [])
reads_of (Err e) = []

-- nothing but reads
pub record OnlyReads (before after : List Call) : Type 0 where
  pub oids : List ℕ
  pub grown : after ≡ before ++ reads oids

-- so many reads, and nothing else
pub record TookReads (n : ℕ) (before after : List Call) : Type 0 where
  pub oids : List ℕ
  pub grown : after ≡ before ++ reads oids
  pub count : length oids ≡ n
