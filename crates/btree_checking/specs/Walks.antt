-- The walk over a tree: an object, and then its children from left to right, each with all below it. Own.
use Rattle.std.specs.Prelude.{ℕ, zero, suc, ◌^◌, List, [], ◌∷◌, ◌++◌, map, Option, Some, None, Result, Ok, Err, if◌then◌else◌}
use Rattle.btree_shapes.specs.declared.node.Node.{Node}
use Rattle.btree_shapes.specs.Nodes.{Held, Nothing, Foreign, Holds}
use Rattle.btree_checking.specs.declared.place.Place.{Place}
use Rattle.btree_checking.specs.declared.links.Pointer.{Pointer}
use Rattle.btree_checking.specs.declared.verdict.Rule.{Rule}
use Rattle.btree_checking.specs.declared.verdict.Rule.TheVariants.{NodeMissing, Shared, NotATree, Keys, Bounds, Depth, Links}
use Rattle.btree_checking.specs.Rules.{Tour, was_visited, rule_broken, with_visit, places_below}

-- where a walk stops: what was visited before, the object that breaks a rule, and the first rule that it breaks
pub record Stop : Type 0 where
  pub visits : List (ℕ × Pointer)
  pub oid : ℕ
  pub rule : Rule

abbrev pub stopped : Place → Tour → Rule → Result Tour Stop
stopped place tour rule = Err (record { visits = tour.visits; oid = place.oid; rule = rule })

-- what comes after a part of the walk
abbrev pub and_then : Result Tour Stop → (Tour → Result Tour Stop) → Result Tour Stop
and_then (Ok tour) next = next tour
and_then (Err stop) next = Err stop

-- objects one after another
abbrev pub in_turn : (Place → Tour → Result Tour Stop) → List Place → Tour → Result Tour Stop
in_turn each [] tour = Ok tour
in_turn each (place ∷ places) tour = and_then (each place tour) (in_turn each places)

-- an object breaks a rule, or its children are next
abbrev pub visit_node : (Place → Tour → Result Tour Stop) → Place → Tour → Node → Option Rule → Result Tour Stop
visit_node below place tour node (Some rule) = stopped place tour rule
visit_node below place tour node None = in_turn below (places_below place node) (with_visit place tour node)

-- the first of three refusals decides, and then the rules on what the object holds
abbrev pub visit_held : (Place → Tour → Result Tour Stop) → Place → Tour → Held → Result Tour Stop
visit_held below place tour Nothing = stopped place tour NodeMissing
visit_held below place tour Foreign = if was_visited tour.visits place.oid then stopped place tour Shared else stopped place tour NotATree
visit_held below place tour (Holds class node) =
    if was_visited tour.visits place.oid then stopped place tour Shared else visit_node below place tour node (rule_broken place tour node)

-- The walk over an object and all below it. No way down has more objects than there are numbers, since each object on it is
-- another one.
unfoldable pub visit : (ℕ → Held) → ℕ → Place → Tour → Result Tour Stop
visit objects zero place tour = stopped place tour Shared
visit objects (suc room) place tour = visit_held (visit objects room) place tour (objects place.oid)

-- the place of a root, and a walk at its start
abbrev pub root_place : ℕ → Place
root_place root = record { oid = root; low = None; high = None; level = 0 }

abbrev pub fresh_tour : Tour
fresh_tour = record { visits = []; kind = None; depth = None; items = 0 }

-- the walk over a tree
abbrev pub walk_of : (ℕ → Held) → ℕ → Result Tour Stop
walk_of objects root = visit objects (2 ^ 64) (root_place root) fresh_tour

-- ---- what was read

abbrev pub oids_in : List (ℕ × Pointer) → List ℕ
oids_in visits = map (λ visit. visit.0) visits

-- an object that was visited before is not read again
abbrev pub last_read : Rule → ℕ → List ℕ
last_read Shared oid = []
last_read NodeMissing oid = oid ∷ []
last_read NotATree oid = oid ∷ []
last_read Keys oid = oid ∷ []
last_read Bounds oid = oid ∷ []
last_read Depth oid = oid ∷ []
last_read Links oid = []

-- the objects that a walk reads, in its order
abbrev pub read_by : Result Tour Stop → List ℕ
read_by (Ok tour) = oids_in tour.visits
read_by (Err stop) = oids_in stop.visits ++ last_read stop.rule stop.oid
