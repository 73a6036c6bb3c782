-- What a remove reads and is to put, on every tree. Own.
use Rattle.std.specs.Prelude.{ℕ, Bool, true, List, [], ◌∷◌, ◌++◌, Option, Some, None, Result, Ok, Err, ◌&&◌, if◌then◌else◌}
use Rattle.btree_family.specs.declared.key.Key.{Key}
use Rattle.btree_family.specs.Classes.{Class, classes, leaf_in}
use Rattle.btree_shapes.specs.declared.error.TreeError.{TreeError}
use Rattle.btree_shapes.specs.declared.error.TreeError.TheVariants.{NotATree}
use Rattle.btree_shapes.specs.declared.path.Step.{Step}
use Rattle.btree_shapes.specs.declared.space.Call.{Call}
use Rattle.btree_shapes.specs.declared.way.Found.{Found}
use Rattle.btree_shapes.specs.Nodes.{Held, class_held, objects_of}
use Rattle.btree_shapes.specs.Met.{met_for}
use Rattle.btree_shapes.specs.Ways.{stands_in, way_for, family_key, reads, reads_of}
use Rattle.btree_putting.specs.declared.puts.Put.{Put}
use Rattle.btree_putting.specs.Puts.{sort_puts}
use Rattle.btree_putting.specs.Firsts.{first_held}
use Rattle.btree_putting.specs.Writing.{has_leaf}
use Rattle.btree_removing.specs.declared.rung.Rung.{Rung}
use Rattle.btree_removing.specs.declared.sides.Start.{Start}
use Rattle.btree_removing.specs.declared.sides.Sides.{Sides}
use Rattle.btree_removing.specs.Bottoms.{bottom_of, is_emptied, is_leaf, next_of}
use Rattle.btree_removing.specs.Rungs.{rungs_of}
use Rattle.btree_removing.specs.Sides.{sides_of}
use Rattle.btree_removing.specs.Lasts.{last_oids, link_before, met_lasts}
use Rattle.btree_removing.specs.Losses.{raise, leaves_tree}

-- ---- children besides the way

-- an embedded leaf has no link that the leaf before it could take over
abbrev pub left_asked : Bool → Option Start → Option Start
left_asked leaf start = if leaf then start else None

abbrev pub known_first : Result ℕ TreeError → Result (Option ℕ) TreeError
known_first (Ok first) = Ok (Some first)
known_first (Err e) = Err e

-- the first leaf below the child that is the first now, where it is to be read
abbrev pub first_head : Key → (ℕ → Held) → Option Start → Result (Option ℕ) TreeError
first_head key objects None = Ok None
first_head key objects (Some start) =
    if stands_in start.above start.child then Err (NotATree start.child) else known_first (first_held true key start.child (objects start.child))

abbrev pub head_oids : Option Start → List ℕ
head_oids None = []
head_oids (Some start) = start.child ∷ []

-- ---- an emptied leaf

-- all puts, with the leaf before the one that leaves
abbrev pub all_puts : Key → List Rung → Put → List Put → Option ℕ → List Put
all_puts key rungs leaf before known = sort_puts (before ++ (raise key known rungs (leaves_tree leaf)).puts)

-- the leaf before is read first, and then the child that is the first now
abbrev pub puts_with : Key → List Rung → Put → Result (List Put) TreeError → Result (Option ℕ) TreeError → Result (List Put) TreeError
puts_with key rungs leaf (Ok before) (Ok known) = Ok (all_puts key rungs leaf before known)
puts_with key rungs leaf (Ok before) (Err e) = Err e
puts_with key rungs leaf (Err e) known = Err e

abbrev pub puts_leaving : Key → (ℕ → Held) → List Rung → Put → Sides → Result (List Put) TreeError
puts_leaving key objects rungs leaf sides =
    puts_with key rungs leaf (link_before key objects (next_of leaf.node) (left_asked (is_leaf leaf.node) sides.left)) (first_head key objects sides.head)

abbrev pub oids_leaving : Key → (ℕ → Held) → Put → Sides → List ℕ
oids_leaving key objects leaf sides = last_oids key objects (left_asked (is_leaf leaf.node) sides.left) ++ head_oids sides.head

-- ---- all puts

abbrev pub rungs_above : Put → List Step → List Rung
rungs_above leaf path = rungs_of (is_leaf leaf.node) path

abbrev pub puts_for : Key → (ℕ → Held) → List Step → Put → Result (List Put) TreeError
puts_for key objects path leaf =
    if is_emptied leaf.node then puts_leaving key objects (rungs_above leaf path) leaf (sides_of key (rungs_above leaf path)) else Ok (leaf ∷ [])

abbrev pub oids_for : Key → (ℕ → Held) → List Step → Put → List ℕ
oids_for key objects path leaf = if is_emptied leaf.node then oids_leaving key objects leaf (sides_of key (rungs_above leaf path)) else []

abbrev pub some_puts : Result (List Put) TreeError → Result (Option (List Put)) TreeError
some_puts (Ok puts) = Ok (Some puts)
some_puts (Err e) = Err e

abbrev pub plan_for : Key → (ℕ → Held) → List Step → Option Put → Result (Option (List Put)) TreeError
plan_for key objects path None = Ok None
plan_for key objects path (Some leaf) = some_puts (puts_for key objects path leaf)

-- what is to be put where a way ends: nothing, where the key is absent
abbrev pub plan_found : Key → (ℕ → Held) → Found → Result (Option (List Put)) TreeError
plan_found key objects found = plan_for key objects found.path (bottom_of found.oid found.class found.node key)

abbrev pub plan_by : Key → (ℕ → Held) → Result Found TreeError → Result (Option (List Put)) TreeError
plan_by key objects (Ok found) = plan_found key objects found
plan_by key objects (Err e) = Err e

-- ---- the way

abbrev pub family_leaf : Option Class → Bool
family_leaf None = true
family_leaf (Some class) = has_leaf (leaf_in classes class)

-- whether a key is of the family of the root's class
abbrev pub fits_tree : Option Class → Key → Bool
fits_tree class key = family_key class key && family_leaf class

-- the way of a remove
abbrev pub remove_way : (ℕ → Option (List ℕ)) → ℕ → Key → Result Found TreeError
remove_way contents root key = way_for (fits_tree (class_held (contents root)) key) key (objects_of contents root) root

-- what is to be put, or the first refusal
abbrev pub plan_under : (ℕ → Option (List ℕ)) → ℕ → Key → Result (Option (List Put)) TreeError
plan_under contents root key = plan_by key (objects_of contents root) (remove_way contents root key)

-- ---- what is read

abbrev pub oids_with : Key → (ℕ → Held) → List Step → Option Put → List ℕ
oids_with key objects path None = []
oids_with key objects path (Some leaf) = oids_for key objects path leaf

-- the objects besides the way
abbrev pub oids_found : Key → (ℕ → Held) → Found → List ℕ
oids_found key objects found = oids_with key objects found.path (bottom_of found.oid found.class found.node key)

abbrev pub reads_by : Key → (ℕ → Held) → Result Found TreeError → List Call
reads_by key objects (Ok found) = reads_of (Ok found) ++ reads (oids_found key objects found)
reads_by key objects (Err e) = []

-- ---- what is met

-- the objects that are read where a leaf leaves its tree: those of the way to the leaf before, as far as it goes, and then the
-- child that is the first now
abbrev pub met_leaving : (ℕ → Held) → Put → Sides → List ℕ
met_leaving objects leaf sides = met_lasts objects (left_asked (is_leaf leaf.node) sides.left) ++ head_oids sides.head

abbrev pub met_puts : Key → (ℕ → Held) → List Step → Put → List ℕ
met_puts key objects path leaf = if is_emptied leaf.node then met_leaving objects leaf (sides_of key (rungs_above leaf path)) else []

abbrev pub met_with : Key → (ℕ → Held) → List Step → Option Put → List ℕ
met_with key objects path None = []
met_with key objects path (Some leaf) = met_puts key objects path leaf

-- the objects besides the way
abbrev pub met_beside : Key → (ℕ → Held) → Found → List ℕ
met_beside key objects found = met_with key objects found.path (bottom_of found.oid found.class found.node key)

abbrev pub beside_by : Key → (ℕ → Held) → Result Found TreeError → List ℕ
beside_by key objects (Ok found) = met_beside key objects found
beside_by key objects (Err e) = []

-- the objects that a remove may read, in this order: those of the way, as far as it goes, and then those besides it
abbrev pub met_under : (ℕ → Option (List ℕ)) → ℕ → Key → List ℕ
met_under contents root key = met_for contents root key ++ beside_by key (objects_of contents root) (remove_way contents root key)

-- the objects of the way, and then those besides it, each from the root down
abbrev pub reads_under : (ℕ → Option (List ℕ)) → ℕ → Key → List Call
reads_under contents root key = reads_by key (objects_of contents root) (remove_way contents root key)
