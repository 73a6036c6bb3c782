-- What a set finds by its way, on every tree. Own.
use Rattle.std.specs.Prelude.{◌≡◌, ℕ, Bool, true, false, List, [], ◌∷◌, ◌++◌, Option, Some, None, Result, Ok, Err, ◌&&◌}
use Rattle.pickle_graph.specs.Graph.{Graph}
use Rattle.btree_family.specs.declared.key.Key.{Key}
use Rattle.btree_family.specs.Classes.{Class}
use Rattle.btree_shapes.specs.declared.error.TreeError.{TreeError}
use Rattle.btree_shapes.specs.declared.way.Found.{Found}
use Rattle.btree_shapes.specs.declared.space.Call.{Call}
use Rattle.btree_shapes.specs.Nodes.{Held, class_held, objects_of}
use Rattle.btree_shapes.specs.Met.{met_for}
use Rattle.btree_shapes.specs.Ways.{way_for, family_key, reads, reads_of}
use Rattle.btree_setting.specs.declared.bottom.Bottom.{Bottom}
use Rattle.btree_setting.specs.declared.bottom.End.{End}
use Rattle.btree_setting.specs.declared.bottom.Place.{Place}
use Rattle.btree_setting.specs.declared.bottom.Place.TheVariants.{Lone, Alone, Below}
use Rattle.btree_setting.specs.declared.rung.Rung.{Rung}
use Rattle.btree_setting.specs.declared.preparing.Sizes.{Sizes}
use Rattle.btree_setting.specs.declared.preparing.Task.{Task}
use Rattle.btree_setting.specs.Bottoms.{bottom_of}
use Rattle.btree_setting.specs.Changes.{leaf_grows}
use Rattle.btree_putting.specs.Firsts.{is_none}
use Rattle.btree_setting.specs.Rungs.{rungs_of, settle, asked}
use Rattle.btree_setting.specs.Values.{family_value}

-- whether key and value are of the family of the root's class
abbrev pub fits_tree : Option Class → Key → Option (List ℕ) → Bool
fits_tree class key value = family_key class key && family_value class value

-- the way of a set
abbrev pub set_way : (ℕ → Option (List ℕ)) → ℕ → Key → Option (List ℕ) → Result Found TreeError
set_way contents root key value = way_for (fits_tree (class_held (contents root)) key value) key (objects_of contents root) root

abbrev pub end_of : Found → End
end_of found = record { oid = found.oid; class = found.class; node = found.node; is_root = is_none found.path }

abbrev pub stands_below : Place → Bool
stands_below Below = true
stands_below Lone = false
stands_below Alone = false

-- a leaf below others with too many items once it got a key is split, and its parent gets a child more
abbrev pub splits : ℕ → Bottom → Bool
splits max bottom = stands_below bottom.place && leaf_grows max bottom

-- the objects above the leaf, as far as the split goes up
abbrev pub rungs_above : Sizes → Key → Found → Bottom → List Rung
rungs_above sizes key found bottom = rungs_of sizes.inner key (splits sizes.leaf bottom) bottom.oid found.path

abbrev pub with_rungs : Bottom → Result (List Rung) TreeError → Result (Option Task) TreeError
with_rungs bottom (Ok rungs) = Ok (Some (record { bottom = bottom; rungs = rungs }))
with_rungs bottom (Err e) = Err e

abbrev pub task_for : (ℕ → Held) → Bool → Sizes → Key → Found → Option Bottom → Result (Option Task) TreeError
task_for objects fits sizes key found None = Ok None
task_for objects fits sizes key found (Some bottom) = with_rungs bottom (settle objects fits key [] (rungs_above sizes key found bottom))

-- what is to be set where the way ends: nothing, where the key has the value already
abbrev pub task_found : (ℕ → Held) → Bool → Sizes → Key → Option (List ℕ) → Found → Result (Option Task) TreeError
task_found objects fits sizes key value found = task_for objects fits sizes key found (bottom_of (end_of found) key value)

abbrev pub task_by : (ℕ → Held) → Bool → Sizes → Key → Option (List ℕ) → Result Found TreeError → Result (Option Task) TreeError
task_by objects fits sizes key value (Ok found) = task_found objects fits sizes key value found
task_by objects fits sizes key value (Err e) = Err e

-- what is to be set, or the first refusal
abbrev pub task_under : (ℕ → Option (List ℕ)) → ℕ → Sizes → Key → Option (List ℕ) → Result (Option Task) TreeError
task_under contents root sizes key value =
    task_by (objects_of contents root) (fits_tree (class_held (contents root)) key value) sizes key value (set_way contents root key value)

-- ---- what is read

abbrev pub asked_for : Sizes → Key → Found → Option Bottom → List ℕ
asked_for sizes key found None = []
asked_for sizes key found (Some bottom) = asked (rungs_above sizes key found bottom)

-- the children besides the way
abbrev pub asked_found : Sizes → Key → Option (List ℕ) → Found → List ℕ
asked_found sizes key value found = asked_for sizes key found (bottom_of (end_of found) key value)

abbrev pub reads_by : Sizes → Key → Option (List ℕ) → Result Found TreeError → List Call
reads_by sizes key value (Ok found) = reads_of (Ok found) ++ reads (asked_found sizes key value found)
reads_by sizes key value (Err e) = []

-- the children besides the way, where it was found
abbrev pub beside_by : Sizes → Key → Option (List ℕ) → Result Found TreeError → List ℕ
beside_by sizes key value (Ok found) = asked_found sizes key value found
beside_by sizes key value (Err e) = []

-- the objects that a set may read, in this order: those of the way, as far as it goes, and then the children besides it
abbrev pub met_under : (ℕ → Option (List ℕ)) → ℕ → Sizes → Key → Option (List ℕ) → List ℕ
met_under contents root sizes key value = met_for contents root key ++ beside_by sizes key value (set_way contents root key value)

-- the objects of the way, and then the children besides it, each from the root down
abbrev pub reads_under : (ℕ → Option (List ℕ)) → ℕ → Sizes → Key → Option (List ℕ) → List Call
reads_under contents root sizes key value = reads_by sizes key value (set_way contents root key value)
