-- The objects above a leaf that is set, as far as a split goes up through them. Own.
use Rattle.std.specs.Prelude.{ℕ, ◌+◌, ◌-◌, ◌/◌, Bool, true, false, List, [], ◌∷◌, ◌++◌, length, Option, Some, None, Result, Ok, Err, slice_get, nat_lt, ◌==◌, ◌&&◌, if◌then◌else◌}
use Rattle.btree_family.specs.declared.key.Key.{Key}
use Rattle.bucket_state.specs.declared.tree.Branch.{Branch}
use Rattle.bucket_state.specs.declared.tree.Inner.{Inner}
use Rattle.btree_shapes.specs.declared.error.TreeError.{TreeError}
use Rattle.btree_shapes.specs.declared.error.TreeError.TheVariants.{NotATree}
use Rattle.btree_shapes.specs.declared.node.Node.TheVariants as node
use Rattle.btree_shapes.specs.declared.path.Step.{Step}
use Rattle.btree_shapes.specs.Nodes.{Held, place_for}
use Rattle.btree_shapes.specs.Ways.{stands_in}
use Rattle.btree_putting.specs.Firsts.{first_held, is_none}
use Rattle.btree_setting.specs.declared.rung.Rung.{Rung}
use Rattle.btree_setting.specs.declared.rung.Seam.{Seam}
use Rattle.btree_setting.specs.declared.rung.Seam.TheVariants.{New, Old, Beside}

-- ---- what begins a second half

abbrev pub child_in : Option Branch → Option ℕ
child_in None = None
child_in (Some branch) = Some branch.child

-- After a child was put in at a place, the one behind the separator in the middle, where that isn't the new one. Of n
-- children floor(n/2) stand before it, the first child among them.
abbrev pub seam_child : List Branch → ℕ → Option ℕ
seam_child tail place =
    if length tail / 2 == place then None else child_in (slice_get tail (if nat_lt (length tail / 2) place then length tail / 2 else length tail / 2 - 1))

-- It is the new child; or its first leaf is known, since it is a leaf itself, or the child on the way, which was read; or
-- it is to be read.
abbrev pub seam_of : Bool → Bool → ℕ → Option ℕ → Seam
seam_of leaves on_way first None = New
seam_of leaves on_way first (Some child) = if leaves then Old child else (if on_way then Old first else Beside child)

abbrev pub seam_for : List Branch → Key → Bool → ℕ → Seam
seam_for tail key leaves first = seam_of leaves (nat_lt (length tail / 2) (place_for tail key) && (place_for tail key - length tail / 2 == 1)) first (seam_child tail (place_for tail key))

-- ---- how far a split goes up

-- the object has more than `max` children once it gets one more
abbrev pub is_full : ℕ → Inner → Bool
is_full max inner = nat_lt max (length inner.tail + 2)

-- whether the highest of these is split where the leaf below them is
abbrev pub grows : ℕ → Bool → List Step → Bool
grows max splits [] = splits
grows max splits (step ∷ below) = grows max splits below && is_full max step.inner

-- the first leaf below what stands below: the leaf itself, or the one that the next object names
abbrev pub first_below : ℕ → List Step → ℕ
first_below leaf [] = leaf
first_below leaf (step ∷ below) = step.inner.first

abbrev pub seam_if : Bool → Seam → Seam
seam_if true seam = seam
seam_if false seam = New

abbrev pub rung_of : ℕ → Key → Bool → ℕ → Step → List Step → Rung
rung_of max key splits leaf step below = record {
  oid = step.oid;
  class = step.class;
  inner = step.inner;
  leaves = is_none below;
  seam = seam_if (grows max splits (step ∷ below)) (seam_for step.inner.tail key (is_none below) (first_below leaf below));
}

-- the objects of a way, from the root on
abbrev pub rungs_of : ℕ → Key → Bool → ℕ → List Step → List Rung
rungs_of max key splits leaf [] = []
rungs_of max key splits leaf (step ∷ below) = rung_of max key splits leaf step below ∷ rungs_of max key splits leaf below

-- ---- the children that are read besides the way

abbrev pub rung_oid : Rung → ℕ
rung_oid rung = rung.oid

abbrev pub with_first : Rung → ℕ → Rung
with_first rung first = record { oid = rung.oid; class = rung.class; inner = rung.inner; leaves = rung.leaves; seam = Old first }

abbrev pub put_first : Rung → Result ℕ TreeError → Result Rung TreeError
put_first rung (Ok first) = Ok (with_first rung first)
put_first rung (Err e) = Err e

abbrev pub settled_by : (ℕ → Held) → Bool → Key → List ℕ → Rung → Seam → Result Rung TreeError
settled_by objects fits key above rung New = Ok rung
settled_by objects fits key above rung (Old first) = Ok rung
settled_by objects fits key above rung (Beside child) =
    if stands_in above child then Err (NotATree child) else put_first rung (first_held fits key child (objects child))

-- the child that is to be read, if there is one
abbrev pub child_asked : Seam → Option ℕ
child_asked New = None
child_asked (Old first) = None
child_asked (Beside child) = Some child

-- the object with the first leaf of its second half, below these and itself
abbrev pub settled : (ℕ → Held) → Bool → Key → List ℕ → Rung → Result Rung TreeError
settled objects fits key above rung = settled_by objects fits key above rung rung.seam

abbrev pub then_rungs : Result Rung TreeError → Result (List Rung) TreeError → Result (List Rung) TreeError
then_rungs (Ok rung) (Ok rungs) = Ok (rung ∷ rungs)
then_rungs (Ok rung) (Err e) = Err e
then_rungs (Err e) rest = Err e

-- all of them, from the root down: the first refusal decides
abbrev pub settle : (ℕ → Held) → Bool → Key → List ℕ → List Rung → Result (List Rung) TreeError
settle objects fits key above [] = Ok []
settle objects fits key above (rung ∷ rungs) =
    then_rungs (settled objects fits key (above ++ rung.oid ∷ []) rung) (settle objects fits key (above ++ rung.oid ∷ []) rungs)

abbrev pub asked_by : Seam → List ℕ
asked_by New = []
asked_by (Old first) = []
asked_by (Beside child) = child ∷ []

-- the children that are read, from the root down
abbrev pub asked : List Rung → List ℕ
asked [] = []
asked (rung ∷ rungs) = asked_by rung.seam ++ asked rungs

-- some, and then what the others give
abbrev pub behind_rungs : List Rung → Result (List Rung) TreeError → Result (List Rung) TreeError
behind_rungs front (Ok rungs) = Ok (front ++ rungs)
behind_rungs front (Err e) = Err e
