-- The objects above a leaf that leaves its tree. Own.
use Rattle.std.specs.Prelude.{ℕ, Bool, List, [], ◌∷◌, ◌&&◌}
use Rattle.btree_shapes.specs.declared.path.Step.{Step}
use Rattle.btree_putting.specs.Firsts.{is_none}
use Rattle.btree_removing.specs.declared.rung.Rung.{Rung}

abbrev pub rung_of : Bool → Step → Rung
rung_of leaves step = record { oid = step.oid; class = step.class; inner = step.inner; leaves = leaves }

-- the objects of a way, from the root on, below the last of which a leaf stands, or not
abbrev pub rungs_of : Bool → List Step → List Rung
rungs_of leaf [] = []
rungs_of leaf (step ∷ below) = rung_of (leaf && is_none below) step ∷ rungs_of leaf below

abbrev pub rung_oid : Rung → ℕ
rung_oid rung = rung.oid
