-- The leaf that is set. Own.
use Rattle.std.specs.Prelude.{ℕ, Bool, true, false, List, Option, Some, None, not, if◌then◌else◌}
use Rattle.pickle_graph.specs.Graph.{Graph}
use Rattle.btree_family.specs.declared.key.Key.{Key}
use Rattle.btree_family.specs.Buckets.{BucketContents}
use Rattle.btree_shapes.specs.declared.node.Node.{Node}
use Rattle.btree_shapes.specs.declared.node.Node.TheVariants as node
use Rattle.btree_setting.specs.declared.bottom.Bottom.{Bottom}
use Rattle.btree_setting.specs.declared.bottom.End.{End}
use Rattle.btree_setting.specs.declared.bottom.Place.{Place}
use Rattle.btree_setting.specs.declared.bottom.Place.TheVariants.{Lone, Alone, Below}
use Rattle.btree_putting.specs.Items.{has_key, has_value}
use Rattle.btree_setting.specs.Inserting.{set_item}

-- the leaf that an object is or has, and where it stands
abbrev pub leaf_at : Node → Bool → Option (BucketContents × Place)
leaf_at (node.Lone leaf) is_root = Some (leaf, Lone)
leaf_at (node.Leaf leaf) is_root = if is_root then Some (leaf, Alone) else Some (leaf, Below)
leaf_at (node.Inner inner) is_root = None

-- a leaf with this value at a key, where that is not there yet
abbrev pub set_at : ℕ → Graph → Key → Option (List ℕ) → Option (BucketContents × Place) → Option Bottom
set_at oid class key value None = None
set_at oid class key value (Some found) =
    if has_value found.0.items key value then None
    else Some (record { oid = oid; class = class; leaf = record { items = set_item found.0.items key value; next = found.0.next }; place = found.1; adds = not (has_key found.0.items key) })

abbrev pub bottom_of : End → Key → Option (List ℕ) → Option Bottom
bottom_of end key value = set_at end.oid end.class key value (leaf_at end.node end.is_root)
