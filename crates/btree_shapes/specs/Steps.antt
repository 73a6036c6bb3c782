-- Laws of the way for a key.
use Rattle.std.proofs.Common.{◌≡◌, ℕ, suc, ◌-◌, ◌<◌, ◌^◌, Bool, true, false, List, [], ◌∷◌, ◌++◌, length, Option, Some, Result, Ok, Err, refl, sym, ◌∙◌, ap, subst, arith, append_assoc, append-nil}
use Rattle.std.specs.Prelude.{map, ◌&&◌, if◌then◌else◌}
use Rattle.pickle_graph.specs.Graph.{Graph}
use Rattle.btree_family.specs.declared.key.Key.{Key}
use Rattle.btree_family.specs.Buckets.{BucketContents}
use Rattle.btree_family.specs.Classes.{Class}
use Rattle.btree_family.specs.Families.{key_fits}
use Rattle.bucket_state.specs.declared.tree.Inner.{Inner}
use Rattle.btree_shapes.specs.declared.error.TreeError.{TreeError}
use Rattle.btree_shapes.specs.declared.error.TreeError.TheVariants.{NotATree, NodeMissing, BadKey, Refused, Memory}
use Rattle.btree_shapes.specs.declared.node.Node.{Node}
use Rattle.btree_shapes.specs.declared.node.Node.TheVariants as node
use Rattle.btree_shapes.specs.declared.path.Step.{Step}
use Rattle.btree_shapes.specs.declared.way.Found.{Found}
use Rattle.btree_shapes.specs.declared.space.Call.{Call}
use Rattle.btree_shapes.specs.declared.space.Call.TheVariants.{Read}
use Rattle.btree_shapes.specs.Nodes.{Held, Nothing, Foreign, Holds, node_suits, child_for, items_in, value_in, class_held, objects_of}
use Rattle.btree_shapes.specs.Reading.{IsReadError}
use Rattle.btree_shapes.specs.Ways.{stands_in, step_oid, below_step, below_path, down_node, down_held, way_from, way_for, IsRefusal, Answers, family_key, key_way, value_found, value_under, reads, reads_of}

pub way_suc : (fits : Bool) (key : Key) (objects : ℕ → Held) (room : ℕ) (above : List ℕ) (oid : ℕ) → way_from fits key objects (suc room) above oid ≡ (if stands_in above oid then Err (NotATree oid) else down_held (way_from fits key objects room (above ++ oid ∷ [])) fits key oid (objects oid))
unfolding way_from
way_suc fits key objects room above oid = refl

pub above_root : (fits : Bool) (key : Key) (objects : ℕ → Held) (root : ℕ) (held : Held) → objects root ≡ held → way_for fits key objects root ≡ down_held (way_from fits key objects (2 ^ 64 - 1) (root ∷ [])) fits key root held
above_root fits key objects root held h = way_suc fits key objects (2 ^ 64 - 1) [] root ∙ ap (down_held (way_from fits key objects (2 ^ 64 - 1) (root ∷ [])) fits key root) h

pub root_bad_key : (fits : Bool) (key : Key) (objects : ℕ → Held) (root : ℕ) (class : Graph) (node : Node) → objects root ≡ Holds class node → (fits && node_suits key node) ≡ false → way_for fits key objects root ≡ Err BadKey
root_bad_key fits key objects root class node h t =
    above_root fits key objects root (Holds class node) h
    ∙ ap (λ b. if b then down_node (way_from fits key objects (2 ^ 64 - 1) (root ∷ [])) key root class node else Err BadKey) t

pub root_node : (fits : Bool) (key : Key) (objects : ℕ → Held) (root : ℕ) (class : Graph) (node : Node) → objects root ≡ Holds class node → (fits && node_suits key node) ≡ true → way_for fits key objects root ≡ down_node (way_from fits key objects (2 ^ 64 - 1) (root ∷ [])) key root class node
root_node fits key objects root class node h t =
    above_root fits key objects root (Holds class node) h
    ∙ ap (λ b. if b then down_node (way_from fits key objects (2 ^ 64 - 1) (root ∷ [])) key root class node else Err BadKey) t

pub root_lone : (fits : Bool) (key : Key) (objects : ℕ → Held) (root : ℕ) (class : Graph) (bucket : BucketContents) → objects root ≡ Holds class (node.Lone bucket) → (fits && node_suits key (node.Lone bucket)) ≡ true → way_for fits key objects root ≡ Ok (record { path = []; oid = root; class = class; node = node.Lone bucket })
root_lone fits key objects root class bucket h t = root_node fits key objects root class (node.Lone bucket) h t

pub root_leaf : (fits : Bool) (key : Key) (objects : ℕ → Held) (root : ℕ) (class : Graph) (bucket : BucketContents) → objects root ≡ Holds class (node.Leaf bucket) → (fits && node_suits key (node.Leaf bucket)) ≡ true → way_for fits key objects root ≡ Ok (record { path = []; oid = root; class = class; node = node.Leaf bucket })
root_leaf fits key objects root class bucket h t = root_node fits key objects root class (node.Leaf bucket) h t
