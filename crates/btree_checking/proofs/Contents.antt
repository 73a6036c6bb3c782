-- Keys stand in a row in each object of a tree.
use Rattle.std.proofs.Common.{◌≡◌, ℕ, Bool, true, false, List, [], ◌∷◌, Option, Some, None, Result, Ok, Err, refl, ap, subst}
use Rattle.std.specs.Prelude.{slice_get, if◌then◌else◌}
use Rattle.std.specs.Option.{option_map, option_and_then}
use Rattle.pickle_graph.specs.declared.node.Node.TheVariants as pickle
use Rattle.pickle_graph.specs.declared.node.Node as pickles
use Rattle.pickle_graph.specs.Graph.{Graph}
use Rattle.btree_family.specs.declared.bucket.Item.{Item}
use Rattle.btree_family.specs.declared.table.Kind.{Kind}
use Rattle.btree_family.specs.declared.table.Kind.TheVariants as kinds
use Rattle.btree_family.specs.declared.table.KeyKind.{KeyKind}
use Rattle.btree_family.specs.Classes.{Class, classes, leaf_in}
use Rattle.btree_family.specs.Buckets.{BucketContents, keys_of}
use Rattle.bucket_state.specs.declared.tree.Branch.{Branch}
use Rattle.bucket_state.specs.declared.tree.TreeState.{TreeState}
use Rattle.bucket_state.specs.declared.tree.TreeState.TheVariants as trees
use Rattle.bucket_state.specs.States.{found_both, found_all, entry_item, entries_in, has_values, stand_in_row, standing_items, member_items, state_items, with_next, linked, link_at, members_at, bucket_in, bucket_of}
use Rattle.bucket_state.specs.Trees.{separators_of, branch_at, standing_branches, branches_in, children_in, inner_in, leaf_before, lone_leaf, embedded_in, tree_members, tree_in, tree_state_of}
use Rattle.bucket_state.specs.States.{pair_entries}
use Rattle.zb_record.specs.declared.error.RecordError.{RecordError}
use Rattle.zb_record.specs.Records.{record_of}
use Rattle.btree_shapes.specs.declared.node.Node.{Node}
use Rattle.btree_shapes.specs.declared.node.Node.TheVariants.{Leaf}
use Rattle.btree_shapes.specs.Classes.{is_class_of}
use Rattle.btree_shapes.specs.Nodes.{lone_or_inner, node_of_kind, own_node, node_of_leaf, leaf_named, node_of, held_node, held_record, held_in, class_held, objects_of}
use Rattle.btree_checking.specs.Rules.{keys_in}
use Rattle.btree_checking.proofs.Building.{InRow}

-- ---- what is found

then_found : {A B : Type 0} (f : A → Option B) (o : Option A) (y : B) → option_and_then f o ≡ Some y → (x : A) × (o ≡ Some x) × (f x ≡ Some y)
then_found f None y e = absurd cc
then_found f (Some x) y e = (x, refl, e)

map_found : {A B : Type 0} (f : A → B) (o : Option A) (y : B) → option_map f o ≡ Some y → (x : A) × (o ≡ Some x) × (f x ≡ y)
map_found f None y e = absurd cc
map_found f (Some x) y e = (x, refl, cc)

both_found : {A B C : Type 0} (f : A → B → C) (a : Option A) (b : Option B) (c : C) → found_both f a b ≡ Some c → (x : A) × (y : B) × (a ≡ Some x) × (b ≡ Some y) × (f x y ≡ c)
both_found f None b c e = absurd cc
both_found f (Some x) None c e = absurd cc
both_found f (Some x) (Some y) c e = (x, y, refl, refl, cc)

passed : {A : Type 0} (b : Bool) (x y : A) → (if b then Some x else None) ≡ Some y → (b ≡ true) × (x ≡ y)
passed true x y e = (refl, cc)
passed false x y e = absurd cc

-- ---- buckets

abbrev AreInRow : List Item → Type 0
AreInRow items = stand_in_row None (keys_of items) ≡ true

abbrev PartInRow : List Branch → Type 0
PartInRow branches = stand_in_row None (separators_of branches) ≡ true

standing_row : (found items : List Item) → standing_items found ≡ Some items → AreInRow items
standing_row found items e = let p = passed (stand_in_row None (keys_of found)) found items e in subst AreInRow p.1 p.0

state_row : (class : Class) (ns : List pickles.Node) (n : ℕ) (items : List Item) → state_items class ns n ≡ Some items → AreInRow items
state_row class ns n items e =
    let m = then_found (member_items class ns) (members_at ns n) items e in
    let f = then_found standing_items (option_and_then (found_all (entry_item class ns)) (entries_in (has_values class.kind) m.0)) items m.2 in
    standing_row f.0 items f.2

next_row : (next : Option ℕ) (o : Option (List Item)) (b : BucketContents) → ((items : List Item) → o ≡ Some items → AreInRow items) → with_next next o ≡ Some b → AreInRow b.items
next_row next None b each e = absurd cc
next_row next (Some items) b each e = let same : items ≡ b.items = cc in subst AreInRow same (each items refl)

linked_row : (link : Option ℕ) (o : Option (List Item)) (b : BucketContents) → ((items : List Item) → o ≡ Some items → AreInRow items) → linked link o ≡ Some b → AreInRow b.items
linked_row None o b each e = absurd cc
linked_row (Some oid) o b each e = next_row (Some oid) o b each e

bucket_row : (class : Class) (ns : List pickles.Node) (members : List ℕ) (b : BucketContents) → bucket_in class ns members ≡ Some b → AreInRow b.items
bucket_row class ns [] b e = absurd cc
bucket_row class ns (x ∷ []) b e = next_row None (state_items class ns x) b (state_row class ns x) e
bucket_row class ns (x ∷ y ∷ []) b e = linked_row (link_at ns y) (state_items class ns x) b (state_row class ns x) e
bucket_row class ns (x ∷ y ∷ z ∷ more) b e = absurd cc

bucket_of_row : (class : Class) (g : Graph) (b : BucketContents) → bucket_of class g ≡ Some b → AreInRow b.items
bucket_of_row class g b e = let m = then_found (bucket_in class g.nodes) (members_at g.nodes g.root) b e in bucket_row class g.nodes m.0 b m.2

-- ---- trees

abbrev StateInRow : TreeState → Type 0
StateInRow trees.Empty = Unit {0}
StateInRow (trees.Leaf b) = AreInRow b.items
StateInRow (trees.Children inner) = PartInRow inner.tail

leaf_row : (next : Option ℕ) (b : BucketContents) (t : TreeState) → AreInRow b.items → leaf_before next b ≡ Some t → StateInRow t
leaf_row None b t r e = let same : trees.Leaf b ≡ t = cc in subst StateInRow same r
leaf_row (Some oid) b t r e = absurd cc

embedded_row : (class : Class) (ns : List pickles.Node) (members : List ℕ) (t : TreeState) → embedded_in class ns members ≡ Some t → StateInRow t
embedded_row class ns [] t e = absurd cc
embedded_row class ns (x ∷ []) t e =
    let l = then_found lone_leaf (option_and_then (bucket_in class ns) (members_at ns x)) t e in
    let b = then_found (bucket_in class ns) (members_at ns x) l.0 l.1 in
    leaf_row l.0.next l.0 t (bucket_row class ns b.0 l.0 b.2) l.2
embedded_row class ns (x ∷ y ∷ more) t e = absurd cc

branches_row : (kind : KeyKind) (ns : List pickles.Node) (members : List ℕ) (branches : List Branch) → branches_in kind ns members ≡ Some branches → PartInRow branches
branches_row kind ns members branches e =
    let f = then_found standing_branches (option_and_then (found_all (branch_at kind ns)) (pair_entries members)) branches e in
    let p = passed (stand_in_row None (separators_of f.0)) f.0 branches f.2 in
    subst PartInRow p.1 p.0

children_row : (kind : KeyKind) (ns : List pickles.Node) (members : List ℕ) (found : ℕ × List Branch) → children_in kind ns members ≡ Some found → PartInRow found.1
children_row kind ns [] found e = absurd cc
children_row kind ns (head ∷ rest) found e =
    let f = both_found (λ oid branches. (oid, branches)) (link_at ns head) (branches_in kind ns rest) found e in
    let same : f.1 ≡ found.1 = ap (λ p. p.1) f.4 in
    subst PartInRow same (branches_row kind ns rest f.1 f.3)

inner_row : (kind : KeyKind) (ns : List pickles.Node) (x y : ℕ) (t : TreeState) → inner_in kind ns x y ≡ Some t → StateInRow t
inner_row kind ns x y t e =
    let f = both_found (λ found oid. trees.Children (record { head = found.0; tail = found.1; first = oid })) (option_and_then (children_in kind ns) (members_at ns x)) (link_at ns y) t e in
    let c = then_found (children_in kind ns) (members_at ns x) f.0 f.2 in
    subst StateInRow f.4 (children_row kind ns c.0 f.0 c.2)

members_row : (class : Class) (ns : List pickles.Node) (members : List ℕ) (t : TreeState) → tree_members class ns members ≡ Some t → StateInRow t
members_row class ns [] t e = absurd cc
members_row class ns (x ∷ []) t e = let m = then_found (embedded_in class ns) (members_at ns x) t e in embedded_row class ns m.0 t m.2
members_row class ns (x ∷ y ∷ []) t e = inner_row class.key ns x y t e
members_row class ns (x ∷ y ∷ z ∷ more) t e = absurd cc

tree_row : (class : Class) (ns : List pickles.Node) (node : Option pickles.Node) (t : TreeState) → tree_in class ns node ≡ Some t → StateInRow t
tree_row class ns None t e = absurd cc
tree_row class ns (Some pickle.None) t e = let same : trees.Empty ≡ t = cc in subst StateInRow same tt
tree_row class ns (Some (pickle.Tuple members)) t e = members_row class ns members t e
tree_row class ns (Some (pickle.Bool b)) t e = absurd cc
tree_row class ns (Some (pickle.Number n)) t e = absurd cc
tree_row class ns (Some (pickle.Wide b)) t e = absurd cc
tree_row class ns (Some (pickle.Float b)) t e = absurd cc
tree_row class ns (Some (pickle.Bytes b)) t e = absurd cc
tree_row class ns (Some (pickle.OldText b)) t e = absurd cc
tree_row class ns (Some (pickle.Text b)) t e = absurd cc
tree_row class ns (Some (pickle.List items)) t e = absurd cc
tree_row class ns (Some (pickle.Dict items)) t e = absurd cc
tree_row class ns (Some (pickle.Global m n)) t e = absurd cc
tree_row class ns (Some (pickle.Reference id)) t e = absurd cc
tree_row class ns (Some (pickle.Object callee arguments by_new acts)) t e = absurd cc

tree_of_row : (class : Class) (g : Graph) (t : TreeState) → tree_state_of class g ≡ Some t → StateInRow t
tree_of_row class g t e = tree_row class g.nodes (slice_get g.nodes g.root) t e

-- ---- nodes

abbrev NodeInRow : Node → Type 0
NodeInRow node = stand_in_row None (keys_in node) ≡ true

lone_row : (t : TreeState) → StateInRow t → NodeInRow (lone_or_inner t)
lone_row trees.Empty r = refl
lone_row (trees.Leaf b) r = r
lone_row (trees.Children inner) r = r

leaf_node : (class : Class) (g : Graph) (node : Node) → option_map Leaf (bucket_of class g) ≡ Some node → NodeInRow node
leaf_node class g node e = let m = map_found Leaf (bucket_of class g) node e in subst NodeInRow m.2 (bucket_of_row class g m.0 m.1)

tree_node : (class : Class) (g : Graph) (node : Node) → option_map lone_or_inner (tree_state_of class g) ≡ Some node → NodeInRow node
tree_node class g node e = let m = map_found lone_or_inner (tree_state_of class g) node e in subst NodeInRow m.2 (lone_row m.0 (tree_of_row class g m.0 m.1))

kind_node : (kind : Kind) (class : Class) (g : Graph) (node : Node) → node_of_kind kind class g ≡ Some node → NodeInRow node
kind_node kinds.Bucket class g node e = leaf_node class g node e
kind_node kinds.Set class g node e = leaf_node class g node e
kind_node kinds.Tree class g node e = tree_node class g node e
kind_node kinds.TreeSet class g node e = tree_node class g node e

if_leaf : (b : Bool) (leaf : Class) (g : Graph) (node : Node) → (if b then option_map Leaf (bucket_of leaf g) else None) ≡ Some node → NodeInRow node
if_leaf true leaf g node e = leaf_node leaf g node e
if_leaf false leaf g node e = absurd cc

named_node : (leaf : Option Class) (own g : Graph) (node : Node) → node_of_leaf leaf own g ≡ Some node → NodeInRow node
named_node None own g node e = absurd cc
named_node (Some leaf) own g node e = if_leaf (is_class_of leaf own) leaf g node e

if_own : (b : Bool) (class : Class) (own g : Graph) (node : Node) → (if b then own_node class g else leaf_named class own g) ≡ Some node → NodeInRow node
if_own true class own g node e = kind_node class.kind class g node e
if_own false class own g node e = named_node (leaf_in classes class) own g node e

found_row : (class : Class) (own g : Graph) (o : Option Node) → node_of class own g ≡ o → InRow (held_node own o)
found_row class own g None e = tt
found_row class own g (Some node) e = if_own (is_class_of class own) class own g node e

record_row : (class : Class) (r : Result (Graph × Graph) RecordError) → InRow (held_record class r)
record_row class (Err e) = tt
record_row class (Ok object) = found_row class object.0 object.1 (node_of class object.0 object.1) refl

held_row : (class : Option Class) (content : Option (List ℕ)) → InRow (held_in class content)
held_row class None = tt
held_row None (Some bytes) = tt
held_row (Some class) (Some bytes) = record_row class (record_of bytes)

pub rows : (contents : ℕ → Option (List ℕ)) (root oid : ℕ) → InRow (objects_of contents root oid)
rows contents root oid = held_row (class_held (contents root)) (contents oid)
