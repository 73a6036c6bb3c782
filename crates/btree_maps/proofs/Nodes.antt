-- What is read as a node.
use Rattle.std.proofs.Common.{◌≡◌, ℕ, Bool, true, false, List, [], ◌∷◌, Option, Some, None, refl, sym, ◌∙◌, ap, subst}
use Rattle.std.specs.Prelude.{if◌then◌else◌, slice_get, ◌&&◌}
use Rattle.std.specs.Option.{option_map, option_and_then}
use Rattle.pickle_graph.specs.declared.node.Node.{Node as ValueNode}
use Rattle.pickle_graph.specs.declared.node.Node.TheVariants as nodes
use Rattle.pickle_graph.specs.Graph.{Graph}
use Rattle.btree_family.specs.declared.key.Key.{Key}
use Rattle.btree_family.specs.declared.table.Kind.{Kind}
use Rattle.btree_family.specs.declared.table.Kind.TheVariants as kinds
use Rattle.btree_family.specs.declared.table.KeyKind.{KeyKind}
use Rattle.btree_family.specs.Classes.{Class, classes, leaf_in}
use Rattle.btree_family.specs.Buckets.{BucketContents}
use Rattle.btree_family.specs.Rising.{is_key_above, Rises}
use Rattle.bucket_state.specs.declared.tree.Branch.{Branch}
use Rattle.bucket_state.specs.declared.tree.Inner.{Inner}
use Rattle.bucket_state.specs.declared.tree.TreeState.{TreeState}
use Rattle.bucket_state.specs.declared.tree.TreeState.TheVariants as trees
use Rattle.bucket_state.specs.States.{found_both, found_all, members_at, link_at, bucket_in, bucket_of, follows, stand_in_row, pair_entries}
use Rattle.bucket_state.specs.Trees.{separators_of, branch_at, standing_branches, branches_in, children_in, inner_in, leaf_before, lone_leaf, embedded_in, tree_members, tree_in, tree_state_of}
use Rattle.btree_shapes.specs.declared.node.Node.TheVariants as node
use Rattle.btree_shapes.specs.Classes.{is_class_of}
use Rattle.btree_shapes.specs.Nodes.{lone_or_inner, node_of_kind, own_node, node_of_leaf, leaf_named, node_of}

-- ---- parts of what is found

and_left : (a b : Bool) → (a && b) ≡ true → a ≡ true
and_left true b e = refl
and_left false b e = absurd cc

passed : {X : Type 0} (t : Bool) (x y : X) → (if t then Some x else None) ≡ Some y → (t ≡ true) × (x ≡ y)
passed true x y h = (refl, cc)
passed false x y h = absurd cc

of_then : {X Y : Type 0} (f : X → Option Y) (o : Option X) (y : Y) → option_and_then f o ≡ Some y → (x : X) × (o ≡ Some x) × (f x ≡ Some y)
of_then f None y h = absurd cc
of_then f (Some x) y h = (x, refl, h)

of_both : {A B C : Type 0} (f : A → B → C) (a : Option A) (b : Option B) (c : C) → found_both f a b ≡ Some c → (x : A) × (y : B) × (a ≡ Some x) × (b ≡ Some y) × (f x y ≡ c)
of_both f None b c h = absurd cc
of_both f (Some x) None c h = absurd cc
of_both f (Some x) (Some y) c h = let same : f x y ≡ c = cc in (x, y, refl, refl, same)

of_map : {X Y : Type 0} (f : X → Y) (o : Option X) (y : Y) → option_map f o ≡ Some y → (x : X) × (o ≡ Some x) × (f x ≡ y)
of_map f None y h = absurd cc
of_map f (Some x) y h = (x, refl, cc)

-- ---- a leaf without a number has no next one

before_none : (found leaf : BucketContents) (next : Option ℕ) → found.next ≡ next → leaf_before next found ≡ Some (trees.Leaf leaf) → leaf.next ≡ None
before_none found leaf None n h = let same : found ≡ leaf = cc in ap (λ (b : BucketContents). b.next) (sym same) ∙ n
before_none found leaf (Some oid) n h = absurd cc

embedded_none : (class : Class) (ns : List ValueNode) (members : List ℕ) (leaf : BucketContents) → embedded_in class ns members ≡ Some (trees.Leaf leaf) → leaf.next ≡ None
embedded_none class ns [] leaf h = absurd cc
embedded_none class ns (i ∷ []) leaf h =
    let lone = of_then lone_leaf (option_and_then (bucket_in class ns) (members_at ns i)) (trees.Leaf leaf) h in
    before_none lone.0 leaf lone.0.next refl lone.2
embedded_none class ns (i ∷ j ∷ rest) leaf h = absurd cc

not_inner : (kind : KeyKind) (ns : List ValueNode) (children first : ℕ) (leaf : BucketContents) → inner_in kind ns children first ≡ Some (trees.Leaf leaf) → ⊥
not_inner kind ns children first leaf h =
    let b = of_both (λ found oid. trees.Children (record { head = found.0; tail = found.1; first = oid })) (option_and_then (children_in kind ns) (members_at ns children)) (link_at ns first) (trees.Leaf leaf) h in
    cc (b.4)

members_none : (class : Class) (ns : List ValueNode) (members : List ℕ) (leaf : BucketContents) → tree_members class ns members ≡ Some (trees.Leaf leaf) → leaf.next ≡ None
members_none class ns [] leaf h = absurd cc
members_none class ns (i ∷ []) leaf h = let m = of_then (embedded_in class ns) (members_at ns i) (trees.Leaf leaf) h in embedded_none class ns m.0 leaf m.2
members_none class ns (i ∷ j ∷ []) leaf h = absurd (not_inner class.key ns i j leaf h)
members_none class ns (i ∷ j ∷ k ∷ rest) leaf h = absurd cc

tree_none : (class : Class) (ns : List ValueNode) (o : Option ValueNode) (leaf : BucketContents) → tree_in class ns o ≡ Some (trees.Leaf leaf) → leaf.next ≡ None
tree_none class ns None leaf h = absurd cc
tree_none class ns (Some nodes.None) leaf h = absurd cc
tree_none class ns (Some (nodes.Tuple members)) leaf h = members_none class ns members leaf h
tree_none class ns (Some _) leaf h = absurd cc

lone_state : (class : Class) (g : Graph) (t : TreeState) (leaf : BucketContents) → tree_state_of class g ≡ Some t → lone_or_inner t ≡ node.Lone leaf → leaf.next ≡ None
lone_state class g trees.Empty leaf e s = let same : leaf ≡ record { items = []; next = None } = cc in ap (λ (b : BucketContents). b.next) same
lone_state class g (trees.Leaf found) leaf e s =
    let same : found ≡ leaf = cc in
    ap (λ (b : BucketContents). b.next) (sym same) ∙ tree_none class g.nodes (slice_get g.nodes g.root) found e
lone_state class g (trees.Children inner) leaf e s = absurd cc

lone_tree : (class : Class) (g : Graph) (leaf : BucketContents) → option_map lone_or_inner (tree_state_of class g) ≡ Some (node.Lone leaf) → leaf.next ≡ None
lone_tree class g leaf h = let m = of_map lone_or_inner (tree_state_of class g) (node.Lone leaf) h in lone_state class g m.0 leaf m.1 m.2

lone_bucket : (o : Option BucketContents) (leaf : BucketContents) → option_map node.Leaf o ≡ Some (node.Lone leaf) → ⊥
lone_bucket None leaf h = cc
lone_bucket (Some b) leaf h = cc

lone_kind : (kind : Kind) (class : Class) (g : Graph) (leaf : BucketContents) → node_of_kind kind class g ≡ Some (node.Lone leaf) → leaf.next ≡ None
lone_kind kinds.Bucket class g leaf h = absurd (lone_bucket (bucket_of class g) leaf h)
lone_kind kinds.Set class g leaf h = absurd (lone_bucket (bucket_of class g) leaf h)
lone_kind kinds.Tree class g leaf h = lone_tree class g leaf h
lone_kind kinds.TreeSet class g leaf h = lone_tree class g leaf h

lone_named : (o : Option Class) (own state : Graph) (leaf : BucketContents) → node_of_leaf o own state ≡ Some (node.Lone leaf) → ⊥
lone_named None own state leaf h = cc
lone_named (Some class) own state leaf h = by_test (is_class_of class own) h where
  by_test : (b : Bool) → (if b then option_map node.Leaf (bucket_of class state) else None) ≡ Some (node.Lone leaf) → ⊥
  by_test true h = lone_bucket (bucket_of class state) leaf h
  by_test false h = cc

pub lone_next : (class : Class) (own state : Graph) (leaf : BucketContents) → node_of class own state ≡ Some (node.Lone leaf) → leaf.next ≡ None
lone_next class own state leaf h = by_test (is_class_of class own) h where
  by_test : (b : Bool) → (if b then own_node class state else leaf_named class own state) ≡ Some (node.Lone leaf) → leaf.next ≡ None
  by_test true h = lone_kind class.kind class state leaf h
  by_test false h = absurd (lone_named (leaf_in classes class) own state leaf h)
