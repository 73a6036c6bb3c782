-- Separators that are read rise. Own.
use Rattle.std.proofs.Common.{◌≡◌, ℕ, Bool, true, false, List, [], ◌∷◌, Option, Some, None, Result, Ok, Err, refl, sym, ◌∙◌, ap, subst}
use Rattle.std.specs.Prelude.{if◌then◌else◌, slice_get, ◌&&◌}
use Rattle.std.specs.Option.{option_map, option_and_then}
use Rattle.pickle_graph.specs.declared.node.Node.{Node as ValueNode}
use Rattle.pickle_graph.specs.declared.node.Node.TheVariants as nodes
use Rattle.pickle_graph.specs.Graph.{Graph}
use Rattle.btree_family.specs.declared.key.Key.{Key}
use Rattle.btree_family.specs.declared.table.Kind.{Kind}
use Rattle.btree_family.specs.declared.table.Kind.TheVariants as kinds
use Rattle.btree_family.specs.declared.table.KeyKind.{KeyKind}
use Rattle.btree_family.specs.Classes.{Class, classes, leaf_in}
use Rattle.btree_family.specs.Buckets.{BucketContents}
use Rattle.btree_family.specs.Rising.{is_key_above, Rises}
use Rattle.bucket_state.specs.declared.tree.Branch.{Branch}
use Rattle.bucket_state.specs.declared.tree.Inner.{Inner}
use Rattle.bucket_state.specs.declared.tree.TreeState.{TreeState}
use Rattle.bucket_state.specs.declared.tree.TreeState.TheVariants as trees
use Rattle.bucket_state.specs.States.{found_both, found_all, members_at, link_at, bucket_in, bucket_of, follows, stand_in_row, pair_entries}
use Rattle.bucket_state.specs.Trees.{separators_of, branch_at, standing_branches, branches_in, children_in, inner_in, leaf_before, lone_leaf, embedded_in, tree_members, tree_in, tree_state_of}
use Rattle.zb_record.specs.declared.error.RecordError.{RecordError}
use Rattle.zb_record.specs.Records.{record_of}
use Rattle.btree_shapes.specs.declared.node.Node.{Node}
use Rattle.btree_shapes.specs.declared.node.Node.TheVariants as node
use Rattle.btree_shapes.specs.Classes.{is_class_of}
use Rattle.btree_shapes.specs.Nodes.{Holds, lone_or_inner, node_of_kind, own_node, node_of_leaf, leaf_named, node_of, held_node, held_record, held_in, class_held, objects_of}

-- ---- parts of what is found

and_left : (a b : Bool) → (a && b) ≡ true → a ≡ true
and_left true b e = refl
and_left false b e = absurd cc

passed : {X : Type 0} (t : Bool) (x y : X) → (if t then Some x else None) ≡ Some y → (t ≡ true) × (x ≡ y)
passed true x y h = (refl, cc)
passed false x y h = absurd cc

of_then : {X Y : Type 0} (f : X → Option Y) (o : Option X) (y : Y) → option_and_then f o ≡ Some y → (x : X) × (o ≡ Some x) × (f x ≡ Some y)
of_then f None y h = absurd cc
of_then f (Some x) y h = (x, refl, h)

of_both : {A B C : Type 0} (f : A → B → C) (a : Option A) (b : Option B) (c : C) → found_both f a b ≡ Some c → (x : A) × (y : B) × (a ≡ Some x) × (b ≡ Some y) × (f x y ≡ c)
of_both f None b c h = absurd cc
of_both f (Some x) None c h = absurd cc
of_both f (Some x) (Some y) c h = let same : f x y ≡ c = cc in (x, y, refl, refl, same)

of_map : {X Y : Type 0} (f : X → Y) (o : Option X) (y : Y) → option_map f o ≡ Some y → (x : X) × (o ≡ Some x) × (f x ≡ y)
of_map f None y h = absurd cc
of_map f (Some x) y h = (x, refl, cc)

-- ---- separators

row_next : (b c : Bool) → (if b then c else false) ≡ true → (b ≡ true) × (c ≡ true)
row_next true c h = (refl, h)
row_next false c h = absurd cc

follows_above : (before : Option Key) (key : Key) → follows before key ≡ true → is_key_above before key ≡ true
follows_above None key h = refl
follows_above (Some low) key h = and_left _ _ h

row_rises : (before : Option Key) (keys : List Key) → stand_in_row before keys ≡ true → Rises before keys
row_rises before [] h = tt
row_rises before (key ∷ keys) h = let p = row_next (follows before key) (stand_in_row (Some key) keys) h in (follows_above before key p.0, row_rises (Some key) keys p.1)

branches_rise : (kind : KeyKind) (ns : List ValueNode) (members : List ℕ) (bs : List Branch) → branches_in kind ns members ≡ Some bs → Rises None (separators_of bs)
branches_rise kind ns members bs h =
    let s = of_then standing_branches (option_and_then (found_all (branch_at kind ns)) (pair_entries members)) bs h in
    let p = passed (stand_in_row None (separators_of s.0)) s.0 bs s.2 in
    subst (λ xs. Rises None (separators_of xs)) p.1 (row_rises None (separators_of s.0) p.0)

children_rise : (kind : KeyKind) (ns : List ValueNode) (members : List ℕ) (found : ℕ × List Branch) → children_in kind ns members ≡ Some found → Rises None (separators_of found.1)
children_rise kind ns [] found h = absurd cc
children_rise kind ns (head ∷ rest) found h =
    let b = of_both (λ oid branches. (oid, branches)) (link_at ns head) (branches_in kind ns rest) found h in
    let same : b.1 ≡ found.1 = ap (λ (p : ℕ × List Branch). p.1) b.4 in
    subst (λ xs. Rises None (separators_of xs)) same (branches_rise kind ns rest b.1 b.3)

inner_rises : (kind : KeyKind) (ns : List ValueNode) (children first : ℕ) (inner : Inner) → inner_in kind ns children first ≡ Some (trees.Children inner) → Rises None (separators_of inner.tail)
inner_rises kind ns children first inner h =
    let b = of_both (λ found oid. trees.Children (record { head = found.0; tail = found.1; first = oid })) (option_and_then (children_in kind ns) (members_at ns children)) (link_at ns first) (trees.Children inner) h in
    let same : inner ≡ record { head = b.0.0; tail = b.0.1; first = b.1 } = cc (b.4) in
    let m = of_then (children_in kind ns) (members_at ns children) b.0 b.2 in
    subst (λ (i : Inner). Rises None (separators_of i.tail)) (sym same) (children_rise kind ns m.0 b.0 m.2)

before_not : (found : BucketContents) (next : Option ℕ) (inner : Inner) → leaf_before next found ≡ Some (trees.Children inner) → ⊥
before_not found None inner h = cc
before_not found (Some oid) inner h = cc

embedded_not : (class : Class) (ns : List ValueNode) (members : List ℕ) (inner : Inner) → embedded_in class ns members ≡ Some (trees.Children inner) → ⊥
embedded_not class ns [] inner h = cc
embedded_not class ns (i ∷ []) inner h =
    let lone = of_then lone_leaf (option_and_then (bucket_in class ns) (members_at ns i)) (trees.Children inner) h in
    before_not lone.0 lone.0.next inner lone.2
embedded_not class ns (i ∷ j ∷ rest) inner h = cc

members_rise : (class : Class) (ns : List ValueNode) (members : List ℕ) (inner : Inner) → tree_members class ns members ≡ Some (trees.Children inner) → Rises None (separators_of inner.tail)
members_rise class ns [] inner h = absurd cc
members_rise class ns (i ∷ []) inner h = let m = of_then (embedded_in class ns) (members_at ns i) (trees.Children inner) h in absurd (embedded_not class ns m.0 inner m.2)
members_rise class ns (i ∷ j ∷ []) inner h = inner_rises class.key ns i j inner h
members_rise class ns (i ∷ j ∷ k ∷ rest) inner h = absurd cc

tree_rises : (class : Class) (ns : List ValueNode) (o : Option ValueNode) (inner : Inner) → tree_in class ns o ≡ Some (trees.Children inner) → Rises None (separators_of inner.tail)
tree_rises class ns None inner h = absurd cc
tree_rises class ns (Some nodes.None) inner h = absurd cc
tree_rises class ns (Some (nodes.Tuple members)) inner h = members_rise class ns members inner h
tree_rises class ns (Some _) inner h = absurd cc

inner_state : (class : Class) (g : Graph) (t : TreeState) (inner : Inner) → tree_state_of class g ≡ Some t → lone_or_inner t ≡ node.Inner inner → Rises None (separators_of inner.tail)
inner_state class g trees.Empty inner e s = absurd cc
inner_state class g (trees.Leaf found) inner e s = absurd cc
inner_state class g (trees.Children found) inner e s =
    let same : found ≡ inner = cc in
    subst (λ (i : Inner). Rises None (separators_of i.tail)) same (tree_rises class g.nodes (slice_get g.nodes g.root) found e)

inner_tree : (class : Class) (g : Graph) (inner : Inner) → option_map lone_or_inner (tree_state_of class g) ≡ Some (node.Inner inner) → Rises None (separators_of inner.tail)
inner_tree class g inner h = let m = of_map lone_or_inner (tree_state_of class g) (node.Inner inner) h in inner_state class g m.0 inner m.1 m.2

inner_bucket : (o : Option BucketContents) (inner : Inner) → option_map node.Leaf o ≡ Some (node.Inner inner) → ⊥
inner_bucket None inner h = cc
inner_bucket (Some b) inner h = cc

inner_kind : (kind : Kind) (class : Class) (g : Graph) (inner : Inner) → node_of_kind kind class g ≡ Some (node.Inner inner) → Rises None (separators_of inner.tail)
inner_kind kinds.Bucket class g inner h = absurd (inner_bucket (bucket_of class g) inner h)
inner_kind kinds.Set class g inner h = absurd (inner_bucket (bucket_of class g) inner h)
inner_kind kinds.Tree class g inner h = inner_tree class g inner h
inner_kind kinds.TreeSet class g inner h = inner_tree class g inner h

inner_named : (o : Option Class) (own state : Graph) (inner : Inner) → node_of_leaf o own state ≡ Some (node.Inner inner) → ⊥
inner_named None own state inner h = cc
inner_named (Some class) own state inner h = by_test (is_class_of class own) h where
  by_test : (b : Bool) → (if b then option_map node.Leaf (bucket_of class state) else None) ≡ Some (node.Inner inner) → ⊥
  by_test true h = inner_bucket (bucket_of class state) inner h
  by_test false h = cc

pub separators_rise : (class : Class) (own state : Graph) (inner : Inner) → node_of class own state ≡ Some (node.Inner inner) → Rises None (separators_of inner.tail)
separators_rise class own state inner h = by_test (is_class_of class own) h where
  by_test : (b : Bool) → (if b then own_node class state else leaf_named class own state) ≡ Some (node.Inner inner) → Rises None (separators_of inner.tail)
  by_test true h = inner_kind class.kind class state inner h
  by_test false h = absurd (inner_named (leaf_in classes class) own state inner h)

found_rises : (class : Class) (own state : Graph) (o : Option Node) (other : Graph) (inner : Inner) → node_of class own state ≡ o → held_node own o ≡ Holds other (node.Inner inner) → Rises None (separators_of inner.tail)
found_rises class own state None other inner n h = absurd cc
found_rises class own state (Some found) other inner n h =
    let same : found ≡ node.Inner inner = cc in
    separators_rise class own state inner (n ∙ ap Some same)

record_rises : (class : Class) (read : Result (Graph × Graph) RecordError) (other : Graph) (inner : Inner) → held_record class read ≡ Holds other (node.Inner inner) → Rises None (separators_of inner.tail)
record_rises class (Err e) other inner h = absurd cc
record_rises class (Ok object) other inner h = found_rises class object.0 object.1 (node_of class object.0 object.1) other inner refl h

bytes_rise : (class : Option Class) (content : Option (List ℕ)) (other : Graph) (inner : Inner) → held_in class content ≡ Holds other (node.Inner inner) → Rises None (separators_of inner.tail)
bytes_rise None None other inner h = absurd cc
bytes_rise None (Some bytes) other inner h = absurd cc
bytes_rise (Some class) None other inner h = absurd cc
bytes_rise (Some class) (Some bytes) other inner h = record_rises class (record_of bytes) other inner h

-- the separators of an object of a tree rise
pub held_rises : (contents : ℕ → Option (List ℕ)) (root oid : ℕ) (own : Graph) (inner : Inner) → objects_of contents root oid ≡ Holds own (node.Inner inner) → Rises None (separators_of inner.tail)
held_rises contents root oid own inner h = bytes_rise (class_held (contents root)) (contents oid) own inner h
