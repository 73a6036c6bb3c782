-- What was put reads back.
use Rattle.std.proofs.Common.{◌≡◌, ℕ, Bool, true, false, List, [], ◌∷◌, Option, Some, None, Result, Ok, Err, refl, arith, sym, ◌∙◌, ap, subst, inl, inr}
use Rattle.std.specs.Prelude.{if◌then◌else◌, map, ◌==◌, ◌&&◌, eqb, nat_eq, ◌||◌}
use Rattle.std.specs.Cmp.Lexicographic.{pointwise}
use Rattle.std.proofs.lemmas.Grind.{common_steps}
use Rattle.pickle_graph.specs.declared.node.Node.{Node as ValueNode}
use Rattle.pickle_graph.specs.declared.node.Node.TheVariants as nodes
use Rattle.pickle_graph.specs.Graph.{Graph}
use Rattle.pickle_writing.specs.Spelling.{Spelled}
use Rattle.btree_family.specs.declared.bucket.Item.{Item}
use Rattle.btree_family.specs.Keys.{key_eq}
use Rattle.btree_family.specs.Classes.{Class, classes, class_in, is_known_as}
use Rattle.btree_family.specs.Buckets.{BucketContents}
use Rattle.bucket_state.specs.declared.tree.Branch.{Branch}
use Rattle.zb_record.specs.declared.error.RecordError.{RecordError}
use Rattle.pickle_graph.specs.Class.{is_class}
use Rattle.zb_record.specs.Records.{record_of, object_text}
use Rattle.btree_shapes.specs.declared.node.Node.{Node}
use Rattle.btree_shapes.specs.declared.node.Node.TheVariants as node
use Rattle.btree_shapes.specs.Classes.{class_node, class_named_in, class_named, is_named_in, is_class_of}
use Rattle.btree_shapes.specs.Nodes.{node_of, Held, Holds, held_node, held_record, held_in, record_class, class_held, objects_of}
use Rattle.btree_shapes.specs.Spaces.{with_bytes, text_or_none}
use Rattle.btree_shapes.specs.Ways.{stands_in}
use Rattle.btree_shapes.specs.Shapes.{node_held, nodes_in}
use Rattle.btree_putting.specs.declared.puts.Put.{Put}
use Rattle.btree_putting.specs.Items.{same_value, same_item, same_items, same_branch, same_branches}
use Rattle.btree_putting.specs.Puts.{put_oid, same_link, same_node, is_copy, is_class_kept, reads_as, text_reads_as, state_reads_as, keeps, all_keep, state_bytes, put_bytes, put_all}
use Rattle.btree_putting.specs.Writing.{node_state}
use Rattle.btree_maps.specs.Drawn.{Differ}
use Rattle.btree_family.specs.OrderLaws.{eq_is}
use Rattle.btree_maps.proofs.SetItems.{bytes_same, value_same}
use Rattle.btree_maps.proofs.Nodes.{lone_next}
use Rattle.btree_maps.proofs.Putting.{as_read, AllPut, or_left, or_right, bool_cases, same_number}

-- ---- nodes that hold the same are the same

and_parts : (a b : Bool) → (a && b) ≡ true → (a ≡ true) × (b ≡ true)
and_parts true b e = (refl, e)
and_parts false b e = absurd cc

if_parts : (a b : Bool) → (if a then b else false) ≡ true → (a ≡ true) × (b ≡ true)
if_parts true b e = (refl, e)
if_parts false b e = absurd cc

number_is : (a b : ℕ) → (a == b) ≡ true → a ≡ b
number_is a b e = grind (arith, common_steps)

item_is : (a b : Item) → same_item a b ≡ true → a ≡ b
item_is a b e =
    let p = and_parts (key_eq a.key b.key) (same_value a.value b.value) e in
    ap (λ k. record { key = k; value = a.value }) (eq_is a.key b.key p.0) ∙ ap (λ v. record { key = b.key; value = v }) (value_same a.value b.value p.1)

items_are : (xs ys : List Item) → same_items xs ys ≡ true → xs ≡ ys
items_are [] [] e = refl
items_are [] (y ∷ ys) e = absurd cc
items_are (x ∷ xs) [] e = absurd cc
items_are (x ∷ xs) (y ∷ ys) e = let p = if_parts (same_item x y) (same_items xs ys) e in ap (λ z. z ∷ xs) (item_is x y p.0) ∙ ap (λ zs. y ∷ zs) (items_are xs ys p.1)

branch_is : (a b : Branch) → same_branch a b ≡ true → a ≡ b
branch_is a b e =
    let p = and_parts (key_eq a.key b.key) (a.child == b.child) e in
    ap (λ k. record { key = k; child = a.child }) (eq_is a.key b.key p.0) ∙ ap (λ c. record { key = b.key; child = c }) (number_is a.child b.child p.1)

branches_are : (xs ys : List Branch) → same_branches xs ys ≡ true → xs ≡ ys
branches_are [] [] e = refl
branches_are [] (y ∷ ys) e = absurd cc
branches_are (x ∷ xs) [] e = absurd cc
branches_are (x ∷ xs) (y ∷ ys) e = let p = if_parts (same_branch x y) (same_branches xs ys) e in ap (λ z. z ∷ xs) (branch_is x y p.0) ∙ ap (λ zs. y ∷ zs) (branches_are xs ys p.1)

link_is : (a b : Option ℕ) → same_link a b ≡ true → a ≡ b
link_is None None e = refl
link_is None (Some b) e = absurd cc
link_is (Some a) None e = absurd cc
link_is (Some a) (Some b) e = ap Some (number_is a b e)

node_is : (a b : Node) → ((leaf : BucketContents) → a ≡ node.Lone leaf → leaf.next ≡ None) → same_node a b ≡ true → a ≡ as_read b
node_is (node.Lone a) (node.Lone b) n e = ap (λ is. node.Lone (record { items = is; next = a.next })) (items_are a.items b.items e) ∙ ap (λ o. node.Lone (record { items = b.items; next = o })) (n a refl)
node_is (node.Leaf a) (node.Leaf b) n e =
    let p = and_parts (same_items a.items b.items) (same_link a.next b.next) e in
    ap (λ is. node.Leaf (record { items = is; next = a.next })) (items_are a.items b.items p.0) ∙ ap (λ o. node.Leaf (record { items = b.items; next = o })) (link_is a.next b.next p.1)
node_is (node.Inner a) (node.Inner b) n e =
    let p = and_parts (a.head == b.head) (same_branches a.tail b.tail && (a.first == b.first)) e in
    let q = and_parts (same_branches a.tail b.tail) (a.first == b.first) p.1 in
    ap (λ h. node.Inner (record { head = h; tail = a.tail; first = a.first })) (number_is a.head b.head p.0)
    ∙ ap (λ t. node.Inner (record { head = b.head; tail = t; first = a.first })) (branches_are a.tail b.tail q.0)
    ∙ ap (λ f. node.Inner (record { head = b.head; tail = b.tail; first = f })) (number_is a.first b.first q.1)
node_is (node.Lone a) (node.Leaf b) n e = absurd cc
node_is (node.Lone a) (node.Inner b) n e = absurd cc
node_is (node.Leaf a) (node.Lone b) n e = absurd cc
node_is (node.Leaf a) (node.Inner b) n e = absurd cc
node_is (node.Inner a) (node.Lone b) n e = absurd cc
node_is (node.Inner a) (node.Leaf b) n e = absurd cc

-- ---- classes

-- two names of a class of BTrees are one
class_found : (m n : List ℕ) (rows : List Class) (class : Class) → class_in rows m n ≡ Some class → is_known_as m n class ≡ true
class_found m n [] class e = absurd cc
class_found m n (row ∷ rows) class e = by_test (λ f. class_found m n rows class f) (is_known_as m n row) refl e where
  by_test : (class_in rows m n ≡ Some class → is_known_as m n class ≡ true) → (b : Bool) → is_known_as m n row ≡ b → (if b then Some row else class_in rows m n) ≡ Some class → is_known_as m n class ≡ true
  by_test deeper true i e = let same : row ≡ class = cc in subst (λ (c : Class). is_known_as m n c ≡ true) same i
  by_test deeper false i e = deeper e

known_names : (m n : List ℕ) (class : Class) → is_known_as m n class ≡ true → (class.module_name ≡ m) × (class.class_name ≡ n)
known_names m n class e =
    let p = and_parts (pointwise eqb class.module_name m) (pointwise eqb class.class_name n) e in
    (bytes_same class.module_name m p.0, bytes_same class.class_name n p.1)

-- a graph that names a class of BTrees, and is of another one, names that one
class_by : (o p : Option ValueNode) (named class : Class) → class_named_in o ≡ Some named → is_named_in named p ≡ true → class_named_in p ≡ Some class → named ≡ class
class_by o None named class e k f = absurd cc
class_by None p named class e k f = absurd cc
class_by (Some (nodes.Global m n)) (Some (nodes.Global m' n')) named class e k f =
    let a = known_names m n named (class_found m n classes named e) in
    let b = known_names m' n' named k in
    let ms : m ≡ m' = sym a.0 ∙ b.0 in
    let ns : n ≡ n' = sym a.1 ∙ b.1 in
    let g : Some named ≡ Some class = sym e ∙ ap (λ x. class_in classes x n) ms ∙ ap (λ x. class_in classes m' x) ns ∙ f in
    cc (g)
class_by (Some (nodes.Global m n)) (Some _) named class e k f = absurd cc
class_by (Some _) p named class e k f = absurd cc

pub same_class : (copy own : Graph) (named class : Class) → class_named copy ≡ Some named → is_class_of named own ≡ true → class_named own ≡ Some class → named ≡ class
same_class copy own named class e k f = class_by (class_node copy) (class_node own) named class e k f

-- ---- one put

-- a record that holds a put's node, and is of its class of BTrees
pub record ReadsBack (class : Class) (put : Put) (bytes : List ℕ) : Type 0 where
  pub copy : Graph
  pub held : held_in (Some class) (Some bytes) ≡ Holds copy (as_read put.node)
  pub named : Class
  pub class_is : class_held (Some bytes) ≡ Some named
  pub kept : is_class_of named put.class ≡ true

-- the same of what the bytes are read as
record RecordBack (class : Class) (put : Put) (r : Result (Graph × Graph) RecordError) : Type 0 where
  copy : Graph
  held : held_record class r ≡ Holds copy (as_read put.node)
  named : Class
  class_is : record_class r ≡ Some named
  kept : is_class_of named put.class ≡ true

class_kept : (own : Graph) (o : Option Class) → is_class_kept own o ≡ true → (named : Class) × (o ≡ Some named) × (is_class_of named own ≡ true)
class_kept own None e = absurd cc
class_kept own (Some named) e = (named, refl, e)

copy_is : (class : Class) (own state : Graph) (n : Node) (o : Option Node) → node_of class own state ≡ o → is_copy n o ≡ true → o ≡ Some (as_read n)
copy_is class own state n None e k = absurd cc
copy_is class own state n (Some copy) e k = ap Some (node_is copy n (λ leaf i. lone_next class own state leaf (e ∙ ap Some i)) k)

record_back : (class : Class) (put : Put) (r : Result (Graph × Graph) RecordError) → reads_as class put r ≡ true → RecordBack class put r
record_back class put (Err e) k = absurd cc
record_back class put (Ok copy) k =
    let p = and_parts (is_class_kept put.class (class_named copy.0)) (is_copy put.node (node_of class copy.0 copy.1)) k in
    let c = class_kept put.class (class_named copy.0) p.0 in
    let n = copy_is class copy.0 copy.1 put.node (node_of class copy.0 copy.1) refl p.1 in
    record { copy = copy.0; held = ap (held_node copy.0) n; named = c.0; class_is = c.1; kept = c.2 }

text_back : (class : Class) (put : Put) (t : Spelled) → text_reads_as class put t ≡ true → ReadsBack class put (text_or_none t)
text_back class put (Err e) k = absurd cc
text_back class put (Ok text) k = let r = record_back class put (record_of text) k in record { copy = r.copy; held = r.held; named = r.named; class_is = r.class_is; kept = r.kept }

state_back : (class : Class) (put : Put) (o : Option Graph) → state_reads_as class put o ≡ true → ReadsBack class put (state_bytes put.class o)
state_back class put None k = absurd cc
state_back class put (Some state) k = let p = and_parts (is_class put.class) (text_reads_as class put (object_text put.class state)) k in text_back class put (object_text put.class state) p.1

pub reads_back : (class leaf : Class) (put : Put) → keeps class leaf put ≡ true → ReadsBack class put (put_bytes class leaf put)
reads_back class leaf put k = state_back class put (node_state class leaf put.leaves put.node) k

-- ---- several puts

with_there : (contents : ℕ → Option (List ℕ)) (o : ℕ) (bytes : List ℕ) → with_bytes contents o bytes o ≡ Some bytes
with_there contents o bytes = grind (arith, common_steps)

with_else : (contents : ℕ → Option (List ℕ)) (o p : ℕ) (bytes : List ℕ) → nat_eq o p ≡ false → with_bytes contents o bytes p ≡ contents p
with_else contents o p bytes e = grind (arith, common_steps)

pub put_all_else : (class leaf : Class) (ps : List Put) (contents : ℕ → Option (List ℕ)) (p : ℕ) → stands_in (map put_oid ps) p ≡ false → put_all class leaf ps contents p ≡ contents p
put_all_else class leaf [] contents p s = refl
put_all_else class leaf (x ∷ xs) contents p s =
    put_all_else class leaf xs (with_bytes contents x.oid (put_bytes class leaf x)) p (or_right (nat_eq x.oid p) (stands_in (map put_oid xs) p) s) ∙ with_else contents x.oid p (put_bytes class leaf x) (or_left (nat_eq x.oid p) (stands_in (map put_oid xs) p) s)

-- each of these reads back
abbrev pub AllBack : Class → (ℕ → Option (List ℕ)) → List Put → Type 0
AllBack class contents [] = Unit {0}
AllBack class contents (p ∷ ps) = ((bytes : List ℕ) × (contents p.oid ≡ Some bytes) × ReadsBack class p bytes) × AllBack class contents ps

pub all_back : (class leaf : Class) (ps : List Put) (contents : ℕ → Option (List ℕ)) → Differ (map put_oid ps) → all_keep class leaf ps ≡ true → AllBack class (put_all class leaf ps contents) ps
all_back class leaf [] contents d k = tt
all_back class leaf (x ∷ xs) contents d k =
    let p = if_parts (keeps class leaf x) (all_keep class leaf xs) k in
    let there : put_all class leaf xs (with_bytes contents x.oid (put_bytes class leaf x)) x.oid ≡ Some (put_bytes class leaf x) = put_all_else class leaf xs (with_bytes contents x.oid (put_bytes class leaf x)) x.oid d.0 ∙ with_there contents x.oid (put_bytes class leaf x) in
    ((put_bytes class leaf x, there, reads_back class leaf x p.0), all_back class leaf xs (with_bytes contents x.oid (put_bytes class leaf x)) d.1 p.1)

pub back_put : (class : Class) (contents : ℕ → Option (List ℕ)) (root : ℕ) (ps : List Put) → class_held (contents root) ≡ Some class → AllBack class contents ps → AllPut (nodes_in (objects_of contents root)) ps
back_put class contents root [] c a = tt
back_put class contents root (p ∷ ps) c a =
    let r = a.0 in
    (ap (λ z. node_held (held_in z (contents p.oid))) c ∙ ap (λ z. node_held (held_in (Some class) z)) r.1 ∙ ap node_held r.2.held, back_put class contents root ps c a.1)

-- ---- the root keeps its class

-- each of these stands in the place of an object of its class
abbrev pub AllHeld : (ℕ → Held) → List Put → Type 0
AllHeld objects [] = Unit {0}
AllHeld objects (p ∷ ps) = ((n : Node) × (objects p.oid ≡ Holds p.class n)) × AllHeld objects ps

held_class : (class own : Class) (r : Result (Graph × Graph) RecordError) (g : Graph) (n : Node) → record_class r ≡ Some own → held_record class r ≡ Holds g n → class_named g ≡ Some own
held_class class own (Err e) g n c h = absurd cc
held_class class own (Ok object) g n c h = by_node (node_of class object.0 object.1) h where
  by_node : (o : Option Node) → held_node object.0 o ≡ Holds g n → class_named g ≡ Some own
  by_node None h = absurd cc
  by_node (Some m) h = let same : object.0 ≡ g = cc in ap class_named (sym same) ∙ c

held_bytes : (class own : Class) (o : Option (List ℕ)) (g : Graph) (n : Node) → class_held o ≡ Some own → held_in (Some class) o ≡ Holds g n → class_named g ≡ Some own
held_bytes class own None g n c h = absurd cc
held_bytes class own (Some bytes) g n c h = held_class class own (record_of bytes) g n c h

-- the class of the object at the root
pub root_class : (contents : ℕ → Option (List ℕ)) (root : ℕ) (class : Class) (g : Graph) (n : Node) → class_held (contents root) ≡ Some class → objects_of contents root root ≡ Holds g n → class_named g ≡ Some class
root_class contents root class g n c h = held_bytes class class (contents root) g n c (sym (ap (λ z. held_in z (contents root)) c) ∙ h)

-- where a put is one for the root, it is of the root's class
abbrev pub OfRoot : (ℕ → Option (List ℕ)) → ℕ → List Put → Type 0
OfRoot before root [] = Unit {0}
OfRoot before root (p ∷ ps) = (p.oid ≡ root → (n : Node) × (objects_of before root root ≡ Holds p.class n)) × OfRoot before root ps

put_class : (class : Class) (before after : ℕ → Option (List ℕ)) (root : ℕ) (ps : List Put) → class_held (before root) ≡ Some class → AllBack class after ps → OfRoot before root ps → stands_in (map put_oid ps) root ≡ true → class_held (after root) ≡ Some class
put_class class before after root [] c a held s = absurd cc
put_class class before after root (p ∷ ps) c a held s = elim (bool_cases (nat_eq p.oid root)) [
  | inl t ↦
      let here : p.oid ≡ root = same_number p.oid root t in
      let h = held.0 here in
      let own = root_class before root class p.class h.0 c h.1 in
      let r = a.0.2 in
      let bytes : after root ≡ Some a.0.0 = ap after (sym here) ∙ a.0.1 in
      let named : class_named r.copy ≡ Some r.named = held_bytes class r.named (Some a.0.0) r.copy (as_read p.node) r.class_is r.held in
      let same : r.named ≡ class = same_class r.copy p.class r.named class named r.kept own in
      ap class_held bytes ∙ r.class_is ∙ ap Some same
  | inr t ↦ put_class class before after root ps c a.1 held.1 (sym (ap (λ b. b || stands_in (map put_oid ps) root) t) ∙ s)
]

-- the root keeps its class
pub class_stays : (class leaf : Class) (before : ℕ → Option (List ℕ)) (root : ℕ) (ps : List Put) → class_held (before root) ≡ Some class → Differ (map put_oid ps) → all_keep class leaf ps ≡ true → OfRoot before root ps → class_held (put_all class leaf ps before root) ≡ Some class
class_stays class leaf before root ps c d k held = elim (bool_cases (stands_in (map put_oid ps) root)) [
  | inl t ↦ put_class class before (put_all class leaf ps before) root ps c (all_back class leaf ps before d k) held t
  | inr t ↦ ap class_held (put_all_else class leaf ps before root t) ∙ c
]
