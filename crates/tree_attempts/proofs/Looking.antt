-- What is read ahead.
use Rattle.std.proofs.Common.{◌≡◌, ℕ, zero, suc, ◌≤◌, ◌^◌, true, List, [], ◌∷◌, ◌++◌, Option, Some, None, Result, Ok, Err, inl, inr, sym, ◌∙◌, ap, subst, append_assoc, append-nil}
use Rattle.std.specs.Prelude.{All, IfOk, OnOk, slice_get, nat_eq}
use Rattle.std.proofs.lemmas.List.Elements.{All-append, All-cons, All-head, All-nil, All-push, All-tail}
use Rattle.pickle_graph.specs.Graph.{Graph}
use Rattle.btree_family.specs.Classes.{Class}
use Rattle.btree_family.specs.Buckets.{BucketContents}
use Rattle.bucket_state.specs.declared.tree.Inner.{Inner}
use Rattle.btree_shapes.specs.declared.node.Node.{Node}
use Rattle.btree_shapes.specs.declared.node.Node.TheVariants as node
use Rattle.btree_shapes.specs.Classes.{class_named}
use Rattle.btree_shapes.specs.Nodes.{class_held, held_in, held_node, held_record, node_of, objects_of, record_class}
use Rattle.btree_shapes.specs.Reading.{HoldsRecord}
use Rattle.btree_shapes.specs.Ways.{stands_in}
use Rattle.btree_maps.specs.declared.span.Span.{Span}
use Rattle.btree_maps.specs.Visits.{children_in, children_within}
use Rattle.tree_attempts.specs.declared.known.Seen.{Seen}
use Rattle.tree_attempts.specs.declared.operation.TreeOperation.{TreeOperation}
use Rattle.tree_attempts.specs.declared.operation.TreeOperation.TheVariants as operation
use Rattle.tree_attempts.specs.Ahead.{AreAhead, IsMet, IsNoRecord, bytes_seen, span_of}
use Rattle.tree_attempts.specs.Calls.{MayRead, contents_of}
use Rattle.tree_attempts.specs.Known.{Agrees, known_at}
use Rattle.tree_attempts.proofs.Closing.{met_root, met_within, or_here, or_there, own_number, root_child}

-- ---- what is known of an object

pub class_of_record : (content : Option (List ℕ)) (class state : Graph) → HoldsRecord content class state → class_held content ≡ class_named class
class_of_record content class state h = ap class_held h.1 ∙ ap record_class h.2

pub contents_known : (known : List (ℕ × Option Seen)) (objects : ℕ → Option Seen) (oid : ℕ) (x : Option Seen) → Agrees known objects → known_at known oid ≡ Some x → contents_of objects oid ≡ bytes_seen x
contents_known known objects oid x agrees there = ap bytes_seen (agrees oid x there)

pub class_of_known : (known : List (ℕ × Option Seen)) (objects : ℕ → Option Seen) (root : ℕ) (x : Option Seen) → Agrees known objects → known_at known root ≡ Some x → class_held (contents_of objects root) ≡ class_held (bytes_seen x)
class_of_known known objects root x agrees there = ap class_held (contents_known known objects root x agrees there)

-- what follows from an answer
pub if_ok_more : {X E : Type 0} (P Q : X → Type 0) (r : Result X E) → ((x : X) → P x → Q x) → IfOk r P → IfOk r Q
if_ok_more P Q (Ok x) f p = f x p
if_ok_more P Q (Err e) f p = tt

pub on_ok_more : {X E : Type 0} (P Q : Type 0) (r : Result X E) → (P → Q) → OnOk r P → OnOk r Q
on_ok_more P Q (Ok x) f p = f p
on_ok_more P Q (Err e) f p = tt

-- ---- children

-- what is left of the children was added to what there was
pub children_step : (all before below left : List ℕ) (child : ℕ) (rest now : List ℕ) → before ++ all ≡ below ++ left → left ≡ child ∷ rest → now ≡ below ++ child ∷ [] → before ++ all ≡ now ++ rest
children_step all before below left child rest now e l n = e ∙ ap (λ xs. below ++ xs) l ∙ sym (append_assoc below (child ∷ []) rest) ∙ ap (λ xs. xs ++ rest) (sym n)

pub children_end : (all before below left : List ℕ) → before ++ all ≡ below ++ left → left ≡ [] → below ≡ before ++ all
children_end all before below left e l = sym (e ∙ ap (λ xs. below ++ xs) l ∙ append-nil below)

pub no_children : (span : Span) (class : Class) (content : Option (List ℕ)) → IsNoRecord content → children_in span (held_in (Some class) content) ≡ []
no_children span class content (inl e) = ap (λ c. children_in span (held_in (Some class) c)) e
no_children span class content (inr h) = ap (λ c. children_in span (held_in (Some class) c)) h.2 ∙ ap (λ r. children_in span (held_record class r)) h.3

held_is : (class : Class) (content : Option (List ℕ)) (own state : Graph) (o : Option Node) → HoldsRecord content own state → node_of class own state ≡ o → held_in (Some class) content ≡ held_node own o
held_is class content own state o h n = ap (held_in (Some class)) h.1 ∙ ap (held_record class) h.2 ∙ ap (held_node own) n

pub foreign_children : (span : Span) (class : Class) (content : Option (List ℕ)) (own state : Graph) → HoldsRecord content own state → node_of class own state ≡ None → children_in span (held_in (Some class) content) ≡ []
foreign_children span class content own state h n = ap (children_in span) (held_is class content own state None h n)

pub inner_children : (span : Span) (class : Class) (content : Option (List ℕ)) (own state : Graph) (inner : Inner) → HoldsRecord content own state → node_of class own state ≡ Some (node.Inner inner)
    → children_in span (held_in (Some class) content) ≡ children_within span inner.head inner.tail
inner_children span class content own state inner h n = ap (children_in span) (held_is class content own state (Some (node.Inner inner)) h n)

pub leaf_children : (span : Span) (class : Class) (content : Option (List ℕ)) (own state : Graph) (bucket : BucketContents) → HoldsRecord content own state → node_of class own state ≡ Some (node.Leaf bucket) → children_in span (held_in (Some class) content) ≡ []
leaf_children span class content own state bucket h n = ap (children_in span) (held_is class content own state (Some (node.Leaf bucket)) h n)

pub lone_children : (span : Span) (class : Class) (content : Option (List ℕ)) (own state : Graph) (bucket : BucketContents) → HoldsRecord content own state → node_of class own state ≡ Some (node.Lone bucket) → children_in span (held_in (Some class) content) ≡ []
lone_children span class content own state bucket h n = ap (children_in span) (held_is class content own state (Some (node.Lone bucket)) h n)

-- ---- levels

all_of : (P : ℕ → Type 0) (xs : List ℕ) → ((x : ℕ) → stands_in xs x ≡ true → P x) → All P xs
all_of P [] f = All-nil P
all_of P (x ∷ xs) f = All-cons P x xs (f x (or_here (nat_eq x x) (stands_in xs x) (own_number x))) (all_of P xs (λ y s. f y (or_there (nat_eq x y) (stands_in xs y) s)))

met_children : (contents : ℕ → Option (List ℕ)) (root : ℕ) (span : Span) (room oid : ℕ) → IsMet contents root span room oid → All (IsMet contents root span (suc room)) (children_in span (objects_of contents root oid))
met_children contents root span room oid m = all_of (IsMet contents root span (suc room)) (children_in span (objects_of contents root oid)) (λ c s. root_child span (objects_of contents root) room root oid c m s)

-- an object of a level that is known was looked into
pub level_opened : (known : List (ℕ × Option Seen)) (objects : ℕ → Option Seen) (root : ℕ) (class : Class) (span : Span) (room oid : ℕ) (x : Option Seen) (below now wanted : List ℕ)
    → Agrees known objects → class_held (contents_of objects root) ≡ Some class → known_at known oid ≡ Some x → IsMet (contents_of objects) root span room oid
    → now ≡ below ++ children_in span (held_in (Some class) (bytes_seen x)) → AreAhead (contents_of objects) root span room below wanted → AreAhead (contents_of objects) root span room now wanted
level_opened known objects root class span room oid x below now wanted agrees is there m n a =
    let held : objects_of (contents_of objects) root oid ≡ held_in (Some class) (bytes_seen x) = ap (λ c. held_in c (contents_of objects oid)) is ∙ ap (held_in (Some class)) (contents_known known objects oid x agrees there) in
    let more = subst (λ h. All (IsMet (contents_of objects) root span (suc room)) (children_in span h)) held (met_children (contents_of objects) root span room oid m) in
    (subst (All (IsMet (contents_of objects) root span (suc room))) (sym n) (All-append (IsMet (contents_of objects) root span (suc room)) below (children_in span (held_in (Some class) (bytes_seen x))) a.0 more), a.1)

-- one that isn't known is wanted
pub level_wanted : (contents : ℕ → Option (List ℕ)) (root : ℕ) (span : Span) (room oid : ℕ) (below wanted now : List ℕ) → room ≤ 2 ^ 64 → IsMet contents root span room oid → now ≡ wanted ++ oid ∷ [] → AreAhead contents root span room below wanted → AreAhead contents root span room below now
level_wanted contents root span room oid below wanted now l m n a =
    (a.0, subst (All (IsMet contents root span (2 ^ 64))) (sym n) (All-push (IsMet contents root span (2 ^ 64)) wanted oid a.1 (met_within span (objects_of contents root) room (2 ^ 64) [] root oid l m)))

pub met_of_level : (P : ℕ → Type 0) (level : List ℕ) (i oid : ℕ) → All P level → slice_get level i ≡ Some oid → P oid
met_of_level P [] i oid a g = absurd cc
met_of_level P (x ∷ xs) zero oid a g = let same : x ≡ oid = cc in subst P same (All-head P x xs a)
met_of_level P (x ∷ xs) (suc i) oid a g = met_of_level P xs i oid (All-tail P x xs a) g

-- ---- all levels

-- at so many levels lie these, and these are wanted
abbrev pub IsAtLevel : (ℕ → Option (List ℕ)) → ℕ → Span → ℕ → List ℕ → List ℕ → Type 0
IsAtLevel contents root span depth level wanted = All (IsMet contents root span (suc depth)) level × All (IsMet contents root span (2 ^ 64)) wanted

pub level_root : (contents : ℕ → Option (List ℕ)) (root : ℕ) (span : Span) (none level wanted : List ℕ) → none ≡ [] → level ≡ none ++ root ∷ [] → wanted ≡ [] → IsAtLevel contents root span 0 level wanted
level_root contents root span none level wanted o e w =
    let same : level ≡ root ∷ [] = e ∙ ap (λ xs. xs ++ root ∷ []) o in
    let here = IsMet contents root span 1 in
    (subst (All here) (sym same) (All-cons here root [] (met_root span (objects_of contents root) root) (All-nil here)), subst (All (IsMet contents root span (2 ^ 64))) (sym w) (All-nil (IsMet contents root span (2 ^ 64))))

some_span : (a b : Span) → Some a ≡ Some b → a ≡ b
some_span a b e = cc

pub may_read : (contents : ℕ → Option (List ℕ)) (root : ℕ) (op : TreeOperation) (span : Span) (wanted : List ℕ) → span_of op ≡ Some span → All (IsMet contents root span (2 ^ 64)) wanted → All (MayRead contents root op) wanted
may_read contents root (operation.Get key) span wanted e a = absurd cc
may_read contents root (operation.Set key value) span wanted e a = absurd cc
may_read contents root (operation.Remove key) span wanted e a = absurd cc
may_read contents root operation.Items span wanted e a = subst (λ s. All (IsMet contents root s (2 ^ 64)) wanted) (sym (some_span _ span e)) a
may_read contents root (operation.Range from to) span wanted e a = subst (λ s. All (IsMet contents root s (2 ^ 64)) wanted) (sym (some_span _ span e)) a
